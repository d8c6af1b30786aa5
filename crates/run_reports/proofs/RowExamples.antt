-- The lines of rows that are written out.
use Rattle.std.proofs.Common.{◌≡◌, true, [], ◌∷◌, Some, None, codes, refl}
use Rattle.std.specs.Prelude.{⊤}
use Rattle.mud_base.specs.declared.addr.Addr.TheVariants.{V4, V6}
use Rattle.mud_base.proofs.OnLiterals.{texts_on_literals}
use Rattle.table_model.specs.declared.thing.Thing.{Thing}
use Rattle.table_model.specs.declared.bind.Class.TheVariants.{Uri, Mine}
use Rattle.table_model.specs.Expiries.{for_ever}
use Rattle.table_model.proofs.Literals.{mac_1, bulb_addr, dns_addr, test_addr, bulb_url, next_url, switch_url, dns_class, test_name, bulb, bare_bulb}
use Rattle.usage_tables.specs.Held.{HeldFile}
use Rattle.usage_tables.specs.declared.approval.Approval.TheVariants.{Verified, Waived}
use Rattle.usage_tables.specs.declared.cached_file.CachedFile.{CachedFile}
use Rattle.text_values.specs.Numbers.{expiry_text}
use Rattle.run_reports.specs.Rows.{word_part, expiring_part, pending_word, thing_line, lease_line, thing_lines, approved_word, candidate_word, file_line, class_part, class_line, class_lines, local_line, name_line, name_lines, due_line}
use Rattle.usage_tables.specs.Words.{approval_word}

unfoldable lines_compute : ⊤
unfolding texts_on_literals expiry_text word_part expiring_part pending_word thing_line lease_line thing_lines approval_word approved_word candidate_word file_line class_part class_line class_lines local_line name_line name_lines due_line
lines_compute = tt

-- ---- Things

bulb_leased : thing_lines bulb ≡ codes "thing 02:00:00:00:00:01 https://lighting.example.com/lightbulb2000 - -\nlease 02:00:00:00:00:01 192.0.2.10 87400\n"
unfolding lines_compute
bulb_leased = refl

bulb_bare : thing_lines bare_bulb ≡ codes "thing 02:00:00:00:00:01 https://lighting.example.com/lightbulb2000 - -\n"
unfolding lines_compute
bulb_bare = refl

-- it waits with another URL, is held, and has an address for ever
abbrev held_bulb : Thing
held_bulb = record { mac = mac_1; url = bulb_url; pending = Some next_url; leases = (V6 1, for_ever) ∷ []; held = true }

bulb_held : thing_lines held_bulb ≡ codes "thing 02:00:00:00:00:01 https://lighting.example.com/lightbulb2000 https://lighting.example.com/lightbulb2001 held\nlease 02:00:00:00:00:01 ::1 never\n"
unfolding lines_compute
bulb_held = refl

-- ---- Files

abbrev held : HeldFile
held = record { octets = []; fetched = 1000 }

abbrev waived : CachedFile
waived = record { url = bulb_url; approved = Some (held, Waived); candidate = None }

abbrev waiting : CachedFile
waiting = record { url = bulb_url; approved = None; candidate = Some held }

abbrev both : CachedFile
both = record { url = bulb_url; approved = Some (held, Verified); candidate = Some held }

file_waived : file_line waived ≡ codes "file https://lighting.example.com/lightbulb2000 waived no\n"
unfolding lines_compute
file_waived = refl

file_waiting : file_line waiting ≡ codes "file https://lighting.example.com/lightbulb2000 - yes\n"
unfolding lines_compute
file_waiting = refl

file_both : file_line both ≡ codes "file https://lighting.example.com/lightbulb2000 verified yes\n"
unfolding lines_compute
file_both = refl

-- ---- Classes, local networks, names, URLs

class_named : class_lines (record { class = Uri dns_class; addrs = dns_addr ∷ [] }) ≡ codes "class uri urn:ietf:params:mud:dns 192.0.2.53\n"
unfolding lines_compute
class_named = refl

-- a line for each address
class_of_controllers : class_lines (record { class = Mine switch_url; addrs = bulb_addr ∷ test_addr ∷ [] })
    ≡ codes "class mine https://lighting.example.com/switch1 192.0.2.10\nclass mine https://lighting.example.com/switch1 198.51.100.7\n"
unfolding lines_compute
class_of_controllers = refl

network : local_line (record { addr = V4 0xc0000200; len = 24 }) ≡ codes "local 192.0.2.0/24\n"
unfolding lines_compute
network = refl

name_observed : name_lines (record { name = test_name; addrs = (test_addr, 1060) ∷ [] }) ≡ codes "name test.example.com 198.51.100.7 1060\n"
unfolding lines_compute
name_observed = refl

url_due : due_line bulb_url ≡ codes "due https://lighting.example.com/lightbulb2000\n"
unfolding lines_compute
url_due = refl
