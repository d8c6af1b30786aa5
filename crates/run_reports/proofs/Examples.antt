-- The tables of a store that is written out.
use Rattle.std.proofs.Common.{◌≡◌, [], ◌∷◌, Some, None, codes, refl}
use Rattle.std.specs.Prelude.{⊤}
use Rattle.mud_base.proofs.OnLiterals.{texts_on_literals}
use Rattle.table_model.specs.declared.bind.Class.TheVariants.{Uri}
use Rattle.table_model.proofs.Literals.{dns_addr, test_addr, bulb_url, dns_class, test_name, bulb}
use Rattle.usage_tables.specs.Held.{HeldFile}
use Rattle.usage_tables.specs.Words.{approval_word}
use Rattle.usage_tables.specs.declared.approval.Approval.TheVariants.{Waived}
use Rattle.text_values.specs.Numbers.{expiry_text}
use Rattle.desk_model.specs.DeskTables.{DeskTables, empty_desk}
use Rattle.run_words.specs.declared.command.ReportKind.TheVariants.{Things, Files, Classes, Locals, Names, Due}
use Rattle.run_reports.specs.Rows.{word_part, expiring_part, pending_word, thing_line, lease_line, thing_lines, approved_word, candidate_word, file_line, class_part, class_line, class_lines, local_line, name_line, name_lines, due_line}
use Rattle.run_common.specs.Moments.{listing_moment}
use Rattle.run_reports.specs.Tables.{clock_for, moments_after, table_text}

unfoldable tables_compute : ⊤
unfolding texts_on_literals expiry_text word_part expiring_part pending_word thing_line lease_line thing_lines approval_word approved_word candidate_word file_line class_part class_line class_lines local_line name_line name_lines due_line clock_for moments_after listing_moment table_text empty_desk
tables_compute = tt

-- A bulb with a lease, its approved file, the DNS server and an address of the maker's server, all told at 1000.
abbrev store : HeldFile → DeskTables
store held = record {
  tables = record {
    things = bulb ∷ [];
    classes = record { class = Uri dns_class; addrs = dns_addr ∷ [] } ∷ [];
    locals = [];
    names = record { name = test_name; addrs = (test_addr, 1060) ∷ [] } ∷ [];
  };
  files = record { url = bulb_url; approved = Some (held, Waived); candidate = None } ∷ [];
  stamp = Some 1000;
}

things : (held : HeldFile) → table_text Things None (store held) ≡ codes "thing 02:00:00:00:00:01 https://lighting.example.com/lightbulb2000 - -\nlease 02:00:00:00:00:01 192.0.2.10 87400\n"
unfolding tables_compute
things held = refl

files : (held : HeldFile) → table_text Files None (store held) ≡ codes "file https://lighting.example.com/lightbulb2000 waived no\n"
unfolding tables_compute
files held = refl

classes : (held : HeldFile) → table_text Classes None (store held) ≡ codes "class uri urn:ietf:params:mud:dns 192.0.2.53\n"
unfolding tables_compute
classes held = refl

locals : (held : HeldFile) → table_text Locals None (store held) ≡ []
unfolding tables_compute
locals held = refl

names : (held : HeldFile) → table_text Names None (store held) ≡ codes "name test.example.com 198.51.100.7 1060\n"
unfolding tables_compute
names held = refl

-- ---- The clock

-- a clock that is behind the last change doesn't count
clock_behind : listing_moment (Some 1000) (Some 999) ≡ 1000
unfolding tables_compute
clock_behind = refl

clock_ahead : listing_moment (Some 1000) (Some 1001) ≡ 1001
unfolding tables_compute
clock_ahead = refl

nothing_changed : listing_moment None (Some 5) ≡ 5
unfolding tables_compute
nothing_changed = refl

asked_once : moments_after Due (7 ∷ 8 ∷ 9 ∷ []) ≡ 8 ∷ 9 ∷ []
unfolding tables_compute
asked_once = refl

not_asked : moments_after Names (7 ∷ 8 ∷ 9 ∷ []) ≡ 7 ∷ 8 ∷ 9 ∷ []
unfolding tables_compute
not_asked = refl
