-- Verdicts on frames of a light bulb and a switch of one maker.
use Rattle.std.proofs.Common.{◌≡◌, ℕ, true, false, List, [], ◌∷◌, ◌++◌, Option, Some, None, take, map, refl}
use Rattle.std.specs.Prelude.{codes, bytes_eq, if◌then◌else◌}
use Rattle.mud_base.specs.declared.addr.Family.TheVariants as family
use Rattle.mud_base.specs.declared.packet.Direction.TheVariants.{From, To}
use Rattle.frame_view.specs.declared.views.Part.TheVariants as part
use Rattle.frame_view.specs.Frame.{frame_of}
use Rattle.frame_view.proofs.Hex.{from_hex}
use Rattle.acl_model.specs.declared.entry.Selector.{Selector}
use Rattle.acl_model.specs.declared.entry.Selector.TheVariants as asks
use Rattle.acl_model.specs.declared.entry.PortTest.TheVariants as port
use Rattle.acl_model.specs.declared.entry.Layer.{Layer}
use Rattle.acl_model.specs.declared.entry.Layer.TheVariants as layer
use Rattle.acl_model.specs.declared.entry.Action.TheVariants as action
use Rattle.acl_model.specs.declared.entry.Entry.{Entry}
use Rattle.acl_model.specs.declared.entry.Policy.{Policy}
use Rattle.acl_model.specs.declared.ruling.DefaultRule.TheVariants.{Dns}
use Rattle.acl_model.specs.declared.ruling.Why.TheVariants.{NoFile, NoMatch}
use Rattle.acl_model.specs.declared.ruling.Ruling.{Ruling}
use Rattle.acl_model.specs.declared.ruling.Ruling.TheVariants.{Accept, AcceptDefault, Drop, DropDefault, DropHeld}
use Rattle.table_model.specs.declared.bind.Class.TheVariants.{Uri}
use Rattle.table_model.specs.declared.segment.Segment.{Segment}
use Rattle.table_model.specs.declared.thing.Thing.{Thing}
use Rattle.table_model.specs.Tables.{Tables}
use Rattle.table_model.proofs.Literals.{switch_addr, dns_addr, test_addr, bulb_url, switch_url, dns_class, test_name, bulb, bare_switch}
use Rattle.packet_judge.specs.declared.verdict.Verdict.{Verdict}
use Rattle.packet_judge.specs.declared.verdict.Verdict.TheVariants.{Unmanaged, Link, Unreadable, Governed}
use Rattle.packet_judge.specs.Verdicts.{verdict_of, rulings_of, forwarded, history_after}
use Rattle.packet_judge.proofs.OnLiterals.{verdicts_compute}

-- ---- Files

abbrev entry : Selector → Option ℕ → Layer → Entry
entry selector protocol transport = record { acl = []; name = []; family = family.V4; selectors = selector ∷ []; own = None; protocol = protocol; dscp = None; ecn = None; length = None; ttl = None; layer = transport; action = action.Accept }

-- HTTPS with the server on connections that the bulb began, and all that is sent to Things of its maker
abbrev bulb_policy : Policy
bulb_policy = record {
  outgoing = entry (asks.Name test_name) (Some 6) (layer.Tcp port.Any (port.Eq 443) (Some From) None) ∷ entry asks.SameManufacturer None layer.Any ∷ [];
  incoming = entry (asks.Name test_name) (Some 6) (layer.Tcp (port.Eq 443) port.Any (Some From) None) ∷ [];
}

-- no DNS
abbrev strict_policy : Policy
strict_policy = record {
  outgoing = record (entry asks.MyController None (layer.Udp port.Any (port.Eq 53))) { selectors = []; action = action.Drop } ∷ [];
  incoming = [];
}

-- answers to Things of its maker
abbrev switch_policy : Policy
switch_policy = record { outgoing = entry asks.SameManufacturer None (layer.Tcp port.Any port.Any (Some To) None) ∷ []; incoming = [] }

abbrev both_policies : List ℕ → Option Policy
both_policies url = if bytes_eq url bulb_url then Some bulb_policy else (if bytes_eq url switch_url then Some switch_policy else None)

-- ---- Tables: the bulb with its lease, the class of DNS servers, and the server's name until 1060

abbrev tables_with : List Thing → Tables
tables_with things = record { things = things; classes = record { class = Uri dns_class; addrs = dns_addr ∷ [] } ∷ []; locals = []; names = record { name = test_name; addrs = (test_addr, 1060) ∷ [] } ∷ [] }

abbrev held : Thing → Thing
held thing = record thing { held = true }

abbrev switch : Thing
switch = record bare_switch { leases = (switch_addr, 87400) ∷ [] }

-- ---- Frames

-- from the bulb's port 50000 to port 443 of the server: the first of a connection, with these flags and fragment offset
abbrev call_frame : List ℕ → List ℕ → List ℕ
call_frame fragment flags = from_hex (codes "0200000000fe 020000000001 0800 45000028 0001" ++ fragment ++ codes "40060000 c000020a c6336407 c35001bb 00000001 00000000 50" ++ flags ++ codes "ffff 00000000")

abbrev call : List ℕ
call = call_frame (codes "0000") (codes "02")

-- from the server, and its first answer
abbrev back_frame : List ℕ → List ℕ
back_frame flags = from_hex (codes "020000000001 0200000000fe 0800 45000028 00010000 40060000 c6336407 c000020a 01bbc350 00000001 00000000 50" ++ flags ++ codes "ffff 00000000")

abbrev answer : List ℕ
answer = back_frame (codes "12")

-- between the bulb's port 50000 and the switch's port 80
abbrev knock : List ℕ
knock = from_hex (codes "020000000002 020000000001 0800 45000028 00010000 40060000 c000020a c000020b c3500050 00000001 00000000 5002ffff 00000000")

abbrev reply : List ℕ
reply = from_hex (codes "020000000001 020000000002 0800 45000028 00010000 40060000 c000020b c000020a 0050c350 00000001 00000000 5012ffff 00000000")

-- the bulb asks a DNS server
abbrev question : List ℕ
question = from_hex (codes "0200000000fe 020000000001 0800 4500001c 00020000 40110000 c000020a c0000235 9c400035 00080000")

-- the bulb asks all stations for an address, by ARP
abbrev arp : List ℕ
arp = from_hex (codes "ffffffffffff 020000000001 0806")

-- from one station that is no Thing to another
abbrev strange : List ℕ
strange = from_hex (codes "0200000000fe 0200000000fd 0800")

-- ---- Verdicts

abbrev verdict_in : List Thing → (List ℕ → Option Policy) → List Segment → ℕ → List ℕ → Verdict
verdict_in things policies history now octets = verdict_of (rulings_of (tables_with things) policies history now) things octets

abbrev of_bulb : ℕ → List ℕ → Verdict
of_bulb now octets = verdict_in (bulb ∷ []) both_policies [] now octets

abbrev after : ℕ → List ℕ → List Segment
after now octets = history_after [] (frame_of octets) (of_bulb now octets) now

-- each case, in its order
no_head : of_bulb 1001 (take 10 strange) ≡ Unreadable part.Ethernet
unfolding verdicts_compute
no_head = refl

not_managed : map (of_bulb 1001) (strange ∷ from_hex (codes "ffffffffffff 0200000000fe 0806") ∷ []) ≡ Unmanaged ∷ Unmanaged ∷ []
unfolding verdicts_compute
not_managed = refl

keeps_up : of_bulb 1001 arp ≡ Link
unfolding verdicts_compute
keeps_up = refl

cut_off : of_bulb 1001 (take 50 call) ≡ Unreadable part.Transport
unfolding verdicts_compute
cut_off = refl

-- the server's name expires
until_end : map (λ now. of_bulb now call) (1059 ∷ 1060 ∷ []) ≡ Governed (Some (Accept 1)) None ∷ Governed (Some (DropDefault NoMatch)) None ∷ []
unfolding verdicts_compute
until_end = refl

-- a fragment that isn't the first has no ports
fragment : of_bulb 1001 (call_frame (codes "0001") (codes "02")) ≡ Governed (Some (DropDefault NoMatch)) None
unfolding verdicts_compute
fragment = refl

-- a file that drops stands before the defaults
dns : (verdict_in (bulb ∷ []) (λ url. None) [] 1001 question ≡ Governed (Some (AcceptDefault Dns)) None) × (verdict_in (bulb ∷ []) (λ url. Some strict_policy) [] 1001 question ≡ Governed (Some (Drop 1)) None)
unfolding verdicts_compute
dns = (refl, refl)

-- the server begins nothing, and answers what the bulb began
server : (of_bulb 1001 (back_frame (codes "02")) ≡ Governed None (Some (DropDefault NoMatch)))
    × (of_bulb 1001 answer ≡ Governed None (Some (DropDefault NoMatch)))
    × (verdict_in (bulb ∷ []) both_policies (after 1001 call) 1001 answer ≡ Governed None (Some (Accept 1)))
unfolding verdicts_compute
server = (refl, refl, refl)

-- both endpoints are Things, and the knock isn't forwarded, so that nobody began what the reply is part of
two_things : (verdict_in (bulb ∷ switch ∷ []) both_policies [] 1001 knock ≡ Governed (Some (Accept 2)) (Some (DropDefault NoMatch)))
    × (history_after [] (frame_of knock) (Governed (Some (Accept 2)) (Some (DropDefault NoMatch))) 1001 ≡ [])
    × (verdict_in (bulb ∷ switch ∷ []) both_policies [] 1002 reply ≡ Governed (Some (DropDefault NoMatch)) (Some (DropDefault NoMatch)))
unfolding verdicts_compute
two_things = (refl, refl, refl)

-- what a held Thing sends is dropped, but for what keeps the link up
hold : (map (verdict_in (held bulb ∷ switch ∷ []) both_policies [] 1001) (call ∷ knock ∷ arp ∷ []) ≡ Governed (Some DropHeld) None ∷ Governed (Some DropHeld) (Some (DropDefault NoMatch)) ∷ Link ∷ [])
unfolding verdicts_compute
hold = refl

-- ---- What is forwarded

abbrev rulings : List Ruling
rulings = Accept 1 ∷ AcceptDefault Dns ∷ Drop 1 ∷ DropDefault NoFile ∷ DropHeld ∷ []

forwards : map forwarded (Unmanaged ∷ Link ∷ Unreadable part.Ip ∷ map (λ ruling. Governed (Some (Accept 1)) (Some ruling)) rulings) ≡ true ∷ true ∷ false ∷ true ∷ true ∷ false ∷ false ∷ false ∷ []
unfolding verdicts_compute
forwards = refl
