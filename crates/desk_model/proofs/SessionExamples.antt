-- Frames over a desk that is set up: the verdicts, and who began the connection.
use Rattle.std.proofs.Common.{◌≡◌, ℕ, ℤ, Bool, List, [], ◌∷◌, Option, Some, None, Ok, refl, ap}
use Rattle.std.specs.Prelude.{codes}
use Rattle.mud_base.specs.declared.addr.Family.TheVariants as family
use Rattle.mud_base.specs.declared.packet.Direction.TheVariants.{From}
use Rattle.frame_view.proofs.Hex.{from_hex}
use Rattle.acl_model.specs.declared.entry.Selector.TheVariants as asks
use Rattle.acl_model.specs.declared.entry.PortTest.TheVariants as port
use Rattle.acl_model.specs.declared.entry.PortTest.{PortTest}
use Rattle.acl_model.specs.declared.entry.Layer.TheVariants as layer
use Rattle.acl_model.specs.declared.entry.Action.TheVariants as action
use Rattle.acl_model.specs.declared.entry.Entry.{Entry}
use Rattle.acl_model.specs.declared.entry.Policy.{Policy}
use Rattle.acl_model.specs.declared.ruling.Why.TheVariants.{NoMatch}
use Rattle.acl_model.specs.declared.ruling.Ruling.TheVariants.{Accept, DropDefault}
use Rattle.mud_file.specs.File.{file_of}
use Rattle.table_model.specs.declared.bind.Class.TheVariants.{Uri}
use Rattle.table_model.specs.declared.segment.Segment.{Segment}
use Rattle.table_model.proofs.Literals.{bulb_addr, dns_addr, test_addr, bulb_url, dns_class, test_name, bulb}
use Rattle.usage_tables.specs.declared.approval.Approval.TheVariants.{Waived}
use Rattle.usage_tables.specs.Held.{held_file, usage_in}
use Rattle.usage_tables.specs.Files.{url_of, file_at}
use Rattle.usage_tables.specs.Policies.{policy_in_held, policy_in_row, policy_of}
use Rattle.packet_judge.specs.declared.verdict.Verdict.{Verdict}
use Rattle.packet_judge.specs.declared.verdict.Verdict.TheVariants.{Governed}
use Rattle.packet_judge.specs.Verdicts.{rulings_of, verdict_of}
use Rattle.packet_judge.proofs.OnLiterals.{verdicts_compute}
use Rattle.desk_model.specs.DeskTables.{DeskTables}
use Rattle.desk_model.specs.Verdicts.{policy_at, verdict_at}
use Rattle.desk_model.specs.Sessions.{Session, later, verdict_in, frame_in}
use Rattle.desk_model.proofs.Parts.{judged}

-- HTTPS with the server on connections that the bulb began
abbrev https : PortTest → PortTest → Entry
https source destination = record { acl = []; name = []; family = family.V4; selectors = asks.Name test_name ∷ []; own = None; protocol = Some 6; dscp = None; ecn = None; length = None; ttl = None; layer = layer.Tcp source destination (Some From) None; action = action.Accept }

abbrev bulb_policy : Policy
bulb_policy = record { outgoing = https port.Any (port.Eq 443) ∷ []; incoming = https (port.Eq 443) port.Any ∷ [] }

-- the bulb's port 50000 calls port 443 of the server, and the server answers
abbrev call : List ℕ
call = from_hex (codes "0200000000fe 020000000001 0800 45000028 00010000 40060000 c000020a c6336407 c35001bb 00000001 00000000 5002ffff 00000000")

abbrev answer : List ℕ
answer = from_hex (codes "020000000001 0200000000fe 0800 45000028 00010000 40060000 c6336407 c000020a 01bbc350 00000001 00000000 5012ffff 00000000")

abbrev called : ℕ → Segment
called now = record { source = (bulb_addr, 50000); destination = (test_addr, 443); flags = 2; at = now }

abbrev answered : ℕ → Segment
answered now = record { source = (test_addr, 443); destination = (bulb_addr, 50000); flags = 0x12; at = now }

module _ (octets : List ℕ) (update : ℤ) (hours : ℕ) (supported : Bool) (signature : Option (List ℕ)) (extensions : List (List ℕ)) (read : file_of octets ≡ Ok (record { url = bulb_url; update = update; hours = hours; supported = supported; signature = signature; extensions = extensions; policy = bulb_policy })) where
  abbrev desk : DeskTables
  desk = record {
    tables = record { things = bulb ∷ []; classes = record { class = Uri dns_class; addrs = dns_addr ∷ [] } ∷ []; locals = []; names = record { name = test_name; addrs = (test_addr, 1060) ∷ [] } ∷ [] };
    files = record { url = bulb_url; approved = Some (held_file octets 1000, Waived); candidate = None } ∷ [];
    stamp = Some 1000;
  }

  abbrev session : List Segment → ℕ → Session
  session history moment = record { desk = desk; history = history; moment = moment }

  its_policy : policy_at desk bulb_url ≡ Some bulb_policy
  unfolding policy_at policy_of policy_in_row policy_in_held usage_in file_at url_of
  its_policy = rw read refl

  -- the verdict where that is the policy of each URL
  abbrev by_policy : List Segment → ℕ → List ℕ → Option Policy → Verdict
  by_policy history now frame policy = verdict_of (rulings_of desk.tables (λ url. policy) history now) desk.tables.things frame

  call_verdict : verdict_at desk [] 1059 call ≡ Governed (Some (Accept 1)) None
  unfolding verdicts_compute verdict_at
  call_verdict = ap (by_policy [] 1059 call) its_policy

  ended_verdict : verdict_at desk (called 1059 ∷ []) 1060 call ≡ Governed (Some (DropDefault NoMatch)) None
  unfolding verdicts_compute verdict_at
  ended_verdict = ap (by_policy (called 1059 ∷ []) 1060 call) its_policy

  answer_verdict : verdict_at desk (called 1059 ∷ []) 1059 answer ≡ Governed None (Some (Accept 1))
  unfolding verdicts_compute verdict_at
  answer_verdict = ap (by_policy (called 1059 ∷ []) 1059 answer) its_policy

  -- the call passes: it is added to the history, and raises the moment
  call_passes : frame_in (session [] 1000) 1059 call ≡ record { verdict = Governed (Some (Accept 1)) None; session = session (called 1059 ∷ []) 1059 }
  unfolding verdicts_compute frame_in verdict_in later
  call_passes = ap (judged (session [] 1000) 1059 call) call_verdict

  -- the answer passes, since the bulb began the connection; its moment is that of the session, where its own is earlier
  answer_passes : frame_in (session (called 1059 ∷ []) 1059) 1001 answer ≡ record { verdict = Governed None (Some (Accept 1)); session = session (called 1059 ∷ answered 1059 ∷ []) 1059 }
  unfolding verdicts_compute frame_in verdict_in later
  answer_passes = ap (judged (session (called 1059 ∷ []) 1059) 1059 answer) answer_verdict

  -- the server's name has ended: the call is dropped, and isn't added
  call_dropped : frame_in (session (called 1059 ∷ []) 1059) 1060 call ≡ record { verdict = Governed (Some (DropDefault NoMatch)) None; session = session (called 1059 ∷ []) 1060 }
  unfolding verdicts_compute frame_in verdict_in later
  call_dropped = ap (judged (session (called 1059 ∷ []) 1059) 1060 call) ended_verdict
