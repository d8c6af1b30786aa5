-- Six commands at the moment 1000 over an empty desk, and what some more make of the desk after them. The usage file is
-- one of the URL that the Thing announces, of whatever octets and entries.
use Rattle.std.proofs.Common.{◌≡◌, ◌≤◌, ℕ, ℤ, ◌+◌, Bool, true, false, List, [], ◌∷◌, length, Option, Some, None, Ok, Err, refl, arith}
use Rattle.std.specs.Prelude.{nat_lt}
use Rattle.std.proofs.lemmas.Bool.{le-ltb}
use Rattle.mud_base.specs.declared.addr.Addr.TheVariants.{V4}
use Rattle.mud_base.specs.declared.prefix.Prefix.{Prefix}
use Rattle.acl_model.specs.declared.entry.Policy.{Policy}
use Rattle.item_codec.specs.declared.word.Word.{Word}
use Rattle.item_codec.specs.declared.word.Word.TheVariants.{New, Same, Pending, Moved, Removed, Held, Released, Stranger, Ended, Approved, Revoked, Bound, Unbound, Set}
use Rattle.mud_file.specs.File.{file_of}
use Rattle.table_model.specs.declared.bind.Class.TheVariants.{Uri}
use Rattle.table_model.specs.declared.bind.ClassRow.{ClassRow}
use Rattle.table_model.specs.declared.bind.NameRow.{NameRow}
use Rattle.table_model.specs.declared.thing_fault.ThingFault.TheVariants.{NoThing, NoPending, NoLease}
use Rattle.table_model.specs.declared.thing.Thing.{Thing}
use Rattle.table_model.specs.declared.bind_fault.BindFault.TheVariants.{NotBound}
use Rattle.usage_tables.specs.declared.cache_fault.CacheFault.TheVariants.{NotApproved}
use Rattle.table_model.specs.BindCommands.{is_change, with_classes, bind_class_step, unbind_class_step, set_locals_step, observe_name_step}
use Rattle.table_model.specs.Tables.{binds_of, with_binds}
use Rattle.table_model.proofs.Literals.{things_compute, binds_compute, mac_1, mac_9, bulb_addr, dns_addr, test_addr, bulb_url, next_url, switch_url, dns_class, test_name, bulb, bare_bulb}
use Rattle.usage_tables.specs.declared.approval.Approval.TheVariants.{Waived}
use Rattle.usage_tables.specs.declared.approval.OperatorVerdict.TheVariants as verdict
use Rattle.usage_tables.specs.declared.cached_file.CachedFile.{CachedFile}
use Rattle.usage_tables.specs.Held.{held_file, usage_in, digest_of}
use Rattle.usage_tables.specs.Files.{url_of, file_at, set_file, without_file, new_file, with_candidate, with_approved, entries_of, approved_entries, entry_count}
use Rattle.usage_tables.specs.FileCommands.{approved_again, beside_approved, beside_candidate, import_cases, import_step, approved_row, approve, ruled, candidate_cases, is_verdict, is_ruled, verdict_cases, verdict_step, left_with, approved_cases, revoke_step}
use Rattle.desk_model.specs.declared.command.Command.TheVariants.{HearUrl, HearLease, Move, Remove, Hold, Release, Lease, EndLease, Import, Verdict, Revoke, Bind, Unbind, Locals, Observe}
use Rattle.desk_model.specs.declared.reply.Outcome.{Outcome}
use Rattle.desk_model.specs.declared.reply.Refusal.TheVariants.{Things, Files, Binds}
use Rattle.desk_model.specs.declared.reply.Reply.TheVariants.{Done, Refused}
use Rattle.desk_model.specs.DeskTables.{DeskTables, empty_desk, with_things, with_files, with_desk_binds}
use Rattle.desk_model.specs.Commands.{DeskStep, stamped, by_things, by_files, by_binds, command_step}
use Rattle.desk_model.specs.Sessions.{Session, opened, later, command_in}
use Rattle.base_rows.proofs.ListTests.{same_bytes}

unfoldable desk_compute : Unit {0}
unfolding things_compute binds_compute is_change with_classes bind_class_step unbind_class_step set_locals_step observe_name_step binds_of with_binds url_of file_at set_file new_file with_candidate with_approved empty_desk with_things with_files with_desk_binds stamped by_things by_files by_binds command_step opened later command_in
desk_compute = tt

-- the files' steps
unfoldable files_compute : Unit {0}
unfolding desk_compute entries_of approved_entries entry_count usage_in approved_again beside_approved beside_candidate import_cases import_step approved_row approve ruled candidate_cases is_verdict is_ruled verdict_cases verdict_step without_file left_with approved_cases revoke_step
files_compute = tt

-- a list changes
abbrev done : Outcome → DeskTables → DeskStep
done outcome desk = Ok (record { outcome = outcome; changes = true; desk = desk })

-- no list does
abbrev left : Outcome → DeskTables → DeskStep
left outcome desk = Ok (record { outcome = outcome; changes = false; desk = desk })

abbrev dns : ClassRow
dns = record { class = Uri dns_class; addrs = dns_addr ∷ [] }

abbrev test : NameRow
test = record { name = test_name; addrs = (test_addr, 1060) ∷ [] }

-- 192.0.2.0/24
abbrev office : Prefix
office = record { addr = V4 0xc0000200; len = 24 }

module _ (octets : List ℕ) (update : ℤ) (hours : ℕ) (supported : Bool) (signature : Option (List ℕ)) (extensions : List (List ℕ)) (policy : Policy) (few : length policy.outgoing + length policy.incoming ≤ 4096) (read : file_of octets ≡ Ok (record { url = bulb_url; update = update; hours = hours; supported = supported; signature = signature; extensions = extensions; policy = policy })) where
  -- ---- The desk after each of the six

  abbrev announced : DeskTables
  announced = record { tables = record { things = bare_bulb ∷ []; classes = []; locals = []; names = [] }; files = []; stamp = Some 1000 }

  abbrev leased : DeskTables
  leased = record { tables = record { things = bulb ∷ []; classes = []; locals = []; names = [] }; files = []; stamp = Some 1000 }

  abbrev candidate : CachedFile
  candidate = record { url = bulb_url; approved = None; candidate = Some (held_file octets 1000) }

  abbrev imported : DeskTables
  imported = record { tables = record { things = bulb ∷ []; classes = []; locals = []; names = [] }; files = candidate ∷ []; stamp = Some 1000 }

  -- the approved file, fetched at some moment
  abbrev in_force : ℕ → CachedFile
  in_force fetched = record { url = bulb_url; approved = Some (held_file octets fetched, Waived); candidate = None }

  abbrev approved : DeskTables
  approved = record { tables = record { things = bulb ∷ []; classes = []; locals = []; names = [] }; files = in_force 1000 ∷ []; stamp = Some 1000 }

  abbrev bound : DeskTables
  bound = record { tables = record { things = bulb ∷ []; classes = dns ∷ []; locals = []; names = [] }; files = in_force 1000 ∷ []; stamp = Some 1000 }

  -- with the file fetched and the desk changed last at these moments
  abbrev set_up : ℕ → ℕ → DeskTables
  set_up fetched stamp = record { tables = record { things = bulb ∷ []; classes = dns ∷ []; locals = []; names = test ∷ [] }; files = in_force fetched ∷ []; stamp = Some stamp }

  -- ---- The six commands

  announce : command_step empty_desk 1000 (HearUrl mac_1 bulb_url) ≡ done (record { word = New; until = None; url = None }) announced
  unfolding desk_compute
  announce = refl

  lease_a_day : command_step announced 1000 (Lease mac_1 bulb_addr 86400) ≡ done (record { word = New; until = Some 87400; url = None }) leased
  unfolding desk_compute
  lease_a_day = refl

  import_file : command_step leased 1000 (Import octets 1000) ≡ done (record { word = New; until = None; url = Some bulb_url }) imported
  unfolding files_compute
  import_file = rw read refl

  few_entries : nat_lt 4096 (length policy.outgoing + length policy.incoming + 0) ≡ false
  few_entries = le-ltb 4096 (length policy.outgoing + length policy.incoming + 0) (omega (arith, few))

  approve_file : command_step imported 1000 (Verdict bulb_url (digest_of octets) verdict.Waived) ≡ done (record { word = Approved; until = None; url = Some bulb_url }) approved
  unfolding files_compute
  approve_file = rw (same_bytes (digest_of octets) (digest_of octets) refl, read, few_entries) refl

  bind_dns : command_step approved 1000 (Bind (Uri dns_class) dns_addr) ≡ done (record { word = Bound; until = None; url = None }) bound
  unfolding desk_compute
  bind_dns = refl

  observe_name : command_step bound 1000 (Observe test_name test_addr 60) ≡ done (record { word = New; until = Some 1060; url = None }) (set_up 1000 1000)
  unfolding desk_compute
  observe_name = refl

  -- ---- After them

  -- the file again, fetched later: only its moment changes, and the stamp
  import_again : command_step (set_up 1000 1000) 1001 (Import octets 1001) ≡ done (record { word = Same; until = None; url = Some bulb_url }) (set_up 1001 1001)
  unfolding files_compute
  import_again = rw (read, same_bytes octets octets refl) refl

  -- and once more: nothing changes, and the stamp stays
  import_once_more : command_step (set_up 1001 1001) 1002 (Import octets 1001) ≡ left (record { word = Same; until = None; url = Some bulb_url }) (set_up 1001 1001)
  unfolding files_compute
  import_once_more = rw (read, same_bytes octets octets refl) refl

  approve_once_more : command_step (set_up 1000 1000) 1001 (Verdict bulb_url (digest_of octets) verdict.Waived) ≡ left (record { word = Same; until = None; url = Some bulb_url }) (set_up 1000 1000)
  unfolding files_compute
  approve_once_more = rw (same_bytes (digest_of octets) (digest_of octets) refl) refl

  -- a refusal leaves all as it was, and doesn't raise the moment
  abbrev session : ℕ → Session
  session moment = record { desk = set_up 1000 1000; history = []; moment = moment }

  open_again : opened (set_up 1000 1000) ≡ session 1000
  unfolding desk_compute
  open_again = refl

  remove_unknown : command_in (session 1000) 2000 (Remove mac_9) ≡ record { reply = Refused (Things NoThing); session = session 1000 }
  unfolding desk_compute
  remove_unknown = refl

  -- what is done raises the moment; a command of an earlier moment runs at that of the session
  announce_again : command_in (session 1000) 2000 (HearUrl mac_1 bulb_url) ≡ record { reply = Done (record { word = Same; until = None; url = None }); session = session 2000 }
  unfolding desk_compute
  announce_again = refl

  earlier_lease : command_in (session 2000) 1000 (Lease mac_1 bulb_addr 85400) ≡ record { reply = Done (record { word = Same; until = Some 87400; url = None }); session = session 2000 }
  unfolding desk_compute
  earlier_lease = refl

  -- ---- One of every other command, at 1001 over the desk that is set up

  -- the desk with these Things instead
  abbrev with : List Thing → DeskTables
  with things = record { tables = record { things = things; classes = dns ∷ []; locals = []; names = test ∷ [] }; files = in_force 1000 ∷ []; stamp = Some 1001 }

  -- what is answered with no expiry and no URL
  abbrev says : Word → Outcome
  says word = record { word = word; until = None; url = None }

  hear_other_url : command_step (set_up 1000 1000) 1001 (HearUrl mac_1 next_url) ≡ done (says Pending) (with (record bulb { pending = Some next_url } ∷ []))
  unfolding desk_compute
  hear_other_url = refl

  move_there : command_step (with (record bulb { pending = Some next_url } ∷ [])) 1001 (Move mac_1 next_url) ≡ done (says Moved) (with (record bulb { url = next_url } ∷ []))
  unfolding desk_compute
  move_there = refl

  move_elsewhere : command_step (set_up 1000 1000) 1001 (Move mac_1 switch_url) ≡ Err (Things NoPending)
  unfolding desk_compute
  move_elsewhere = refl

  hear_same_lease : command_step (set_up 1000 1000) 1000 (HearLease mac_1 bulb_addr 86400) ≡ left (record { word = Same; until = Some 87400; url = None }) (set_up 1000 1000)
  unfolding desk_compute
  hear_same_lease = refl

  -- the address leaves the Thing that had it
  hear_stranger : command_step (set_up 1000 1000) 1001 (HearLease mac_9 bulb_addr 86400) ≡ done (says Stranger) (with (bare_bulb ∷ []))
  unfolding desk_compute
  hear_stranger = refl

  -- the operator's lease of an unknown hardware address is refused
  lease_stranger : command_step (set_up 1000 1000) 1001 (Lease mac_9 bulb_addr 86400) ≡ Err (Things NoThing)
  unfolding desk_compute
  lease_stranger = refl

  end_lease : command_step (set_up 1000 1000) 1001 (EndLease bulb_addr) ≡ done (says Ended) (with (bare_bulb ∷ []))
  unfolding desk_compute
  end_lease = refl

  end_no_lease : command_step (with (bare_bulb ∷ [])) 1001 (EndLease bulb_addr) ≡ Err (Things NoLease)
  unfolding desk_compute
  end_no_lease = refl

  hold_bulb : command_step (set_up 1000 1000) 1001 (Hold mac_1) ≡ done (says Held) (with (record bulb { held = true } ∷ []))
  unfolding desk_compute
  hold_bulb = refl

  release_bulb : command_step (with (record bulb { held = true } ∷ [])) 1001 (Release mac_1) ≡ done (says Released) (with (bulb ∷ []))
  unfolding desk_compute
  release_bulb = refl

  remove_bulb : command_step (set_up 1000 1000) 1001 (Remove mac_1) ≡ done (says Removed) (with [])
  unfolding desk_compute
  remove_bulb = refl

  revoke_file : command_step (set_up 1000 1000) 1001 (Revoke bulb_url) ≡ done (record { word = Revoked; until = None; url = Some bulb_url }) (record (set_up 1000 1001) { files = [] })
  unfolding files_compute
  revoke_file = refl

  revoke_again : command_step (record (set_up 1000 1001) { files = [] }) 1001 (Revoke bulb_url) ≡ Err (Files NotApproved)
  unfolding files_compute
  revoke_again = refl

  unbind_other : command_step (set_up 1000 1000) 1001 (Unbind (Uri dns_class) bulb_addr) ≡ Err (Binds NotBound)
  unfolding desk_compute
  unbind_other = refl

  unbind_dns : command_step (set_up 1000 1000) 1001 (Unbind (Uri dns_class) dns_addr) ≡ done (says Unbound) (record (set_up 1000 1001) { tables = record { things = bulb ∷ []; classes = []; locals = []; names = test ∷ [] } })
  unfolding desk_compute
  unbind_dns = refl

  set_office : command_step (set_up 1000 1000) 1001 (Locals (office ∷ [])) ≡ done (says Set) (record (set_up 1000 1001) { tables = record { things = bulb ∷ []; classes = dns ∷ []; locals = office ∷ []; names = test ∷ [] } })
  unfolding desk_compute
  set_office = refl
