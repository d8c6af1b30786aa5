-- No command is refused for want of memory.
use Rattle.std.proofs.Common.{◌≡◌, ℕ, Bool, true, false, cond, List, Option, Some, None, Result, Ok, Err, refl}
use Rattle.std.specs.Prelude.{IfErr, bytes_eq}
use Rattle.mud_base.specs.declared.addr.Mac.{Mac}
use Rattle.mud_base.specs.declared.addr.Addr.{Addr}
use Rattle.mud_base.specs.declared.prefix.Prefix.{Prefix}
use Rattle.usage_walk.specs.declared.fault.Broken.{Broken}
use Rattle.mud_file.specs.declared.usage_file.UsageFile.{UsageFile}
use Rattle.mud_file.specs.File.{file_of}
use Rattle.table_model.specs.declared.thing.Thing.{Thing}
use Rattle.table_model.specs.declared.bind.Class.{Class}
use Rattle.table_model.specs.declared.bind.ClassRow.{ClassRow}
use Rattle.table_model.specs.declared.bind.NameRow.{NameRow}
use Rattle.table_model.specs.declared.bind_fault.BindFault.{BindFault}
use Rattle.table_model.specs.Expiries.{expiry_of}
use Rattle.table_model.specs.Things.{thing_at}
use Rattle.table_model.specs.Binds.{Binds, class_at, name_at, prefixes_in_order}
use Rattle.table_model.specs.ThingCommands.{ThingStep, is_pending, url_cases, url_step, move_cases, move_step, remove_step, hold_cases, hold_step, release_cases, release_step, expiry_after, kept_lease, new_lease, known_lease, stranger_lease, lease_cases, lease_step, end_step}
use Rattle.table_model.specs.BindCommands.{ClassStep, LocalStep, NameStep, BindStep, bind_step, unbind_step, locals_step, addrs_of, least_dead, replacing, new_pair, kept_pair, observe_row, observe_step, with_classes, bind_class_step, unbind_class_step, set_locals_step, observe_name_step}
use Rattle.table_model.specs.Tables.{binds_of}
use Rattle.usage_tables.specs.declared.approval.Approval.{Approval}
use Rattle.usage_tables.specs.declared.approval.OperatorVerdict.{OperatorVerdict}
use Rattle.usage_tables.specs.declared.approval.OperatorVerdict.TheVariants as verdict
use Rattle.usage_tables.specs.declared.approval.Approval.TheVariants as approval
use Rattle.usage_tables.specs.declared.cached_file.CachedFile.{CachedFile}
use Rattle.usage_tables.specs.Held.{HeldFile, held_file}
use Rattle.usage_tables.specs.Files.{file_at}
use Rattle.usage_tables.specs.FileCommands.{FileStep, candidate_again, approved_again, new_candidate, beside_approved, beside_candidate, import_cases, import_step, approve, ruled, candidate_cases, verdict_cases, verdict_step, approved_cases, revoke_step}
use Rattle.desk_model.specs.declared.command.Command.{Command}
use Rattle.desk_model.specs.declared.command.Command.TheVariants.{HearUrl, HearLease, Move, Remove, Hold, Release, Lease, EndLease, Import, Verdict, Revoke, Bind, Unbind, Locals, Observe}
use Rattle.desk_model.specs.DeskTables.{DeskTables}
use Rattle.desk_model.specs.Refusals.{is_thing_memory, is_file_memory, is_bind_memory, is_want_of_memory}
use Rattle.desk_model.specs.Commands.{DeskStep, by_things, by_files, by_binds, command_step}
use Rattle.table_model.proofs.Parts.{bind_cases, unbind_cases, locals_cases, observe_cases, with_locals, with_names, remove_cases}
use Rattle.usage_tables.proofs.Parts.{import_read, revoke_cases}

-- where the step is refused, it isn't by want of memory
record IsSpoken {A F : Type 0} (memory : F → Bool) (step : Result A F) : Type 0 where
  pub spoken : IfErr step (λ fault. memory fault ≡ false)

either : {A F : Type 0} {memory : F → Bool} (b : Bool) (x y : Result A F) → IsSpoken memory x → IsSpoken memory y → IsSpoken memory (cond b x y)
either true x y here there = here
either false x y here there = there

-- it is refused by this
by : {A F : Type 0} {memory : F → Bool} (fault : F) → memory fault ≡ false → IsSpoken {A = A} memory (Err fault)
by fault e = record { spoken = e }

-- or it is done
fine : {A F : Type 0} {memory : F → Bool} (after : A) → IsSpoken {F = F} memory (Ok after)
fine after = record { spoken = tt }

-- ---- Things

abbrev SaysThing : ThingStep → Type 0
SaysThing step = IsSpoken is_thing_memory step

url_says : (mac : Mac) (url : List ℕ) (things : List Thing) (found : Option Thing) → SaysThing (url_cases mac url things found)
unfolding url_cases
url_says mac url things None = either _ _ _ (by _ refl) (fine _)
url_says mac url things (Some thing) = either (bytes_eq url thing.url) _ _ (fine _) (either (is_pending url thing.pending) _ _ (fine _) (fine _))

move_says : (url : List ℕ) (things : List Thing) (found : Option Thing) → SaysThing (move_cases url things found)
unfolding move_cases
move_says url things None = by _ refl
move_says url things (Some thing) = either (bytes_eq url thing.url) _ _ (fine _) (either (is_pending url thing.pending) _ _ (fine _) (by _ refl))

remove_says : (mac : Mac) (things : List Thing) (found : Option Thing) → SaysThing (remove_cases mac things found)
remove_says mac things None = by _ refl
remove_says mac things (Some thing) = fine _

hold_says : (things : List Thing) (found : Option Thing) → SaysThing (hold_cases things found)
unfolding hold_cases
hold_says things None = by _ refl
hold_says things (Some thing) = either _ _ _ (fine _) (fine _)

release_says : (things : List Thing) (found : Option Thing) → SaysThing (release_cases things found)
unfolding release_cases
release_says things None = by _ refl
release_says things (Some thing) = either _ _ _ (fine _) (fine _)

known_says : (a : Addr) (until now : ℕ) (things : List Thing) (thing : Thing) (old : Option ℕ) → SaysThing (known_lease a until now things thing old)
unfolding known_lease kept_lease new_lease
known_says a until now things thing (Some old) = either _ _ _ (fine _) (fine _)
known_says a until now things thing None = either _ _ _ (by _ refl) (fine _)

lease_says : (a : Addr) (until now : ℕ) (heard : Bool) (things : List Thing) (found : Option Thing) → SaysThing (lease_cases a until now heard things found)
unfolding lease_cases stranger_lease
lease_says a until now heard things None = either _ _ _ (either _ _ _ (fine _) (fine _)) (by _ refl)
lease_says a until now heard things (Some thing) = known_says a until now things thing (expiry_of a thing.leases)

end_says : (a : Addr) (things : List Thing) → SaysThing (end_step a things)
unfolding end_step
end_says a things = either _ _ _ (fine _) (by _ refl)

-- ---- Files

abbrev SaysFile : FileStep → Type 0
SaysFile step = IsSpoken is_file_memory step

new_says : (held : HeldFile) (file : UsageFile) (files : List CachedFile) (row : CachedFile) → SaysFile (new_candidate held file files row)
unfolding new_candidate
new_says held file files row = either _ _ _ (by _ refl) (fine _)

beside_says : (held : HeldFile) (file : UsageFile) (files : List CachedFile) (row : CachedFile) (approved : Option (HeldFile × Approval)) → SaysFile (beside_approved held file files row approved)
unfolding beside_approved approved_again
beside_says held file files row None = new_says held file files row
beside_says held file files row (Some approved) = either _ _ _ (either _ _ _ (fine _) (fine _)) (new_says held file files row)

candidate_says : (held : HeldFile) (file : UsageFile) (files : List CachedFile) (row : CachedFile) (candidate : Option HeldFile) → SaysFile (beside_candidate held file files row candidate)
unfolding beside_candidate candidate_again
candidate_says held file files row None = beside_says held file files row row.approved
candidate_says held file files row (Some candidate) = either _ _ _ (either _ _ _ (fine _) (fine _)) (beside_says held file files row row.approved)

import_says : (held : HeldFile) (file : UsageFile) (files : List CachedFile) (found : Option CachedFile) → SaysFile (import_cases held file files found)
unfolding import_cases
import_says held file files None = either _ _ _ (by _ refl) (fine _)
import_says held file files (Some row) = candidate_says held file files row row.candidate

read_says : (held : HeldFile) (files : List CachedFile) (read : Result UsageFile Broken) → SaysFile (import_read held files read)
read_says held files (Err broken) = by _ refl
read_says held files (Ok file) = import_says held file files (file_at file.url files)

approve_says : (url : List ℕ) (files : List CachedFile) (row : CachedFile) (candidate : HeldFile) (approval : Approval) → SaysFile (approve url files row candidate approval)
unfolding approve
approve_says url files row candidate approval = either _ _ _ (by _ refl) (fine _)

ruled_says : (url : List ℕ) (files : List CachedFile) (row : CachedFile) (candidate : HeldFile) (v : OperatorVerdict) → SaysFile (ruled url files row candidate v)
unfolding ruled
ruled_says url files row candidate verdict.Failed = fine _
ruled_says url files row candidate verdict.Verified = either _ _ _ (approve_says url files row candidate approval.Verified) (by _ refl)
ruled_says url files row candidate verdict.Waived = approve_says url files row candidate approval.Waived

judged_says : (url digest : List ℕ) (v : OperatorVerdict) (files : List CachedFile) (row : CachedFile) (candidate : Option HeldFile) → SaysFile (candidate_cases url digest v files row candidate)
unfolding candidate_cases
judged_says url digest v files row None = by _ refl
judged_says url digest v files row (Some candidate) = either _ _ _ (ruled_says url files row candidate v) (by _ refl)

verdict_says : (url digest : List ℕ) (v : OperatorVerdict) (files : List CachedFile) (found : Option CachedFile) → SaysFile (verdict_cases url digest v files found)
unfolding verdict_cases
verdict_says url digest v files None = by _ refl
verdict_says url digest v files (Some row) = either _ _ _ (fine _) (judged_says url digest v files row row.candidate)

revoked_says : (url : List ℕ) (files : List CachedFile) (row : CachedFile) (approved : Option (HeldFile × Approval)) → SaysFile (approved_cases url files row approved)
unfolding approved_cases
revoked_says url files row None = by _ refl
revoked_says url files row (Some approved) = fine _

revoke_says : (url : List ℕ) (files : List CachedFile) (found : Option CachedFile) → SaysFile (revoke_cases url files found)
revoke_says url files None = by _ refl
revoke_says url files (Some row) = revoked_says url files row row.approved

-- ---- Classes, local networks and names

abbrev SaysBind : {A : Type 0} → Result A BindFault → Type 0
SaysBind step = IsSpoken is_bind_memory step

bind_says : (class : Class) (a : Addr) (classes : List ClassRow) (found : Option ClassRow) → SaysBind (bind_cases class a classes found)
bind_says class a classes None = either _ _ _ (by _ refl) (fine _)
bind_says class a classes (Some row) = either _ _ _ (fine _) (either _ _ _ (by _ refl) (fine _))

unbind_says : (class : Class) (a : Addr) (classes : List ClassRow) (found : Option ClassRow) → SaysBind (unbind_cases class a classes found)
unbind_says class a classes None = by _ refl
unbind_says class a classes (Some row) = either _ _ _ (fine _) (by _ refl)

locals_say : (prefixes locals : List Prefix) → SaysBind (locals_cases prefixes locals)
locals_say prefixes locals = either _ _ _ (by _ refl) (either _ _ _ (fine _) (fine _))

replacing_says : (name : List ℕ) (a : Addr) (until : ℕ) (names : List NameRow) (dead : Option NameRow) → SaysBind (replacing name a until names dead)
unfolding replacing
replacing_says name a until names None = by _ refl
replacing_says name a until names (Some dead) = fine _

pair_says : (name : List ℕ) (a : Addr) (until now : ℕ) (names : List NameRow) (row : Option NameRow) → SaysBind (new_pair name a until now names row)
unfolding new_pair
pair_says name a until now names None = either _ _ _ (replacing_says name a until names (least_dead now names)) (fine _)
pair_says name a until now names (Some row) = either _ _ _ (by _ refl) (fine _)

observe_says : (name : List ℕ) (a : Addr) (until now : ℕ) (names : List NameRow) (row : Option NameRow) (old : Option ℕ) → SaysBind (observe_cases name a until now names row old)
unfolding kept_pair
observe_says name a until now names row None = pair_says name a until now names row
observe_says name a until now names row (Some old) = either _ _ _ (either _ _ _ (fine _) (fine _)) (pair_says name a until now names row)

classes_say : (binds : Binds) (step : ClassStep) → SaysBind step → SaysBind (with_classes binds step)
unfolding with_classes
classes_say binds (Ok after) says = fine _
classes_say binds (Err fault) says = record { spoken = says.spoken }

networks_say : (binds : Binds) (step : LocalStep) → SaysBind step → SaysBind (with_locals binds step)
networks_say binds (Ok after) says = fine _
networks_say binds (Err fault) says = record { spoken = says.spoken }

names_say : (binds : Binds) (step : NameStep) → SaysBind step → SaysBind (with_names binds step)
names_say binds (Ok after) says = fine _
names_say binds (Err fault) says = record { spoken = says.spoken }

-- ---- Commands

module _ (desk : DeskTables) (now : ℕ) where
  abbrev SaysRefusal : DeskStep → Type 0
  SaysRefusal step = IfErr step (λ refusal. is_want_of_memory refusal ≡ false)

  of_things : (step : ThingStep) → SaysThing step → SaysRefusal (by_things desk now step)
  unfolding by_things is_want_of_memory
  of_things (Ok after) says = tt
  of_things (Err fault) says = says.spoken

  of_files : (step : FileStep) → SaysFile step → SaysRefusal (by_files desk now step)
  unfolding by_files is_want_of_memory
  of_files (Ok after) says = tt
  of_files (Err fault) says = says.spoken

  of_binds : (step : BindStep) → SaysBind step → SaysRefusal (by_binds desk now step)
  unfolding by_binds is_want_of_memory
  of_binds (Ok after) says = tt
  of_binds (Err fault) says = says.spoken

  pub says-command_step : (command : Command) → SaysRefusal (command_step desk now command)
  unfolding command_step url_step move_step remove_step hold_step release_step lease_step import_step verdict_step revoke_step bind_class_step unbind_class_step set_locals_step observe_name_step bind_step unbind_step locals_step observe_step observe_row binds_of
  says-command_step (HearUrl mac url) = of_things (url_step mac url desk.tables.things) (url_says mac url desk.tables.things (thing_at mac desk.tables.things))
  says-command_step (HearLease mac a seconds) = of_things (lease_step mac a seconds now true desk.tables.things) (lease_says a (expiry_after now seconds) now true desk.tables.things (thing_at mac desk.tables.things))
  says-command_step (Move mac url) = of_things (move_step mac url desk.tables.things) (move_says url desk.tables.things (thing_at mac desk.tables.things))
  says-command_step (Remove mac) = of_things (remove_step mac desk.tables.things) (remove_says mac desk.tables.things (thing_at mac desk.tables.things))
  says-command_step (Hold mac) = of_things (hold_step mac desk.tables.things) (hold_says desk.tables.things (thing_at mac desk.tables.things))
  says-command_step (Release mac) = of_things (release_step mac desk.tables.things) (release_says desk.tables.things (thing_at mac desk.tables.things))
  says-command_step (Lease mac a seconds) = of_things (lease_step mac a seconds now false desk.tables.things) (lease_says a (expiry_after now seconds) now false desk.tables.things (thing_at mac desk.tables.things))
  says-command_step (EndLease a) = of_things (end_step a desk.tables.things) (end_says a desk.tables.things)
  says-command_step (Import octets fetched) = of_files (import_step octets fetched desk.files) (read_says (held_file octets fetched) desk.files (file_of octets))
  says-command_step (Verdict url digest v) = of_files (verdict_step url digest v desk.files) (verdict_says url digest v desk.files (file_at url desk.files))
  says-command_step (Revoke url) = of_files (revoke_step url desk.files) (revoke_says url desk.files (file_at url desk.files))
  says-command_step (Bind class a) =
      of_binds (bind_class_step class a (binds_of desk.tables)) (classes_say (binds_of desk.tables) (bind_step class a desk.tables.classes) (bind_says class a desk.tables.classes (class_at class desk.tables.classes)))
  says-command_step (Unbind class a) =
      of_binds (unbind_class_step class a (binds_of desk.tables)) (classes_say (binds_of desk.tables) (unbind_step class a desk.tables.classes) (unbind_says class a desk.tables.classes (class_at class desk.tables.classes)))
  says-command_step (Locals prefixes) =
      of_binds (set_locals_step prefixes (binds_of desk.tables)) (networks_say (binds_of desk.tables) (locals_step prefixes desk.tables.locals) (locals_say (prefixes_in_order prefixes) desk.tables.locals))
  says-command_step (Observe name a seconds) =
      of_binds (observe_name_step name a seconds now (binds_of desk.tables))
      (names_say (binds_of desk.tables) (observe_step name a seconds now desk.tables.names)
      (observe_says name a _ now desk.tables.names (name_at name desk.tables.names) (expiry_of a (addrs_of (name_at name desk.tables.names)))))
