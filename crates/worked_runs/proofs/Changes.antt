-- How a run ends that may change its store, where nothing comes that would.
use Rattle.std.proofs.Common.{◌≡◌, ◌⊎◌, inl, inr, ℕ, true, List, [], ◌∷◌, ◌++◌, Option, None, Ok, sym, ap, ◌∙◌, subst, refl, arith}
use Rattle.std.specs.List.{AllByRecursion}
use Rattle.mud_base.specs.Numbers.{IsOctets}
use Rattle.mud_world.specs.Door.{DoorState, outputs, put_out}
use Rattle.mud_world.specs.Files.{names_of}
use Rattle.mud_world.specs.View.{DoorView, OutsideView}
use Rattle.mud_world.specs.declared.item.Item.{Item}
use Rattle.mud_world.specs.declared.keeper.Keeper.{Ghosts}
use Rattle.mud_world.specs.Kept.{Tells, kept_items, faults_of}
use Rattle.desk_model.specs.DeskTables.{DeskTables, IsSound, empty_desk}
use Rattle.desk_model.specs.Items.{items_of, tables_in}
use Rattle.desk_model.specs.Keeping.{KeepsDesk, IsFirstBad}
use Rattle.desk_model.specs.Sessions.{Session, opened}
use Rattle.desk_model.proofs.Keeping.{first_bad_is_answered, keeps_own, not_both, read_kept}
use Rattle.read_buffer.specs.Packets.{Packet}
use Rattle.run_captures.specs.Captures.{Captures, captured_of}
use Rattle.run_captures.specs.declared.fault.CaptureFault.{CaptureFault}
use Rattle.run_common.specs.Ends.{IsStoppedByDoorOrSpool}
use Rattle.run_common.specs.Output.{Output}
use Rattle.run_common.specs.Status.{Is, IsOneOf, each_status}
use Rattle.run_common.specs.declared.status.Status.TheVariants.{Done, Refused, DoorFailed, NoMemory, BadItem, KeeperFailed}
use Rattle.run_desk.specs.Refused.{RefusesStore}
use Rattle.run_desk.specs.Store.{IsRefused}
use Rattle.run_packets.specs.Snoop.Entries as snoop
use Rattle.run_packets.specs.Snoop.Packets.{Snoops}
use Rattle.run_packets.specs.Snoop.Runs.{output_of_entries}
use Rattle.run_packets.specs.Snoop.Store.{SnoopsStore, OpensAndSnoops, SnoopsNone}
use Rattle.std.proofs.lemmas.Bool.{false≢true}
use Rattle.mud_world.specs.Causes.{Rose}
use Rattle.desk_model.specs.declared.command.Command.{Command}
use Rattle.run_drills.specs.Commands.{drill_commands}
use Rattle.run_drills.specs.Drill.{drill_text, session_after}
use Rattle.run_drills.specs.Store.{DrillsStore, Drills, IsFull, holds_nothing}
use Rattle.run_changes.specs.Import.Entries.{Entry, lines_of, names_of_entries, status_of}
use Rattle.run_changes.specs.Import.Imports.{Imports, Standing}
use Rattle.run_changes.specs.Import.Order.{in_order}
use Rattle.run_changes.specs.Import.Store.{ImportsStore, OpensAndImports, ImportsNone}
use Rattle.worked_runs.proofs.Ends.{failed_once, pieces_in, written_out}
use Rattle.worked_runs.proofs.Stores.{EndsBy, EndsOver, ended_refuses, ok_same, rose_from, stopped_once, the_desk}

abbrev Finished : ℕ → Type 0
Finished status = IsOneOf (Done ∷ Refused ∷ DoorFailed ∷ NoMemory ∷ KeeperFailed ∷ []) status

not_bad : {status : ℕ} → Is BadItem status → Finished status → ⊥
not_bad bad (inl done) = omega (arith, bad, done)
not_bad bad (inr (inl refused)) = omega (arith, bad, refused)
not_bad bad (inr (inr (inl failed))) = omega (arith, bad, failed)
not_bad bad (inr (inr (inr (inl memory)))) = omega (arith, bad, memory)
not_bad bad (inr (inr (inr (inr failed)))) = omega (arith, bad, failed)

whole : {status : ℕ} → IsOneOf (Done ∷ Refused ∷ []) status → IsOneOf (Done ∷ Refused ∷ KeeperFailed ∷ []) status
whole (inl done) = inl done
whole (inr refused) = inr (inl refused)

no_entries : (entries : List Entry) → names_of_entries entries ≡ [] → entries ≡ []
no_entries [] e = refl
no_entries (entry ∷ entries) e = absurd cc

no_packets : (entries : List snoop.Entry) → snoop.packets_of entries ≡ [] → entries ≡ []
no_packets [] e = refl
no_packets (entry ∷ entries) e = absurd cc

none_in_order : in_order (names_of []) ≡ []
unfolding in_order
none_in_order = refl

opened_desk : (desk : DeskTables) → (opened desk).desk ≡ desk
unfolding opened
opened_desk desk = refl

stopped_by : (old new : OutsideView) → old.door.writes ≡ 0 → old.spool.faults ≡ 0
    → IsStoppedByDoorOrSpool old.door new.door old.spool new.spool → (new.door.writes ≡ 1) ⊎ (new.spool.faults ≡ 1)
stopped_by old new writes faults (inl door) = inl (stopped_once writes door.0)
stopped_by old new writes faults (inr spool) = inr (stopped_once faults spool.0)

empty_holds_nothing : holds_nothing empty_desk ≡ true
unfolding holds_nothing empty_desk
empty_holds_nothing = refl

append_nothing : (commands : List Command) → commands ++ [] ≡ commands
append_nothing [] = refl
append_nothing (command ∷ commands) = ap (λ (rest : List Command). command ∷ rest) (append_nothing commands)

no_rest : (ran rest all : List Command) → all ≡ ran ++ rest → rest ≡ [] → ran ≡ all
no_rest ran rest all split none = sym (split ∙ ap (λ (more : List Command). ran ++ more) none ∙ append_nothing ran)

abbrev Drilled : ℕ → Type 0
Drilled status = IsOneOf (Done ∷ DoorFailed ∷ NoMemory ∷ KeeperFailed ∷ []) status

not_refused : {status : ℕ} → Is Refused status → Drilled status → ⊥
not_refused refused (inl done) = omega (arith, refused, done)
not_refused refused (inr (inl failed)) = omega (arith, refused, failed)
not_refused refused (inr (inr (inl memory))) = omega (arith, refused, memory)
not_refused refused (inr (inr (inr failed))) = omega (arith, refused, failed)

not_bad_drill : {status : ℕ} → Is BadItem status → Drilled status → ⊥
not_bad_drill bad (inl done) = omega (arith, bad, done)
not_bad_drill bad (inr (inl failed)) = omega (arith, bad, failed)
not_bad_drill bad (inr (inr (inl memory))) = omega (arith, bad, memory)
not_bad_drill bad (inr (inr (inr failed))) = omega (arith, bad, failed)

-- how a drill over a store that holds nothing ends
abbrev pub DrillsOver : ℕ → DoorView → ℕ → List Item → ℕ → Type 0
DrillsOver packets new status now faults =
    Is NoMemory status
    ⊎ ((Is DoorFailed status × (new.writes ≡ 1))
    ⊎ ((Is KeeperFailed status × Rose 0 faults)
    ⊎ (Is Done status × ((outputs new.state ≡ drill_text packets ∷ []) × (now ≡ items_of (session_after (opened empty_desk) (drill_commands packets)).desk)))))

module _ {K : Type 0} (members : Ghosts K) (kept returned : K) (known : DeskTables)
    (read : tables_in (kept_items members kept) ≡ Ok known) (octets : AllByRecursion (λ item. IsOctets item.body) (kept_items members kept))
    (told : Tells members kept) (tells : Tells members returned) (fresh : faults_of members kept ≡ 0) where
  abbrev pub items : List Item
  items = kept_items members returned

  -- a session that is as it was opened leaves the desk that was kept
  pub keeps_on : (tables : DeskTables) (session : Session) → IsSound tables → KeepsDesk (kept_items members kept) tables
      → items ≡ items_of session.desk → session ≡ opened tables → KeepsDesk items known
  keeps_on tables session sound were are is =
      let desk = ap (λ (s : Session). s.desk) is ∙ opened_desk tables in
      let own = subst (λ (list : List Item). KeepsDesk list tables) (sym (are ∙ ap items_of desk)) (keeps_own tables sound) in
      subst (KeepsDesk items) (ok_same tables known (sym (read_kept (kept_items members kept) tables were) ∙ read)) own

  pub none_bad : (item : Item) → items ≡ kept_items members kept → IsFirstBad items item → ⊥
  none_bad item same bad =
      not_both known item (sym read ∙ first_bad_is_answered (kept_items members kept) item octets (subst (λ (list : List Item). IsFirstBad list item) same bad))

  refused_bad : {old new : DoorState} {status : ℕ} → Is BadItem status → IsRefused members kept returned old new status → ⊥
  refused_bad bad refused = let it = refused.refuses.done bad in none_bad it.item (refused.same_items bad told) it.bad

  pub imports_end : {old new : OutsideView} {status : ℕ} (pieces : List (List ℕ))
      → old.door.state ≡ pieces_in pieces → old.door.writes ≡ 0 → old.spool.faults ≡ 0 → old.spool.files ≡ []
      → ImportsStore members (Unit {0} × (Unit {0} × Unit {0})) kept returned old new status
      → EndsBy ((new.door.writes ≡ 1) ⊎ (new.spool.faults ≡ 1)) known [] 0 new.door.state status items (faults_of members returned)
  imports_end {old} {new} {status} pieces is writes faults files run = by run.honest.statuses
    where
      Runs : Type 0
      Runs = OpensAndImports members kept returned old new status ⊎ (Tells members returned → ImportsNone members kept returned old new status)

      Ended : Type 0
      Ended = EndsBy ((new.door.writes ≡ 1) ⊎ (new.spool.faults ≡ 1)) known [] 0 new.door.state status items (faults_of members returned)

      done_by : IsOneOf (Done ∷ Refused ∷ []) status → Runs → Ended
      done_by done (inl opens) =
          let all = opens.imports.all (whole done) in
          let none = no_entries all.entries (all.named ∙ ap (λ (fs : List (List ℕ × List ℕ)). in_order (names_of fs)) files ∙ none_in_order) in
          let stays = subst (λ (es : List Entry). Imports old.spool.files (record { session = opened opens.tables; moments = old.moments }) es (record { session = opens.session; moments = new.moments })) none all.run in
          inr (inr (inr (
            all.status_is ∙ ap status_of none,
            (
              ap outputs (all.wrote ∙ ap (λ (es : List Entry). put_out (lines_of es) old.door.state) none ∙ ap (put_out []) is),
              keeps_on opens.tables opens.session opens.sound (opens.were_kept told tells) (opens.are_kept.items tells) (ap (λ (s : Standing). s.session) stays),
            ),
          )))
      done_by done (inr none) = absurd (ended_refuses done (none tells).refused.refuses.statuses)

      bad_by : Is BadItem status → Runs → ⊥
      bad_by bad (inl opens) = not_bad bad opens.imports.statuses
      bad_by bad (inr none) = refused_bad bad (none tells).refused

      by : IsOneOf each_status status → Ended
      by (inl done) = done_by (inl done) (run.runs (tt, (tt, tt)))
      by (inr (inl refused)) = done_by (inr refused) (run.runs (tt, (tt, tt)))
      by (inr (inr (inl failed))) = inr (inl (failed, stopped_by old new writes faults (run.honest.fault failed)))
      by (inr (inr (inr (inl memory)))) = inl memory
      by (inr (inr (inr (inr (inl bad))))) = absurd (bad_by bad (run.runs (tt, (tt, tt))))
      by (inr (inr (inr (inr (inr failed))))) = inr (inr (inl (failed, rose_from fresh (run.honest.keeper_fault failed))))

  pub drills_end : {old new : DoorView} {status : ℕ} (packets : ℕ) (pieces : List (List ℕ))
      → known ≡ empty_desk → old.state ≡ pieces_in pieces → old.writes ≡ 0
      → DrillsStore members (Unit {0}) packets kept returned old new status
      → DrillsOver packets new status items (faults_of members returned)
  drills_end {old} {new} {status} packets pieces nothing is writes run = by run.honest.statuses
    where
      Runs : Type 0
      Runs = Drills members packets kept returned old new status
          ⊎ (Tells members returned → IsFull members kept returned old new status ⊎ IsRefused members kept returned old.state new.state status)

      -- the store holds nothing
      not_full : IsFull members kept returned old new status → ⊥
      not_full full =
          let same = the_desk (kept_items members kept) items known full.full.0 read (full.same told) full.full.1 in
          false≢true (sym full.full.2 ∙ ap holds_nothing (same ∙ nothing) ∙ empty_holds_nothing)

      drilled : Drills members packets kept returned old new status → Is Done status → DrillsOver packets new status items (faults_of members returned)
      drilled drills done =
          let all = no_rest drills.ran drills.rest (drill_commands packets) drills.split (drills.all (inl done)) in
          inr (inr (inr (
            done,
            (
              ap outputs (drills.done done ∙ ap (put_out (drill_text packets)) is),
              drills.are_kept.items tells ∙ ap (λ (ran : List Command). items_of (session_after (opened empty_desk) ran).desk) all,
            ),
          )))

      done_by : Is Done status → Runs → DrillsOver packets new status items (faults_of members returned)
      done_by done (inl drills) = drilled drills done
      done_by done (inr not) = absurd (none (not tells))
        where
          none : IsFull members kept returned old new status ⊎ IsRefused members kept returned old.state new.state status → ⊥
          none (inl full) = not_full full
          none (inr refused) = ended_refuses (inl done) refused.refuses.statuses

      refused_by : Is Refused status → Runs → ⊥
      refused_by refused (inl drills) = not_refused refused drills.statuses
      refused_by refused (inr not) = none (not tells)
        where
          none : IsFull members kept returned old new status ⊎ IsRefused members kept returned old.state new.state status → ⊥
          none (inl full) = not_full full
          none (inr of) = ended_refuses (inr refused) of.refuses.statuses

      bad_by : Is BadItem status → Runs → ⊥
      bad_by bad (inl drills) = not_bad_drill bad drills.statuses
      bad_by bad (inr not) = none (not tells)
        where
          none : IsFull members kept returned old new status ⊎ IsRefused members kept returned old.state new.state status → ⊥
          none (inl full) = not_full full
          none (inr of) = refused_bad bad of

      by : IsOneOf each_status status → DrillsOver packets new status items (faults_of members returned)
      by (inl done) = done_by done (run.runs tt)
      by (inr (inl refused)) = absurd (refused_by refused (run.runs tt))
      by (inr (inr (inl failed))) = inr (inl (failed, stopped_once writes (run.honest.fault failed)))
      by (inr (inr (inr (inl memory)))) = inl memory
      by (inr (inr (inr (inr (inl bad))))) = absurd (bad_by bad (run.runs tt))
      by (inr (inr (inr (inr (inr failed))))) = inr (inr (inl (failed, rose_from fresh (run.honest.keeper_fault failed))))

  pub snoops_end : {old new : DoorView} {status : ℕ} (pieces : List (List ℕ))
      → old.state ≡ pieces_in pieces → old.reads ≡ 0 → old.writes ≡ 0
      → captured_of (pieces_in pieces).left ≡ record { all = []; fault = None }
      → SnoopsStore members (Unit {0}) kept returned old new status
      → EndsOver known [] 0 new status items (faults_of members returned)
  snoops_end {old} {new} {status} pieces is reads writes nothing run = by run.honest.statuses
    where
      Runs : Type 0
      Runs = OpensAndSnoops members kept returned old new status ⊎ (Tells members returned → SnoopsNone members kept returned old new status)

      done_by : IsOneOf (Done ∷ Refused ∷ []) status → Runs → EndsOver known [] 0 new status items (faults_of members returned)
      done_by done (inl opens) =
          let leads = opens.snoops.all (whole done) in
          let all = leads.scene_is in
          let captured = sym all.captured ∙ ap (λ (s : DoorState). captured_of s.left) is ∙ nothing in
          let none = no_packets all.entries (ap (λ (c : Captures). c.all) captured) in
          let stays = subst (λ (es : List snoop.Entry). Snoops (opened opens.tables) es leads.session) none all.run in
          let output = ap (λ (es : List snoop.Entry). output_of_entries es all.end) none ∙ ap (output_of_entries []) (ap (λ (c : Captures). c.fault) captured) in
          let wrote = written_out pieces [] (output_of_entries all.entries all.end) 0 is output all.wrote in
          inr (inr (inr (wrote.0, (wrote.1, keeps_on opens.tables leads.session opens.sound (opens.were_kept told tells) (leads.are_kept.items tells) stays))))
      done_by done (inr none) = absurd (ended_refuses done (none tells).refused.refuses.statuses)

      bad_by : Is BadItem status → Runs → ⊥
      bad_by bad (inl opens) = not_bad bad opens.snoops.statuses
      bad_by bad (inr none) = refused_bad bad (none tells).refused

      by : IsOneOf each_status status → EndsOver known [] 0 new status items (faults_of members returned)
      by (inl done) = done_by (inl done) (run.runs tt)
      by (inr (inl refused)) = done_by (inr refused) (run.runs tt)
      by (inr (inr (inl failed))) = inr (inl (failed, failed_once reads writes (run.honest.fault failed)))
      by (inr (inr (inr (inl memory)))) = inl memory
      by (inr (inr (inr (inr (inl bad))))) = absurd (bad_by bad (run.runs tt))
      by (inr (inr (inr (inr (inr failed))))) = inr (inr (inl (failed, rose_from fresh (run.honest.keeper_fault failed))))
