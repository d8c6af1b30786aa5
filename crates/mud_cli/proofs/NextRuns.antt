-- What a crash leaves at the end of each command's run.
use Rattle.std.proofs.Common.{◌≡◌, ◌⊎◌, ℕ, inl, inr, List, refl, sym, subst}
use Rattle.mud_world.specs.declared.clock.Clock as clock
use Rattle.mud_world.specs.declared.door.Door as door
use Rattle.mud_world.specs.declared.keeper.Keeper.{Ghosts}
use Rattle.mud_world.specs.declared.item.Item.{Item}
use Rattle.mud_world.specs.declared.spool.Spool as spool
use Rattle.mud_world.specs.Kept.{Tells, kept_items}
use Rattle.desk_model.specs.DeskTables.{DeskTables}
use Rattle.desk_model.specs.Kept.{IsKept}
use Rattle.desk_model.specs.Keeping.{KeepsSame}
use Rattle.run_words.specs.declared.command.Command.{Command}
use Rattle.run_words.specs.declared.command.Command.TheVariants.{Hear, Check, Frames, Judge, Snoop, Tally, Import, Replay, Serve, Report, Export, Drill}
use Rattle.run_desk.specs.Store.{IsUnopened, KeepsTables, LeavesStore}
use Rattle.run_desk.proofs.Stores.{is_kept_or}
use Rattle.mud_cli.specs.NextRun.{LeavesBehind, LeavesSame}
use Rattle.mud_cli.specs.Runs.{Does, LeavesAlone, World}

module _ {K : Type 0} (members : Ghosts K) (keeper returned : K) (status : ℕ) where
  untouched : returned ≡ keeper → LeavesBehind members keeper returned
  untouched same tells list left = inl (subst (λ (it : K). members.left it list) same left)

  by_desk : (desk : DeskTables) → IsKept members returned desk → LeavesBehind members keeper returned
  by_desk desk kept tells list left = inr (inl (desk, kept, kept.crash list left))

  by_kept : KeepsTables members returned ⊎ IsUnopened members keeper returned status → LeavesBehind members keeper returned
  by_kept (inl keeps) tells list left = by_desk keeps.tables keeps.kept tells list left
  by_kept (inr unopened) tells list left = elim (unopened.crash tells list left) [ inl before ↦ inl before | inr same ↦ inr (inr same) ]

  by_store : LeavesStore members keeper returned status → LeavesBehind members keeper returned
  by_store leaves = by_kept (is_kept_or leaves.kept)

  -- of a command that changes no table, whose store was opened
  read_alone : LeavesStore members keeper returned status → Tells members keeper → (list : List Item) → members.left returned list
      → members.left keeper list ⊎ KeepsSame (kept_items members keeper) list
  read_alone leaves tells list left = elim leaves.kept [
    | inl (keeps, rests) ↦ let now = rests list left in inr (subst (KeepsSame (kept_items members keeper)) (sym now.1) (leaves.same tells now.0))
    | inr unopened ↦ unopened.crash tells list left
  ]

  module _ {D P C : Type 0} (doors : door.Ghosts D) (spools : spool.Ghosts P) (clocks : clock.Ghosts C) (old new : World D P C) where
    pub runs_leave : (command : Command) → Does members doors spools clocks keeper returned old new status command
        → LeavesAlone keeper returned old new status command → LeavesBehind members keeper returned
    runs_leave (Hear message) does alone = untouched (alone.same_keeper refl)
    runs_leave Check does alone = untouched (alone.same_keeper refl)
    runs_leave Frames does alone = untouched (alone.same_keeper refl)
    runs_leave Judge does alone = by_store does.leaves
    runs_leave Snoop does alone = by_kept does.kept
    runs_leave Tally does alone = by_store does.leaves
    runs_leave Import does alone = by_kept does.kept
    runs_leave Replay does alone = elim does.runs [
      | inl opens ↦ by_desk opens.replays.left.next.session.desk opens.replays.left.kept.kept
      | inr none ↦ by_store none.leaves
    ]
    runs_leave (Serve port count) does alone = elim does.0.runs [
      | inl opens ↦ by_desk opens.serves.left.next.session.desk opens.serves.left.kept.kept
      | inr none ↦ by_store none.0.leaves
    ]
    runs_leave (Report kind) does alone = by_store does.0.leaves
    runs_leave (Export mac) does alone = by_store does.0.leaves
    runs_leave (Drill packets) does alone = by_kept does.kept

    pub reads_leave : (command : Command) → Does members doors spools clocks keeper returned old new status command
        → LeavesAlone keeper returned old new status command → LeavesSame members keeper returned command
    reads_leave (Hear message) does alone reads tells list left = inl (subst (λ (it : K). members.left it list) (alone.same_keeper refl) left)
    reads_leave Check does alone reads tells list left = inl (subst (λ (it : K). members.left it list) (alone.same_keeper refl) left)
    reads_leave Frames does alone reads tells list left = inl (subst (λ (it : K). members.left it list) (alone.same_keeper refl) left)
    reads_leave Judge does alone reads tells list left = read_alone does.leaves tells list left
    reads_leave Snoop does alone reads tells list left = absurd (let e = reads in cc)
    reads_leave Tally does alone reads tells list left = read_alone does.leaves tells list left
    reads_leave Import does alone reads tells list left = absurd (let e = reads in cc)
    reads_leave Replay does alone reads tells list left = absurd (let e = reads in cc)
    reads_leave (Serve port count) does alone reads tells list left = absurd (let e = reads in cc)
    reads_leave (Report kind) does alone reads tells list left = read_alone does.0.leaves tells list left
    reads_leave (Export mac) does alone reads tells list left = read_alone does.0.leaves tells list left
    reads_leave (Drill packets) does alone reads tells list left = absurd (let e = reads in cc)
