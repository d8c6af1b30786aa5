-- What stays of a desk's keeper, where a call leaves it, and from call to call.
use Rattle.std.proofs.Common.{◌≡◌, ◌⊎◌, ℕ, inl, inr, List, Ok, Err, sym, ap, subst, ◌∙◌}
use Rattle.mud_world.specs.declared.item.Item.{Item}
use Rattle.mud_world.specs.declared.item.Put.{Put}
use Rattle.mud_world.specs.Items.{put_all}
use Rattle.mud_world.specs.declared.keeper.Keeper.{Ghosts}
use Rattle.mud_world.specs.Kept.{Tells, kept_items, IsOpen}
use Rattle.desk_model.specs.DeskTables.{DeskTables}
use Rattle.desk_model.specs.Items.{items_of}
use Rattle.desk_model.specs.declared.command.Command.{Command}
use Rattle.desk_model.specs.Commands.{DeskStep, command_step}
use Rattle.desk_model.specs.Kept.{AreItemsAfter, IsKept, IsOrAfter}
use Rattle.desk_books.specs.Books.{desk_of}
use Rattle.mud_desk.specs.DeskState.{DeskState, tables_of}
use Rattle.mud_desk.specs.declared.desk.Desk.{Desk}
use Rattle.mud_desk.specs.Stays.{StaysKept}

pub same_tables : (before after : DeskState) → after.books ≡ before.books → tables_of after ≡ tables_of before
unfolding tables_of
same_tables before after same = ap desk_of same

module _ {K : Type 0} (members : Ghosts K) where
  -- the keeper wasn't called, and the lists are the same
  pub stays_untold : {before after : Desk K} → after.keeper ≡ before.keeper → tables_of after.state ≡ tables_of before.state
      → IsKept members before.keeper (tables_of before.state) → StaysKept members before after
  stays_untold {before} {after} same tables kept = record {
    kept = subst (λ (keeper : K). IsKept members keeper (tables_of after.state)) (sym same)
        (subst (λ (desk : DeskTables). IsKept members before.keeper desk) (sym tables) kept);
    told = λ tells. subst (λ (keeper : K). Tells members keeper) same tells;
  }

  -- a crash leaves what it could leave before, or the items with the whole batch
  abbrev pub LeavesBatch : K → K → List Put → Type 0
  LeavesBatch before after batch =
      (list : List Item) → members.left after list → members.left before list ⊎ (Tells members before × (list ≡ put_all (kept_items members before) batch))

  -- or the items behind the command
  abbrev pub LeavesAfter : K → K → DeskTables → Command → ℕ → Type 0
  LeavesAfter before after desk command now =
      (list : List Item) → members.left after list → members.left before list ⊎ AreItemsAfter (command_step desk now command) list

  after_step : (items list : List Item) (step : DeskStep) → AreItemsAfter step items → list ≡ items → AreItemsAfter step list
  after_step items list (Ok s) leads same = same ∙ leads
  after_step items list (Err refusal) leads same = absurd leads

  -- what a crash leaves behind the batch of a command
  pub left_behind : (before after : K) (desk : DeskTables) (step : DeskStep) (batch : List Put) → IsKept members before desk → AreItemsAfter step (put_all (items_of desk) batch)
      → LeavesBatch before after batch → (list : List Item) → members.left after list → members.left before list ⊎ AreItemsAfter step list
  left_behind before after desk step batch kept leads crash list left = elim (crash list left) [
    | inl was ↦ inl was
    | inr put ↦ inr (after_step (put_all (items_of desk) batch) list step leads (put.1 ∙ ap (λ (items : List Item). put_all items batch) (kept.items put.0)))
  ]

  -- the batch of a command wasn't kept
  pub stays_unput : {before after : Desk K} (now : ℕ) (command : Command) → IsOpen members after.keeper → (Tells members after.keeper → Tells members before.keeper)
      → (Tells members after.keeper → kept_items members after.keeper ≡ kept_items members before.keeper)
      → LeavesAfter before.keeper after.keeper (tables_of before.state) command now
      → tables_of after.state ≡ tables_of before.state → IsKept members before.keeper (tables_of before.state) → StaysKept members before after
  stays_unput {before} {after} now command is_open told items crash tables kept = record {
    kept = record {
      is_open = is_open;
      items = λ tells. items tells ∙ kept.items (told tells) ∙ ap items_of (sym tables);
      crash = λ list left.
          subst (λ (desk : DeskTables). IsOrAfter desk list) (sym tables) (elim (crash list left) [
            | inl was ↦ kept.crash list was
            | inr put ↦ inr (now, command, put)
          ]);
    };
    told = told;
  }

  -- a frame was judged
  pub stays_judged : {before after : Desk K} → after.keeper ≡ before.keeper → after.state.books ≡ before.state.books
      → IsKept members before.keeper (tables_of before.state) → StaysKept members before after
  stays_judged {before} {after} same books kept = stays_untold {before = before} {after = after} same (same_tables before.state after.state books) kept

  -- only the moment was raised
  pub stays_raised : {before after : Desk K} (moment : ℕ) → after.keeper ≡ before.keeper → after.state ≡ record before.state { moment = moment }
      → IsKept members before.keeper (tables_of before.state) → StaysKept members before after
  stays_raised {before} {after} moment same state kept = stays_judged {before = before} {after = after} same (ap (λ (s : DeskState). s.books) state) kept

  -- a call behind another
  pub stays_further : {a b c : Desk K} → StaysKept members a b → StaysKept members b c → StaysKept members a c
  stays_further p q = record {
    kept = q.kept;
    told = λ tells. p.told (q.told tells);
  }

  -- no call
  pub stays_itself : {a : Desk K} → IsKept members a.keeper (tables_of a.state) → StaysKept members a a
  stays_itself {a} kept = record { kept = kept; told = λ tells. tells }
