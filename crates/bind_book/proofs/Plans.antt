-- What holds of every plan.
use Rattle.std.proofs.Common.{◌≡◌, ℕ, ◌<◌, Bool, true, false, not, ◌&&◌, List, [], ◌∷◌, Option, Some, None, Ok, Err, refl, sym, ap, subst, ◌∙◌, arith}
use Rattle.std.specs.Prelude.{◌↔◌, IsOkAnd}
use Rattle.std.specs.List.{AllByRecursion}
use Rattle.base_rows.specs.Sortable.{SortKeysAscend, row_at}
use Rattle.base_rows.specs.Changes.{RowChange, with_found, rows_at, changed, sort_keys_of, is_plain}
use Rattle.base_rows.proofs.ChangeLaws.{new_rows}
use Rattle.mud_world.specs.declared.item.Put.{Put}
use Rattle.mud_world.specs.Items.{IsDifference, ArePutsOf}
use Rattle.acl_model.specs.declared.binding.Binding.{Binding}
use Rattle.acl_model.specs.Changes.{has_binding, IsBindingChange}
use Rattle.table_model.specs.declared.bind_fault.BindFault.{BindFault}
use Rattle.table_model.specs.Binds.{Binds, IsSoundBinds}
use Rattle.table_model.specs.BindCommands.{BindsAfter, BindStep}
use Rattle.table_model.specs.BindItems.{IsBindPut}
use Rattle.table_model.specs.TakenItems.{bind_items}
use Rattle.table_model.specs.Tables.{Tables, binds_of, with_binds}
use Rattle.table_model.specs.Bindings.{bindings_of}
use Rattle.table_model.proofs.RowSets.{all_at}
use Rattle.item_codec.specs.declared.word.Word.TheVariants.{Same}
use Rattle.bind_book.specs.Book.{Book, IsRefusal}
use Rattle.bind_book.specs.Plans.{Plan, IsPlanned, IsPlanOf, Plans, changed_binds, HasRoomFor, same_plan}
use Rattle.bind_book.proofs.BookItems.{no_difference, none_between, equal_by_none, binds_ordered, binds_told}

-- ---- No put exactly where nothing changes

pub empty_as_told : (before after : Binds) (puts : List Put) (changes : Bool) → IsSoundBinds before → IsSoundBinds after → IsDifference (bind_items before) (bind_items after) puts → (changes ≡ false) ↔ (after ≡ before) → (puts ≡ []) ↔ (changes ≡ false)
empty_as_told before after puts changes sound new difference told = (
  λ none. told.1 (binds_told after before new sound (equal_by_none (bind_items before) (bind_items after) puts difference none)),
  λ same. none_between (bind_items before) (bind_items after) puts (binds_ordered before sound) difference (ap bind_items (told.0 same)),
)

-- puts of one of the three kinds
pub bind_puts : (kind : ℕ) (puts : List Put) → 2 < kind → kind < 6 → ArePutsOf kind puts → AllByRecursion IsBindPut puts
bind_puts kind [] low high of = tt
bind_puts kind (put ∷ puts) low high of = (
  (subst (λ k. 2 < k) (sym of.0) low, subst (λ k. k < 6) (sym of.0) high),
  bind_puts kind puts low high of.1,
)

-- ---- Nothing changes

both_not : (b : Bool) → false ≡ (b && not b)
both_not true = refl
both_not false = refl

pub no_binding_change : (bindings : List Binding) → IsBindingChange bindings bindings [] []
unfolding has_binding
no_binding_change bindings = record { went = λ b. both_not (has_binding b bindings); came = λ b. both_not (has_binding b bindings); gone_once = refl; come_once = refl }

pub bindings_stay : (tables : Tables) (binds : Binds) → binds_of tables ≡ binds → IsBindingChange (bindings_of tables) (bindings_of (with_binds binds tables)) [] []
unfolding binds_of with_binds
bindings_stay tables binds e = subst (λ b. IsBindingChange (bindings_of tables) (bindings_of (with_binds b tables)) [] []) e (no_binding_change (bindings_of tables))

pub same_planned : (book : Book) (after : BindsAfter) → IsSoundBinds book.binds → after.word ≡ Same → after.changes ≡ false → after.binds ≡ book.binds → IsPlanned after book (same_plan after.until)
unfolding same_plan changed_binds HasRoomFor
same_planned book after sound word changes stays = record {
  word = sym word;
  until = refl;
  leads = sym stays;
  sound = subst IsSoundBinds (sym stays) sound;
  puts = subst (λ binds. IsDifference (bind_items book.binds) (bind_items binds) []) (sym stays) (no_difference (bind_items book.binds));
  empty = (λ _. changes, λ _. refl);
  few = omega arith;
  kinds = tt;
  bindings = λ tables e. bindings_stay tables after.binds (e ∙ sym stays);
  room = tt;
}

-- ---- The rows that are put in

module _ {R : Type 0} (sort_key : R → List ℕ) (P : R → Type 0) where
  good_found : (rows : List R) (q : List ℕ) → AllByRecursion P rows → (o : Option R) → row_at sort_key q rows ≡ o → (found : List R) → AllByRecursion P found → AllByRecursion P (with_found o found)
  good_found rows q all None is found more = more
  good_found rows q all (Some x) is found more = (all_at sort_key P rows q x all is, more)

  good_at : (qs : List (List ℕ)) (rows : List R) → AllByRecursion P rows → AllByRecursion P (rows_at sort_key qs rows)
  good_at [] rows all = tt
  good_at (q ∷ qs) rows all = good_found rows q all (row_at sort_key q rows) refl (rows_at sort_key qs rows) (good_at qs rows all)

  -- what holds of all rows after a change holds of those that it puts in
  pub good_sets : (change : RowChange R) (rows : List R) → SortKeysAscend sort_key rows → is_plain sort_key change ≡ true → AllByRecursion P (changed sort_key change rows) → AllByRecursion P change.sets
  good_sets change rows up plain all = subst (AllByRecursion P) (new_rows sort_key change rows up plain) (good_at (sort_keys_of sort_key change) (changed sort_key change rows) all)

-- ---- A plan can be committed

pub commits : (step : BindStep) (book : Book) (change : Plan) → IsOkAnd step (λ after. IsPlanned after book change) → HasRoomFor change.rows book × IsSoundBinds (changed_binds change.rows book.binds)
commits (Ok after) book change planned = (planned.room, subst IsSoundBinds (sym planned.leads) planned.sound)
commits (Err fault) book change planned = absurd planned

pub commits_to : (step : BindStep) (book : Book) (change : Plan) → IsOkAnd step (λ after. IsPlanned after book change) → IsOkAnd step (λ after. changed_binds change.rows book.binds ≡ after.binds)
commits_to (Ok after) book change planned = planned.leads
commits_to (Err fault) book change planned = absurd planned

-- ---- What a call that plans answers

pub is_plan : {step : BindStep} {before after : Book} {plan : Plan} → after.binds ≡ before.binds → IsPlanOf step after plan → Plans step before after (Ok plan)
is_plan same ok = record { same = same; ok = ok; err = tt }

pub is_refusal : {step : BindStep} {before after : Book} {fault : BindFault} → after.binds ≡ before.binds → IsRefusal step fault → Plans step before after (Err fault)
is_refusal same err = record { same = same; ok = tt; err = err }
