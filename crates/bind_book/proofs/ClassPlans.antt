-- A plan that changes classes is that of the step.
use Rattle.std.proofs.Common.{◌≡◌, ◌≤◌, Bool, true, false, cond, List, [], ◌∷◌, length, Option, Some, None, Ok, Err, refl, sym, ap, subst, ◌∙◌, arith}
use Rattle.std.specs.Prelude.{IsOkAnd, All}
use Rattle.std.specs.List.{AllByRecursion}
use Rattle.std.proofs.lemmas.List.Elements.{All-from_recursion}
use Rattle.mud_base.specs.declared.addr.Addr.{Addr}
use Rattle.base_rows.specs.Changes.{RowChange, changed, is_plain}
use Rattle.mud_world.specs.declared.item.Put.{Put}
use Rattle.mud_world.specs.declared.item.Put.TheVariants.{Set, Gone}
use Rattle.mud_world.specs.Items.{put_all, IsDifference, set_put, gone_put, puts_of}
use Rattle.mud_world.proofs.ItemLaws.{puts_of_kind}
use Rattle.item_codec.specs.declared.word.Word.{Word}
use Rattle.item_codec.specs.declared.word.Word.TheVariants.{Same}
use Rattle.acl_model.specs.Changes.{IsBindingChange}
use Rattle.table_model.specs.declared.bind.Class.{Class}
use Rattle.table_model.specs.declared.bind.ClassRow.{ClassRow}
use Rattle.table_model.specs.Fits.{FitsClass}
use Rattle.table_model.specs.Binds.{Binds, key_of_class, class_key, class_at, class_row, has_addr, with_addr, without_addr, is_class, IsKeptClass, IsSoundClasses, IsSoundBinds}
use Rattle.table_model.specs.BindCommands.{ClassesAfter, ClassStep, bind_step, unbind_step, is_change, with_classes}
use Rattle.table_model.specs.BindRowChanges.{one_row, class_left, bind_cases_change, bind_change, unbind_cases_change, unbind_change}
use Rattle.table_model.specs.BindItems.{class_item}
use Rattle.table_model.specs.ItemFields.{IsAddr}
use Rattle.table_model.specs.TakenItems.{bind_items}
use Rattle.table_model.specs.Tables.{Tables, binds_of, with_binds}
use Rattle.table_model.specs.Bindings.{class_bindings, bindings_of}
use Rattle.table_model.specs.BindingChanges.{gone_of, come_of}
use Rattle.table_laws.proofs.BookChanges.{class_book_change}
use Rattle.table_laws.proofs.BindRows.{Makes, bind_makes, unbind_makes}
use Rattle.table_laws.proofs.BindChanges.{TellsClasses, bind_tells, unbind_tells}
use Rattle.table_laws.proofs.SoundClasses.{OfClasses, sound-bind_step}
use Rattle.table_laws.proofs.BindLaws.{classes_told}
use Rattle.table_model.specs.declared.bind_fault.BindFault.{BindFault}
use Rattle.bind_book.specs.Book.{Book, IsRefusal}
use Rattle.bind_book.specs.Plans.{Plan, IsPlanned, changed_binds, HasRoomFor, same_plan, class_plan}
use Rattle.bind_book.proofs.BookItems.{one_difference, binds_told, class_of_kind, classes_reach}
use Rattle.table_laws.proofs.KeptClasses.{unbind_sound}
use Rattle.bind_book.proofs.Plans.{empty_as_told, bind_puts, same_planned, good_sets}

-- ---- The bindings

bindings_change : (tables : Tables) (binds : Binds) → binds_of tables ≡ binds → (change : RowChange ClassRow) → IsSoundClasses binds.classes → IsSoundClasses (changed class_key change binds.classes) → is_plain class_key change ≡ true
    → IsBindingChange (bindings_of tables) (bindings_of (with_binds (record binds { classes = changed class_key change binds.classes }) tables)) (gone_of class_key class_bindings change binds.classes) (come_of class_key class_bindings change binds.classes)
unfolding binds_of with_binds
bindings_change tables binds e change =
    let Here : Binds → Type 0 = λ b. IsSoundClasses b.classes → IsSoundClasses (changed class_key change b.classes) → is_plain class_key change ≡ true
    → IsBindingChange (bindings_of tables) (bindings_of (with_binds (record b { classes = changed class_key change b.classes }) tables)) (gone_of class_key class_bindings change b.classes) (come_of class_key class_bindings change b.classes) in
    subst Here e (λ sound new plain. class_book_change tables change sound new plain)

-- ---- The puts

-- the change means one put
abbrev HasOnePut : RowChange ClassRow → Type 0
HasOnePut change = (put : Put) × (puts_of 3 class_item change ≡ put ∷ [])

abbrev Differs : RowChange ClassRow → List ClassRow → Type 0
Differs change classes = changed class_key change classes ≡ classes → ⊥

row_put : (row : ClassRow) → HasOnePut (one_row row)
unfolding puts_of set_put
row_put row = (Set (class_item row), refl)

module _ (c : Class) (a : Addr) (classes : List ClassRow) where
  bound_put : (row : ClassRow) (b : Bool) → Differs (cond b (record { gone = None; sets = [] }) (one_row row)) classes → HasOnePut (cond b (record { gone = None; sets = [] }) (one_row row))
  unfolding changed
  bound_put row true differs = absurd (differs refl)
  bound_put row false differs = row_put row

  bind_put : (o : Option ClassRow) → Differs (bind_cases_change c a o) classes → HasOnePut (bind_cases_change c a o)
  unfolding bind_cases_change
  bind_put None differs = row_put (class_row c (a ∷ []))
  bind_put (Some row) differs = bound_put (class_row c (with_addr a row.addrs)) (has_addr a row.addrs) differs

  left_put : (bs : List Addr) → HasOnePut (class_left c bs)
  unfolding puts_of set_put gone_put class_left
  left_put [] = (Gone 3 (key_of_class c), refl)
  left_put (b ∷ bs) = (Set (class_item (class_row c (b ∷ bs))), refl)

  unbind_put : (o : Option ClassRow) → Differs (unbind_cases_change c a o) classes → HasOnePut (unbind_cases_change c a o)
  unfolding unbind_cases_change changed
  unbind_put None differs = absurd (differs refl)
  unbind_put (Some row) differs = left_put (without_addr a row.addrs)

-- ---- The plan of a step

-- what is known of a step on classes and its change of rows
pub record IsClassStep (c : Class) (a : Addr) (binds : Binds) (change : RowChange ClassRow) (step : ClassStep) : Type 0 where
  pub makes : OfClasses (Makes class_key change binds.classes) step
  pub sound : OfClasses IsSoundClasses step
  pub tells : TellsClasses c a binds.classes step
  pub put : Differs change binds.classes → HasOnePut change

planned : (c : Class) (a : Addr) (book : Book) (after : ClassesAfter) (change : RowChange ClassRow) → IsSoundBinds book.binds → IsClassStep c a book.binds change (Ok after) → is_change after.word ≡ true → length change.sets ≤ book.class_room
    → IsOkAnd (with_classes book.binds (Ok after)) (λ done. IsPlanned done book (class_plan after.word change book.binds.classes))
unfolding with_classes class_plan changed_binds HasRoomFor
planned c a book after change sound step changes room =
    let before : Binds = book.binds in
    let new : Binds = record before { classes = after.classes } in
    let new_sound : IsSoundBinds new = record { classes = step.sound; locals = sound.locals; names = sound.names } in
    let one = step.put (λ same. step.tells.other changes (sym step.makes.is ∙ same)) in
    let reached = classes_reach before change ∙ ap (λ classes. bind_items (record before { classes = classes })) step.makes.is in
    let differ = λ (same : bind_items new ≡ bind_items before). step.tells.other changes (ap (λ (binds : Binds). binds.classes) (binds_told new before new_sound sound same)) in
    let difference = subst (λ puts. IsDifference (bind_items before) (bind_items new) puts) (sym one.1) (one_difference (bind_items before) (bind_items new) one.0 (sym (ap (λ puts. put_all (bind_items before) puts) one.1) ∙ reached) differ) in
    record {
      word = refl;
      until = refl;
      leads = ap (λ classes. record before { classes = classes }) step.makes.is;
      sound = new_sound;
      puts = difference;
      empty = empty_as_told before new (puts_of 3 class_item change) (is_change after.word) sound new_sound difference (classes_told before c a (Ok after) step.tells);
      few = subst (λ puts. length puts ≤ 2) (sym one.1) (omega arith);
      kinds = bind_puts 3 (puts_of 3 class_item change) (omega arith) (omega arith) (puts_of_kind class_key 3 class_item class_of_kind change);
      bindings = λ tables e. subst (λ classes. IsBindingChange (bindings_of tables) (bindings_of (with_binds (record before { classes = classes }) tables)) (gone_of class_key class_bindings change before.classes) (come_of class_key class_bindings change before.classes)) step.makes.is
          (bindings_change tables before e change sound.classes (subst IsSoundClasses (sym step.makes.is) step.sound) step.makes.plain);
      room = room;
    }

module _ (c : Class) (a : Addr) where
  planned_here : (book : Book) (change : RowChange ClassRow) (step : ClassStep) (word : Word) (rows : RowChange ClassRow) (plan : Plan) → IsSoundBinds book.binds → IsClassStep c a book.binds change step → is_change word ≡ true
      → IsOkAnd step (λ after. (after.word ≡ word) × (rows ≡ change)) → plan ≡ class_plan word rows book.binds.classes → length rows.sets ≤ book.class_room
      → IsOkAnd (with_classes book.binds step) (λ done. IsPlanned done book plan)
  planned_here book change (Ok after) word rows plan sound step changes said is room =
      let classes : List ClassRow = book.binds.classes in
      let plan_is : plan ≡ class_plan after.word change classes = is ∙ ap (λ w. class_plan w rows classes) (sym said.0) ∙ ap (λ r. class_plan after.word r classes) said.1 in
      subst (λ p. IsOkAnd (with_classes book.binds (Ok after)) (λ done. IsPlanned done book p)) (sym plan_is)
      (planned c a book after change sound step (ap is_change said.0 ∙ changes) (subst (λ r. length r.sets ≤ book.class_room) said.1 room))
  planned_here book change (Err fault) word rows plan sound step changes said is room = absurd said

  -- a plan with the change of the step: the book has the lists of before, and room
  pub class_planned : (book : Book) (binds old : Binds) → binds ≡ old → book.binds ≡ old → (step : List ClassRow → ClassStep) (change : RowChange ClassRow) (word : Word) (rows : RowChange ClassRow) (plan : Plan) → IsSoundBinds binds → IsClassStep c a binds change (step binds.classes) → is_change word ≡ true
      → IsOkAnd (step binds.classes) (λ after. (after.word ≡ word) × (rows ≡ change)) → plan ≡ class_plan word rows old.classes → length rows.sets ≤ book.class_room
      → IsOkAnd (with_classes old (step old.classes)) (λ done. IsPlanned done book plan)
  class_planned book binds old e stays step change word rows plan =
      let Here : Binds → Type 0 = λ b. IsSoundBinds b → IsClassStep c a b change (step b.classes) → is_change word ≡ true → IsOkAnd (step b.classes) (λ after. (after.word ≡ word) × (rows ≡ change)) → plan ≡ class_plan word rows old.classes → length rows.sets ≤ book.class_room
      → IsOkAnd (with_classes old (step old.classes)) (λ done. IsPlanned done book plan) in
      let There : Binds → Type 0 = λ b. IsSoundBinds b → IsClassStep c a b change (step b.classes) → is_change word ≡ true → IsOkAnd (step b.classes) (λ after. (after.word ≡ word) × (rows ≡ change)) → plan ≡ class_plan word rows b.classes → length rows.sets ≤ book.class_room
      → IsOkAnd (with_classes b (step b.classes)) (λ done. IsPlanned done book plan) in
      subst Here (sym e) (subst There stays (planned_here book change (step book.binds.classes) word rows plan))

  same_here : (book : Book) (change : RowChange ClassRow) (step : ClassStep) (plan : Plan) → IsSoundBinds book.binds → IsClassStep c a book.binds change step → IsOkAnd step (λ after. after.word ≡ Same) → plan ≡ same_plan None
      → IsOkAnd (with_classes book.binds step) (λ done. IsPlanned done book plan)
  unfolding with_classes is_change
  same_here book change (Ok after) plan sound step word is =
      let changes : is_change after.word ≡ false = ap is_change word in
      subst (λ p. IsOkAnd (with_classes book.binds (Ok after)) (λ done. IsPlanned done book p)) (sym is)
      (same_planned book (record { word = after.word; until = None; changes = is_change after.word; binds = record book.binds { classes = after.classes } }) sound word changes (ap (λ classes. record book.binds { classes = classes }) (step.tells.stays changes)))
  same_here book change (Err fault) plan sound step word is = absurd word

  -- and one of a step that changes nothing
  pub class_same : (book : Book) (binds : Binds) → binds ≡ book.binds → (step : List ClassRow → ClassStep) (change : RowChange ClassRow) (plan : Plan) → IsSoundBinds binds → IsClassStep c a binds change (step binds.classes) → IsOkAnd (step binds.classes) (λ after. after.word ≡ Same) → plan ≡ same_plan None
      → IsOkAnd (with_classes book.binds (step book.binds.classes)) (λ done. IsPlanned done book plan)
  class_same book binds e step change plan =
      let Here : Binds → Type 0 = λ b. IsSoundBinds b → IsClassStep c a b change (step b.classes) → IsOkAnd (step b.classes) (λ after. after.word ≡ Same) → plan ≡ same_plan None → IsOkAnd (with_classes book.binds (step book.binds.classes)) (λ done. IsPlanned done book plan) in
      subst Here (sym e) (same_here book change (step book.binds.classes) plan)

  all_fit : (rows : List ClassRow) → AllByRecursion IsKeptClass rows → AllByRecursion FitsClass rows
  all_fit [] all = tt
  all_fit (row ∷ rows) all = (all.0.fits, all_fit rows all.1)

  -- the rows that are put in fit their items
  pub class_fits : (binds : Binds) (change : RowChange ClassRow) (step : ClassStep) (word : Word) (rows : RowChange ClassRow) → IsSoundBinds binds → IsClassStep c a binds change step → IsOkAnd step (λ after. (after.word ≡ word) × (rows ≡ change)) → All FitsClass rows.sets
  class_fits binds change (Ok after) word rows sound step said =
      All-from_recursion FitsClass rows.sets (all_fit rows.sets (subst (λ (r : RowChange ClassRow). AllByRecursion IsKeptClass r.sets) (sym said.1)
      (good_sets class_key IsKeptClass change binds.classes sound.classes.ascend step.makes.plain (subst (AllByRecursion IsKeptClass) (sym step.makes.is) step.sound.each))))
  class_fits binds change (Err fault) word rows sound step said = absurd said

-- ---- The two steps

pub bind_known : (c : Class) (a : Addr) (binds : Binds) → IsSoundBinds binds → is_class c ≡ true → IsAddr a → IsClassStep c a binds (bind_change c a binds.classes) (bind_step c a binds.classes)
unfolding bind_change
bind_known c a binds sound e fits = record {
  makes = bind_makes c a binds.classes;
  sound = sound-bind_step c a binds.classes sound.classes e fits;
  tells = bind_tells c a binds.classes;
  put = bind_put c a binds.classes (class_at c binds.classes);
}

-- an address may be asked out of what is no class: then the class isn't kept, and the step is refused
pub unbind_known : (c : Class) (a : Addr) (binds : Binds) → IsSoundBinds binds → IsClassStep c a binds (unbind_change c a binds.classes) (unbind_step c a binds.classes)
unfolding unbind_change
unbind_known c a binds sound = record {
  makes = unbind_makes c a binds.classes;
  sound = unbind_sound c a binds.classes sound.classes (class_at c binds.classes) refl;
  tells = unbind_tells c a binds.classes sound.classes.ascend;
  put = unbind_put c a binds.classes (class_at c binds.classes);
}

-- a refusal over the classes is one over the three lists
pub class_refused : (book : Book) (binds : Binds) → binds ≡ book.binds → (step : List ClassRow → ClassStep) (fault : BindFault) → IsRefusal (step binds.classes) fault → IsRefusal (with_classes book.binds (step book.binds.classes)) fault
unfolding with_classes
class_refused book binds e step fault refused other = ap (λ (b : Binds). with_classes b (step b.classes)) (sym e) ∙ ap (with_classes binds) (refused other)
