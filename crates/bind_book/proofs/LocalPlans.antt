-- A plan that sets the local networks is that of the step.
use Rattle.std.proofs.Common.{◌≡◌, ◌<◌, true, false, List, [], ◌∷◌, ◌++◌, length, Option, Some, None, Ok, Err, refl, sym, ap, subst, ◌∙◌, arith}
use Rattle.std.specs.Prelude.{IsOkAnd, MatchOption}
use Rattle.std.specs.List.{AllByRecursion}
use Rattle.mud_base.specs.declared.prefix.Prefix.{Prefix}
use Rattle.mud_world.specs.Items.{kind_of_put, put_one}
use Rattle.item_codec.specs.declared.word.Word.TheVariants.{Same, Set}
use Rattle.acl_model.specs.Changes.{IsBindingChange}
use Rattle.table_model.specs.declared.bind_fault.BindFault.{BindFault}
use Rattle.table_model.specs.Fits.{FitsLocals}
use Rattle.table_model.specs.Binds.{Binds, IsKeptNetwork, IsSoundLocals, IsSoundBinds}
use Rattle.table_model.specs.BindCommands.{LocalsAfter, LocalStep, locals_step, is_change}
use Rattle.table_model.specs.BindItems.{locals_item, locals_items}
use Rattle.table_model.specs.TakenItems.{bind_items}
use Rattle.table_model.specs.Tables.{Tables, binds_of, with_binds}
use Rattle.table_model.specs.Bindings.{bindings_of}
use Rattle.table_laws.proofs.BindChanges.{TellsLocals, locals_tell}
use Rattle.table_laws.proofs.SoundLocals.{OfLocals, sound-locals_step}
use Rattle.table_laws.proofs.BindLaws.{locals_told}
use Rattle.bind_book.specs.Book.{Book, IsRefusal}
use Rattle.bind_book.specs.Plans.{Plan, IsSetLocals, IsPlanned, changed_binds, HasRoomFor, same_plan, locals_put, locals_plan}
use Rattle.bind_book.proofs.BookItems.{one_difference, binds_told, locals_reach}
use Rattle.bind_book.proofs.Plans.{empty_as_told, no_binding_change, same_planned}
use Rattle.table_model.proofs.TakenLaws.{fitting_networks, few_fit}
use Rattle.table_model.proofs.Parts.{class_items, name_items, with_locals}

-- ---- The put

put_is : (old new : List Prefix) → put_one (locals_items old) (locals_put new) ≡ locals_items new
unfolding locals_items locals_item locals_put
put_is [] [] = refl
put_is [] (p ∷ ps) = refl
put_is (q ∷ qs) [] = refl
put_is (q ∷ qs) (p ∷ ps) = refl

put_kind : (locals : List Prefix) → kind_of_put (locals_put locals) ≡ 4
unfolding locals_item locals_put
put_kind [] = refl
put_kind (p ∷ ps) = refl

reached : (binds : Binds) (locals : List Prefix) → put_one (bind_items binds) (locals_put locals) ≡ bind_items (record binds { locals = locals })
unfolding bind_items
reached binds locals = locals_reach binds (locals_put locals) (put_kind locals, tt) ∙ ap (λ items. class_items binds.classes ++ (items ++ name_items binds.names)) (put_is binds.locals locals)

-- ---- The bindings

bindings_stay : (tables : Tables) (binds : Binds) (locals : List Prefix) → binds_of tables ≡ binds → IsBindingChange (bindings_of tables) (bindings_of (with_binds (record binds { locals = locals }) tables)) [] []
unfolding binds_of with_binds bindings_of
bindings_stay tables binds locals e = subst (λ b. IsBindingChange (bindings_of tables) (bindings_of (with_binds (record b { locals = locals }) tables)) [] []) e (no_binding_change (bindings_of tables))

-- ---- The plan of a step

-- what is known of the step
pub record IsLocalStep (prefixes : List Prefix) (binds : Binds) (step : LocalStep) : Type 0 where
  pub sound : OfLocals IsSoundLocals step
  pub tells : TellsLocals prefixes binds.locals step

module _ (prefixes : List Prefix) where
  planned : (book : Book) (after : LocalsAfter) → IsSoundBinds book.binds → IsLocalStep prefixes book.binds (Ok after) → after.word ≡ Set → IsOkAnd (with_locals book.binds (Ok after)) (λ done. IsPlanned done book (locals_plan after.locals))
  unfolding locals_plan changed_binds HasRoomFor is_change
  planned book after sound step word =
      let before : Binds = book.binds in
      let locals : List Prefix = after.locals in
      let new : Binds = record before { locals = locals } in
      let new_sound : IsSoundBinds new = record { classes = sound.classes; locals = step.sound; names = sound.names } in
      let changes : is_change after.word ≡ true = ap is_change word in
      let differ = λ (same : bind_items new ≡ bind_items before). step.tells.other changes (ap (λ (binds : Binds). binds.locals) (binds_told new before new_sound sound same)) in
      let difference = one_difference (bind_items before) (bind_items new) (locals_put locals) (reached before locals) differ in
      record {
        word = sym word;
        until = refl;
        leads = refl;
        sound = new_sound;
        puts = difference;
        empty = empty_as_told before new (locals_put locals ∷ []) (is_change after.word) sound new_sound difference (locals_told before prefixes (Ok after) step.tells);
        few = omega arith;
        kinds = ((subst (λ k. 2 < k) (sym (put_kind locals)) (omega arith), subst (λ k. k < 6) (sym (put_kind locals)) (omega arith)), tt);
        bindings = λ tables e. bindings_stay tables before locals e;
        room = tt;
      }

  planned_here : (book : Book) (step : LocalStep) (found : Option (List Prefix)) (locals : List Prefix) (plan : Plan) → found ≡ Some locals → IsSoundBinds book.binds → IsLocalStep prefixes book.binds step
      → IsOkAnd step (λ after. MatchOption found (after.word ≡ Same) (λ set. (after.word ≡ Set) × (set ≡ after.locals))) → plan ≡ locals_plan locals → IsOkAnd (with_locals book.binds step) (λ done. IsPlanned done book plan)
  planned_here book (Ok after) found locals plan is sound step said made =
      let told : (after.word ≡ Set) × (locals ≡ after.locals) = subst (λ o. MatchOption o (after.word ≡ Same) (λ set. (after.word ≡ Set) × (set ≡ after.locals))) is said in
      subst (λ p. IsOkAnd (with_locals book.binds (Ok after)) (λ done. IsPlanned done book p)) (sym (made ∙ ap locals_plan told.1)) (planned book after sound step told.0)
  planned_here book (Err fault) found locals plan is sound step said made = absurd said

  same_here : (book : Book) (step : LocalStep) (found : Option (List Prefix)) (plan : Plan) → found ≡ None → IsSoundBinds book.binds → IsLocalStep prefixes book.binds step
      → IsOkAnd step (λ after. MatchOption found (after.word ≡ Same) (λ set. (after.word ≡ Set) × (set ≡ after.locals))) → plan ≡ same_plan None → IsOkAnd (with_locals book.binds step) (λ done. IsPlanned done book plan)
  unfolding is_change
  same_here book (Ok after) found plan is sound step said made =
      let word : after.word ≡ Same = subst (λ o. MatchOption o (after.word ≡ Same) (λ set. (after.word ≡ Set) × (set ≡ after.locals))) is said in
      let changes : is_change after.word ≡ false = ap is_change word in
      subst (λ p. IsOkAnd (with_locals book.binds (Ok after)) (λ done. IsPlanned done book p)) (sym made)
      (same_planned book (record { word = after.word; until = None; changes = is_change after.word; binds = record book.binds { locals = after.locals } }) sound word changes (ap (λ locals. record book.binds { locals = locals }) (step.tells.stays changes)))
  same_here book (Err fault) found plan is sound step said made = absurd said

  known : (binds : Binds) → IsSoundBinds binds → AllByRecursion IsKeptNetwork prefixes → IsLocalStep prefixes binds (locals_step prefixes binds.locals)
  known binds sound each = record { sound = sound-locals_step prefixes binds.locals each sound.locals; tells = locals_tell prefixes binds.locals }

  -- a plan with the local networks of the step
  pub locals_planned : (book : Book) (binds : Binds) → binds ≡ book.binds → (found : Option (List Prefix)) (locals : List Prefix) (plan : Plan) → found ≡ Some locals → IsSoundBinds binds → AllByRecursion IsKeptNetwork prefixes → IsSetLocals prefixes binds.locals found → plan ≡ locals_plan locals
      → IsOkAnd (with_locals book.binds (locals_step prefixes book.binds.locals)) (λ done. IsPlanned done book plan)
  locals_planned book binds e found locals plan is =
      let Here : Binds → Type 0 = λ b. IsSoundBinds b → AllByRecursion IsKeptNetwork prefixes → IsSetLocals prefixes b.locals found → plan ≡ locals_plan locals → IsOkAnd (with_locals book.binds (locals_step prefixes book.binds.locals)) (λ done. IsPlanned done book plan) in
      subst Here (sym e) (λ sound each. planned_here book (locals_step prefixes book.binds.locals) found locals plan is sound (known book.binds sound each))

  -- and one of a step that changes nothing
  pub locals_same : (book : Book) (binds : Binds) → binds ≡ book.binds → (found : Option (List Prefix)) (plan : Plan) → found ≡ None → IsSoundBinds binds → AllByRecursion IsKeptNetwork prefixes → IsSetLocals prefixes binds.locals found → plan ≡ same_plan None
      → IsOkAnd (with_locals book.binds (locals_step prefixes book.binds.locals)) (λ done. IsPlanned done book plan)
  locals_same book binds e found plan is =
      let Here : Binds → Type 0 = λ b. IsSoundBinds b → AllByRecursion IsKeptNetwork prefixes → IsSetLocals prefixes b.locals found → plan ≡ same_plan None → IsOkAnd (with_locals book.binds (locals_step prefixes book.binds.locals)) (λ done. IsPlanned done book plan) in
      subst Here (sym e) (λ sound each. same_here book (locals_step prefixes book.binds.locals) found plan is sound (known book.binds sound each))

sound_fit : (locals : List Prefix) → IsSoundLocals locals → FitsLocals locals
sound_fit locals sound = record { few = few_fit (length locals) sound.few; each = fitting_networks locals sound.each }

-- the local networks fit their item
pub locals_fit : (prefixes : List Prefix) (step : LocalStep) (found : Option (List Prefix)) (locals : List Prefix) → found ≡ Some locals → OfLocals IsSoundLocals step → IsOkAnd step (λ after. MatchOption found (after.word ≡ Same) (λ set. (after.word ≡ Set) × (set ≡ after.locals))) → FitsLocals locals
locals_fit prefixes (Ok after) found locals is sound said =
    let told : (after.word ≡ Set) × (locals ≡ after.locals) = subst (λ o. MatchOption o (after.word ≡ Same) (λ set. (after.word ≡ Set) × (set ≡ after.locals))) is said in
    subst FitsLocals (sym told.1) (sound_fit after.locals sound)
locals_fit prefixes (Err fault) found locals is sound said = absurd said

-- a refusal over the local networks is one over the three lists
pub locals_refused : (book : Book) (binds : Binds) → binds ≡ book.binds → (prefixes : List Prefix) (fault : BindFault) → IsRefusal (locals_step prefixes binds.locals) fault → IsRefusal (with_locals book.binds (locals_step prefixes book.binds.locals)) fault
locals_refused book binds e prefixes fault refused other = ap (λ (b : Binds). with_locals b (locals_step prefixes b.locals)) (sym e) ∙ ap (with_locals binds) (refused other)
