-- A plan that says what the step says is the step, in all that a planned change says and does.
use Rattle.std.proofs.Common.{◌≡◌, ℕ, ◌≤◌, ◌<◌, ◌^◌, Bool, List, [], ◌∷◌, length, map, Option, Some, None, Result, Ok, Err, IsTrue, refl, sym, ap, subst, ◌∙◌, arith}
use Rattle.std.specs.Prelude.{IfOk, IfErr, OnOk, IsOkAnd}
use Rattle.std.specs.List.{AllByRecursion}
use Rattle.std.specs.Option.{option_map}
use Rattle.std.proofs.lemmas.Option.{same_Some}
use Rattle.std.proofs.lemmas.Bool.{false_from_ne_true}
use Rattle.mud_base.specs.declared.addr.Addr.{Addr}
use Rattle.mud_base.specs.declared.addr.Mac.{Mac}
use Rattle.mud_url.specs.Url.{is_canonical}
use Rattle.base_rows.specs.Sortable.{row_at, set_rows, RowsAndRoom}
use Rattle.base_rows.specs.Changes.{RowChange, changed, sort_keys_of, rows_at, with_found, without_gone}
use Rattle.base_rows.proofs.ChangeLaws.{new_rows}
use Rattle.mud_world.specs.declared.item.Put.{Put}
use Rattle.mud_world.specs.Items.{sort_key_of, sort_key_of_put, item_after, set_put, gone_put, puts_of, IsDifference, IsOrdered}
use Rattle.mud_world.proofs.ItemLaws.{puts_of_kind, puts_length, ordered-items, said, put_same}
use Rattle.acl_model.specs.Changes.{IsBindingChange}
use Rattle.table_model.specs.declared.thing.Thing.{Thing}
use Rattle.table_model.specs.declared.thing_fault.ThingFault.{ThingFault}
use Rattle.table_model.specs.declared.thing_fault.ThingFault.TheVariants.{Memory}
use Rattle.table_model.specs.Things.{mac_of, IsKeptThing, IsSoundThings}
use Rattle.table_model.specs.ThingItems.{thing_item, thing_items, thing_in}
use Rattle.table_model.specs.ThingCommands.{ThingsAfter, TellsChange, ThingStep}
use Rattle.table_model.specs.Tables.{Tables}
use Rattle.table_model.specs.Bindings.{thing_bindings, bindings_of}
use Rattle.table_model.specs.BindingChanges.{gone_of, come_of}
use Rattle.table_model.specs.ThingCommands.{url_step, move_step, remove_step, hold_step, release_step, lease_step, end_step}
use Rattle.table_model.specs.ThingChanges.{lease_change, end_change}
use Rattle.table_model.specs.ItemFields.{IsAddr}
use Rattle.table_model.proofs.SoundThings.{OfAfter, sound-url_step, sound-move_step, sound-remove_step, sound-hold_step, sound-release_step, sound-lease_step, sound-end_step}
use Rattle.table_model.proofs.ToldThings.{told-url_step, told-move_step, told-remove_step, told-hold_step, told-release_step, told-lease_step, told-end_step}
use Rattle.table_model.proofs.RowSets.{all_at}
use Rattle.table_model.proofs.ItemLaws.{thing_back, are_things}
use Rattle.table_laws.proofs.BookChanges.{thing_book_change}
use Rattle.thing_book.specs.declared.plan.Plan.{Plan}
use Rattle.thing_book.specs.Planned.{Things, PlannedThings, IsPlanned, IsPlanOf, IsReady, Plans}
use Rattle.thing_book.specs.RowChanges.{Says, url_change, move_change, remove_change, hold_change, release_change}
use Rattle.thing_book.specs.Changes.{HasFewLeases, change_of}
use Rattle.thing_book.proofs.KeptItems.{kept_differ}
use Rattle.thing_book.proofs.StepRows.{Makes, MakesStep, all_weaker, url_step_makes, move_step_makes, remove_step_makes, hold_step_makes, release_step_makes, lease_step_makes, end_step_makes}

-- ---- Items of Things

-- two Things that can be kept and have one item are one
one_item : (x y : Thing) → IsKeptThing x → IsKeptThing y → thing_item x ≡ thing_item y → x ≡ y
one_item x y kept kept' e = same_Some x y (sym (thing_back x kept) ∙ ap thing_in e ∙ thing_back y kept')

-- ---- Rows that are put in

found_all : {R : Type 0} (sort_key : R → List ℕ) (P : R → Type 0) (ps : List (List ℕ)) (rows : List R) → AllByRecursion P rows → AllByRecursion P (rows_at sort_key ps rows)
found_all sort_key P [] rows all = tt
found_all sort_key P (p ∷ ps) rows all = with_one (row_at sort_key p rows) refl (found_all sort_key P ps rows all)
  where
    with_one : (o : Option _) → row_at sort_key p rows ≡ o → AllByRecursion P (rows_at sort_key ps rows) → AllByRecursion P (with_found o (rows_at sort_key ps rows))
    with_one None e rest = rest
    with_one (Some x) e rest = (all_at sort_key P rows p x all e, rest)

module _ (things : List Thing) (sound : IsSoundThings things) (change : RowChange Thing) (after : List Thing) (sound' : IsSoundThings after) (makes : Makes things change after) where
  -- each Thing that is put in can be kept
  sets_kept : AllByRecursion IsKeptThing change.sets
  sets_kept =
      subst (AllByRecursion IsKeptThing) (new_rows mac_of change things sound.ascend makes.plain)
      (found_all mac_of IsKeptThing (sort_keys_of mac_of change) (changed mac_of change things) (subst (AllByRecursion IsKeptThing) (sym makes.leads) sound'.each))

  differ : IsDifference (thing_items things) (thing_items after) (puts_of 1 thing_item change)
  unfolding thing_items
  differ =
      subst (λ ts. IsDifference (map thing_item things) (map thing_item ts) (puts_of 1 thing_item change)) makes.leads
      (kept_differ mac_of 1 thing_item are_things IsKeptThing one_item things sound.ascend sound.each change sets_kept makes.plain makes.needed)

  few_puts : length (puts_of 1 thing_item change) ≤ 2
  few_puts = let long : length (puts_of 1 thing_item change) ≡ length (sort_keys_of mac_of change) = puts_length mac_of 1 thing_item are_things change in omega (arith, long, makes.few)

  bind : (tables : Tables) → tables.things ≡ things → IsBindingChange (bindings_of tables) (bindings_of (record tables { things = after })) (gone_of mac_of thing_bindings change things) (come_of mac_of thing_bindings change things)
  bind tables e =
      subst (λ ts. IsBindingChange (bindings_of tables) (bindings_of (record tables { things = after })) (gone_of mac_of thing_bindings change ts) (come_of mac_of thing_bindings change ts)) e
      (subst (λ ts. IsBindingChange (bindings_of tables) (bindings_of (record tables { things = ts })) (gone_of mac_of thing_bindings change tables.things) (come_of mac_of thing_bindings change tables.things))
      (ap (changed mac_of change) e ∙ makes.leads)
      (thing_book_change tables change (subst IsSoundThings (sym e) sound) (subst IsSoundThings (sym (ap (changed mac_of change) e ∙ makes.leads)) sound') makes.plain))

  nothing_put : (gone : Option (List ℕ)) (sets : List Thing) → with_found (option_map (gone_put 1) gone) (map (set_put thing_item) sets) ≡ [] → set_rows mac_of sets (without_gone mac_of gone things) ≡ things
  nothing_put None [] e = refl
  nothing_put None (x ∷ xs) e = cc
  nothing_put (Some p) sets e = cc

  -- without puts the list is the same
  no_puts : puts_of 1 thing_item change ≡ [] → after ≡ things
  unfolding puts_of changed
  no_puts e = sym makes.leads ∙ nothing_put change.gone change.sets e

  -- where the list is the same, there are no puts: the first would change something
  first_changes : after ≡ things → (puts : List Put) → IsDifference (thing_items things) (thing_items after) puts → puts ≡ []
  unfolding thing_items
  first_changes e [] difference = refl
  first_changes e (put ∷ puts) difference =
      let up : IsOrdered (map thing_item things) = ordered-items mac_of 1 thing_item are_things things sound.ascend in
      let there : row_at sort_key_of (sort_key_of_put put) (map thing_item things) ≡ item_after put =
      ap (λ ts. row_at sort_key_of (sort_key_of_put put) (map thing_item ts)) (sym e) ∙ (said (map thing_item things) (map thing_item after) (put ∷ puts) up difference).0 in
      absurd (difference.needed 0 put (omega arith) (put_same (map thing_item things) put up there))

-- ---- The step

-- what is proved of a step from sound Things: its rows make its list, this is sound, and the step says truly whether it
-- changes
pub record IsStep (things : List Thing) (change : RowChange Thing) (step : ThingStep) : Type 0 where
  pub makes : MakesStep things change step
  pub sound : IfOk step (λ after. IsSoundThings after.things)
  pub told : IfOk step (TellsChange things)

few_leases : (thing : Thing) → IsKeptThing thing → HasFewLeases thing
few_leases thing kept = kept.fits.leases.few

module _ (things : List Thing) (sound : IsSoundThings things) (change : RowChange Thing) where
  -- the items of the Things that are put in can be written
  fit_after : (after : ThingsAfter) (plan : Plan) → IsSoundThings after.things → Makes things change after.things → Says after change plan → AllByRecursion HasFewLeases plan.rows.sets
  fit_after after plan sound' makes says =
      all_weaker IsKeptThing HasFewLeases plan.rows.sets few_leases
      (subst (λ (rows : RowChange Thing). AllByRecursion IsKeptThing rows.sets) (sym says.change) (sets_kept things sound change after.things sound' makes))

  pub sets_fit : (step : ThingStep) (plan : Plan) → IsStep things change step → IsOkAnd step (λ after. Says after change plan) → AllByRecursion HasFewLeases plan.rows.sets
  sets_fit (Ok after) plan is says = fit_after after plan is.sound is.makes says
  sets_fit (Err fault) plan is says = absurd says

  planned_after : (after : ThingsAfter) (plan : Plan) (room : ℕ) → IsSoundThings after.things → Makes things change after.things → TellsChange things after → Says after change plan → length plan.rows.sets ≤ room
      → IsPlanned after (record { things = things; room = room }) (change_of things plan)
  unfolding change_of
  planned_after after plan room sound' makes told says enough =
      let rows_is : plan.rows ≡ change = says.change in
      record {
        word = says.word;
        until = says.until;
        leads = ap (λ (rows : RowChange Thing). changed mac_of rows things) rows_is ∙ makes.leads;
        sound = sound';
        puts = subst (λ (rows : RowChange Thing). IsDifference (thing_items things) (thing_items after.things) (puts_of 1 thing_item rows)) (sym rows_is) (differ things sound change after.things sound' makes);
        kind = puts_of_kind mac_of 1 thing_item are_things plan.rows;
        few = subst (λ (rows : RowChange Thing). length (puts_of 1 thing_item rows) ≤ 2) (sym rows_is) (few_puts things sound change after.things sound' makes);
        none = (
          λ e. false_from_ne_true after.changes (λ other. told.other other (no_puts things sound change after.things sound' makes (sym (ap (puts_of 1 thing_item) rows_is) ∙ e))),
          λ e. ap (puts_of 1 thing_item) rows_is ∙ first_changes things sound change after.things sound' makes (told.same e) (puts_of 1 thing_item change) (differ things sound change after.things sound' makes),
        );
        bindings = λ tables e.
            subst (λ (rows : RowChange Thing). IsBindingChange (bindings_of tables) (bindings_of (record tables { things = after.things })) (gone_of mac_of thing_bindings rows things) (come_of mac_of thing_bindings rows things)) (sym rows_is)
            (bind things sound change after.things sound' makes tables e);
        room = enough;
      }

  pub planned : (step : ThingStep) (plan : Plan) (room : ℕ) → IsStep things change step → IsOkAnd step (λ after. Says after change plan) → length plan.rows.sets ≤ room
      → IsOkAnd step (λ after. IsPlanned after (record { things = things; room = room }) (change_of things plan))
  planned (Ok after) plan room is says enough = planned_after after plan room is.sound is.makes is.told says enough
  planned (Err fault) plan room is says enough = absurd says

-- ---- What a call that plans answers

-- what is planned can be committed
ready : (step : ThingStep) (book : Things) (change : PlannedThings) → IsPlanOf step book change → IsReady book change
ready (Ok after) book change planned = record { enough = planned.room; sound = subst IsSoundThings (sym planned.leads) planned.sound }
ready (Err fault) book change planned = absurd planned

-- the book as contracts see it
abbrev book_of : RowsAndRoom Thing → Things
book_of book = record { things = book.rows; room = book.room }

module _ (step : List Thing → ThingStep) (change : List Thing → RowChange Thing) (is : (things : List Thing) → IsSoundThings things → IsStep things (change things) (step things)) where
  answer : (things : List Thing) (room : ℕ) (plan : Plan) (planned' : PlannedThings) → IsSoundThings things → IsOkAnd (step things) (λ after. Says after (change things) plan) → planned' ≡ change_of things plan → length plan.rows.sets ≤ room
      → IsPlanOf (step things) (record { things = things; room = room }) planned'
  answer things room plan planned' sound says e enough =
      subst (λ p. IsPlanOf (step things) (record { things = things; room = room }) p) (sym e)
      (planned things sound (change things) (step things) plan room (is things sound) says enough)

  pub fit : (things : List Thing) (plan : Plan) → IsSoundThings things → IsOkAnd (step things) (λ after. Says after (change things) plan) → AllByRecursion HasFewLeases plan.rows.sets
  fit things plan sound says = sets_fit things sound (change things) (step things) plan (is things sound) says

  moved_on : (old : List Thing) (before book : RowsAndRoom Thing) (made result : PlannedThings) → before.rows ≡ old → book.rows ≡ before.rows → made ≡ result
      → IsPlanOf (step before.rows) (record { things = before.rows; room = book.room }) made → IsPlanOf (step old) (book_of book) result
  moved_on old before book made result e same is' holds =
      subst (λ ts. IsPlanOf (step ts) (book_of book) result) e
      (subst (λ ts. IsPlanOf (step before.rows) (record { things = ts; room = book.room }) result) (sym same)
      (subst (λ p. IsPlanOf (step before.rows) (record { things = before.rows; room = book.room }) p) is' holds))

  pub plans : {E : Type 0} (before : Things) (rows book : RowsAndRoom Thing) (plan : Plan) (made : Result PlannedThings E) (result : Result PlannedThings ThingFault)
      → book_of rows ≡ before → IsSoundThings rows.rows → IsOkAnd (step rows.rows) (λ after. Says after (change rows.rows) plan)
      → book.rows ≡ rows.rows → IfOk made (λ planned. planned ≡ change_of rows.rows plan) → OnOk made (length plan.rows.sets ≤ book.room)
      → IfOk result (λ planned. made ≡ Ok planned) → IfErr result (λ fault. fault ≡ Memory) → Plans (step before.things) before (book_of book) result
  plans before rows book plan (Ok made) (Ok result) view sound says same is' enough re memory =
      let old = ap (λ (b : Things). b.things) view in
      let ok : IsPlanOf (step before.things) (book_of book) result = moved_on before.things rows book made result old same (cc) (answer rows.rows book.room plan made sound says is' enough) in
      record { same = same ∙ old; ok = ok; ready = ready (step before.things) (book_of book) result ok; err = tt }
  plans before rows book plan (Err fault) (Ok result) view sound says same is' enough re memory = absurd cc
  plans before rows book plan made (Err fault) view sound says same is' enough re memory =
      record { same = same ∙ ap (λ (b : Things). b.things) view; ok = tt; ready = tt; err = λ other. absurd (other memory) }

-- ---- Each step

if_after : (P : List Thing → Type 0) (step : ThingStep) → OfAfter P step → IfOk step (λ after. P after.things)
if_after P (Ok after) holds = holds
if_after P (Err fault) holds = tt

module _ (things : List Thing) (sound : IsSoundThings things) where
  pub hold_is : (mac : Mac) → IsStep things (hold_change mac things) (hold_step mac things)
  hold_is mac = record {
    makes = hold_step_makes things sound.ascend mac;
    sound = if_after IsSoundThings (hold_step mac things) (sound-hold_step things sound mac);
    told = told-hold_step things sound.ascend mac;
  }

  pub release_is : (mac : Mac) → IsStep things (release_change mac things) (release_step mac things)
  release_is mac = record {
    makes = release_step_makes things sound.ascend mac;
    sound = if_after IsSoundThings (release_step mac things) (sound-release_step things sound mac);
    told = told-release_step things sound.ascend mac;
  }

  pub url_is : (mac : Mac) (url : List ℕ) → length mac.0 ≡ 6 → IsTrue (is_canonical url) → IsStep things (url_change mac url things) (url_step mac url things)
  url_is mac url six canonical = record {
    makes = url_step_makes things sound.ascend mac url;
    sound = if_after IsSoundThings (url_step mac url things) (sound-url_step things sound mac url six canonical);
    told = told-url_step things sound.ascend mac url;
  }

  pub move_is : (mac : Mac) (url : List ℕ) → IsStep things (move_change mac url things) (move_step mac url things)
  move_is mac url = record {
    makes = move_step_makes things sound.ascend mac url;
    sound = if_after IsSoundThings (move_step mac url things) (sound-move_step things sound mac url);
    told = told-move_step things sound.ascend mac url;
  }

  pub remove_is : (mac : Mac) → IsStep things (remove_change mac) (remove_step mac things)
  remove_is mac = record {
    makes = remove_step_makes things sound.ascend mac;
    sound = if_after IsSoundThings (remove_step mac things) (sound-remove_step things sound mac);
    told = told-remove_step things sound.ascend mac;
  }

  pub lease_is : (mac : Mac) (a : Addr) (seconds now : ℕ) (heard : Bool) → IsAddr a → now ≤ 253402300799 → seconds < 2 ^ 32 → IsStep things (lease_change mac a seconds now things) (lease_step mac a seconds now heard things)
  lease_is mac a seconds now heard fits early short = record {
    makes = lease_step_makes things sound a mac seconds now heard;
    sound = if_after IsSoundThings (lease_step mac a seconds now heard things) (sound-lease_step things sound mac a seconds now heard fits early short);
    told = told-lease_step things sound.ascend mac a seconds now heard;
  }

  pub end_is : (a : Addr) → IsStep things (end_change a things) (end_step a things)
  end_is a = record {
    makes = end_step_makes things sound a;
    sound = if_after IsSoundThings (end_step a things) (sound-end_step things sound a);
    told = told-end_step things sound.ascend a;
  }
