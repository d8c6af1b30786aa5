-- Things that are read of items, one behind the other.
use Rattle.std.proofs.Common.{◌≡◌, Bool, true, false, cond, List, [], ◌∷◌, ◌++◌, Option, Some, None, Result, Ok, Err, IsTrue, sym, ap, subst, ◌∙◌}
use Rattle.std.specs.Prelude.{IfOk, IfSome, OnErr}
use Rattle.std.proofs.lemmas.Bool.{false≢true}
use Rattle.mud_world.specs.declared.item.Item.{Item}
use Rattle.mud_base.specs.Numbers.{IsOctets}
use Rattle.item_codec.specs.Records.{◌>>=◌}
use Rattle.table_model.specs.declared.thing.Thing.{Thing}
use Rattle.table_model.specs.Things.{IsKeptThing, IsSoundThings}
use Rattle.table_model.specs.ThingItems.{thing_in, may_follow, with_thing_item}
use Rattle.table_model.proofs.ItemLaws.{thing_alone}
use Rattle.table_model.proofs.ReadThings.{sound-push}

-- a Thing that is read can be kept
pub kept_read : {E : Type 0} (item : Item) (result : Result (Option Thing) E) → IsOctets item.body → IfOk result (λ thing. thing ≡ thing_in item) → IfOk result (λ thing. IfSome thing IsKeptThing)
kept_read item (Ok (Some thing)) octets e = (thing_alone item thing octets (sym e)).kept
kept_read item (Ok None) octets e = tt
kept_read item (Err fault) octets e = tt

-- the item is none of a Thing
pub none_taken : (things : List Thing) (item : Item) → None ≡ thing_in item → with_thing_item things item ≡ None
unfolding with_thing_item
none_taken things item e = ap (λ o. o >>= λ thing. cond (may_follow things thing) (Some (things ++ thing ∷ [])) None) (sym e)

one_taken : (things : List Thing) (item : Item) (thing : Thing) (b : Bool) → Some thing ≡ thing_in item → b ≡ may_follow things thing → with_thing_item things item ≡ cond b (Some (things ++ thing ∷ [])) None
unfolding with_thing_item
one_taken things item thing b e f =
    ap (λ o. o >>= λ t. cond (may_follow things t) (Some (things ++ t ∷ [])) None) (sym e)
    ∙ ap (λ may. cond may (Some (things ++ thing ∷ [])) None) (sym f)

-- what was told of a Thing that was to follow these
module _ {E : Type 0} (things new : List Thing) (thing : Thing) (result : Result Bool E) where
  pub sound_behind : IsSoundThings things → IsKeptThing thing → IfOk result (λ taken. taken ≡ may_follow things thing) → IfOk result (λ taken. new ≡ cond taken (things ++ thing ∷ []) things) → OnErr result (new ≡ things) → IsSoundThings new
  sound_behind sound kept may rows err = by_result result may rows err
    where
      by_result : (r : Result Bool E) → IfOk r (λ taken. taken ≡ may_follow things thing) → IfOk r (λ taken. new ≡ cond taken (things ++ thing ∷ []) things) → OnErr r (new ≡ things) → IsSoundThings new
      by_result (Ok true) may rows err = subst IsSoundThings (sym rows) (sound-push things thing sound kept (sym may))
      by_result (Ok false) may rows err = subst IsSoundThings (sym rows) sound
      by_result (Err fault) may rows err = subst IsSoundThings (sym err) sound

  pub says_taken : (old : List Thing) (item : Item) → things ≡ old → Some thing ≡ thing_in item → IfOk result (λ taken. taken ≡ may_follow things thing) → IfOk result (λ taken. new ≡ cond taken (things ++ thing ∷ []) things)
      → IfOk result (λ taken. IsTrue taken → with_thing_item old item ≡ Some new)
  says_taken old item e read may rows = by_result result may rows
    where
      by_result : (r : Result Bool E) → IfOk r (λ taken. taken ≡ may_follow things thing) → IfOk r (λ taken. new ≡ cond taken (things ++ thing ∷ []) things) → IfOk r (λ taken. IsTrue taken → with_thing_item old item ≡ Some new)
      by_result (Ok true) may rows = λ _. ap (λ ts. with_thing_item ts item) (sym e) ∙ one_taken things item thing true read may ∙ ap Some (sym rows)
      by_result (Ok false) may rows = λ f. absurd (false≢true f)
      by_result (Err fault) may rows = tt

  pub says_refused : (old : List Thing) (item : Item) → things ≡ old → Some thing ≡ thing_in item → IfOk result (λ taken. taken ≡ may_follow things thing)
      → IfOk result (λ taken. taken ≡ false → with_thing_item old item ≡ None)
  says_refused old item e read may = by_result result may
    where
      by_result : (r : Result Bool E) → IfOk r (λ taken. taken ≡ may_follow things thing) → IfOk r (λ taken. taken ≡ false → with_thing_item old item ≡ None)
      by_result (Ok true) may = λ f. absurd (false≢true (sym f))
      by_result (Ok false) may = λ _. ap (λ ts. with_thing_item ts item) (sym e) ∙ one_taken things item thing false read may
      by_result (Err fault) may = tt
