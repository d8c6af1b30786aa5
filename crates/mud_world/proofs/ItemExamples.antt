-- Two puts about one sort key are no difference, though they lead from the items before to those after.
use Rattle.std.proofs.Common.{◌≡◌, [], ◌∷◌, refl}
use Rattle.std.proofs.lemmas.Bool.{false≢true}
use Rattle.mud_world.specs.declared.item.Item.{Item}
use Rattle.mud_world.specs.declared.item.Put.TheVariants.{Set}
use Rattle.mud_world.specs.Items.{put_all, IsDifference}

old : Item
old = record { kind = 1; key = 7 ∷ []; body = [] }

new : Item
new = record { kind = 1; key = 7 ∷ []; body = 3 ∷ [] }

they_lead : put_all [] (Set old ∷ (Set new ∷ [])) ≡ new ∷ []
unfolding old new
they_lead = refl

no_difference : IsDifference [] (new ∷ []) (Set old ∷ (Set new ∷ [])) → ⊥
unfolding old new
no_difference difference = false≢true difference.apart
