-- The reading of one named object of a list after the other.
use Rattle.std.proofs.Common.{◌≡◌, List, Ok, Err, map, ℕ, ◌+◌, ◌<◌, ◌≤◌, length, get_or, drop}
use Rattle.usage_walk.specs.declared.fault.Broken.{Broken}
use Rattle.usage_walk.specs.declared.named.Element.{Element}
use Rattle.usage_walk.specs.Named as named
use Rattle.usage_walk.specs.Elements.{element_view}
use Rattle.mud_base.specs.Readings.{answer, over}
use Rattle.usage_walk.specs.Reading.{Reading}
use Rattle.mud_base.proofs.Readings as readings

pub over_taken : {A : Type 0} (read : A → named.Element → Reading A) (so_far next : A) (elements : List Element) (i : ℕ) (e : Element) → i < length elements → e ≡ get_or elements i e → answer (read so_far (element_view e)) ≡ Ok next → answer (over read so_far (map element_view (drop i elements))) ≡ answer (over read next (map element_view (drop (i + 1) elements)))
over_taken read so_far next elements i e within is taken = readings.over_taken element_view read so_far next elements i e within is taken

pub over_refused : {A : Type 0} (read : A → named.Element → Reading A) (so_far : A) (fault : Broken) (elements : List Element) (i : ℕ) (e : Element) → i < length elements → e ≡ get_or elements i e → answer (read so_far (element_view e)) ≡ Err fault → answer (over read so_far (map element_view (drop i elements))) ≡ Err fault
over_refused read so_far fault elements i e within is refused = readings.over_refused element_view read so_far fault elements i e within is refused

pub over_past : {A : Type 0} (read : A → named.Element → Reading A) (so_far : A) (elements : List Element) (i : ℕ) → length elements ≤ i → answer (over read so_far (map element_view (drop i elements))) ≡ Ok so_far
over_past read so_far elements i past = readings.over_past element_view read so_far elements i past
