-- What a lookup of an index in a slice lends.
use Rattle.std.proofs.Common.{◌≡◌, ℕ, List, length, slice_get, Option, Some, None, sym, refl}
use denote.Ref.{Bor}
use Rattle.std.specs.Option.{option_copied}
use Rattle.std.specs.Slice.{IsGetResult}
use Rattle.std.proofs.lemmas.Option.{slice_get_past, slice_get_read}

pub lent : {R : Type 0} (rows : List R) (i : ℕ) (r : Option (Bor R)) → IsGetResult rows i i r → option_copied r ≡ slice_get rows i
lent rows i None h = sym (slice_get_past rows i h.3)
lent rows i (Some x) h = sym (slice_get_read rows (length rows) i x.now refl h.3.0 h.1)
