-- Parts of definitions that lemmas speak of.
use Rattle.std.specs.Prelude.{ℕ, Bool, List}
use Rattle.std.specs.Ordering.{is_lt}
use Rattle.base_rows.specs.Sortable.{sort_key_cmp}

abbrev pub is_before : {R : Type 0} → (R → List ℕ) → List ℕ → R → Bool
is_before sort_key p x = is_lt (sort_key_cmp p (sort_key x))
