-- What stands one behind the other in octets.
use Rattle.std.specs.Prelude.{ℕ, List, [], ◌∷◌, Option, Some, None}

-- the whole ones up to the end, and the offset of the one that is cut there
pub record Listing (A : Type 0) : Type 0 where
  pub whole : List A
  pub cut : Option ℕ

abbrev pub no_more : {A : Type 0} → Listing A
no_more = record { whole = []; cut = None }

abbrev pub cut_at : {A : Type 0} → ℕ → Listing A
cut_at offset = record { whole = []; cut = Some offset }

abbrev pub with_first : {A : Type 0} → A → Listing A → Listing A
with_first first later = record { whole = first ∷ later.whole; cut = later.cut }
