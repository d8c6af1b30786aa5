-- A canonical URL has at most 256 octets.
use Rattle.std.proofs.Common.{◌≡◌, ℕ, ◌≤◌, ◌<◌, ◌^◌, Bool, true, false, ◌&&◌, List, [], ◌∷◌, length, Option, Ok, refl, arith, inl, inr}
use Rattle.std.specs.Prelude.{nat_lt, ◌==◌, bytes_eq}
use Rattle.std.proofs.lemmas.Bool.{false≢true, eqb-true, ltb-false, or_cases}
use Rattle.mud_base.specs.Faults.{row, unless}
use Rattle.mud_url.specs.declared.fault.UrlFault.{UrlFault}
use Rattle.mud_url.specs.declared.fault.UrlFault.TheVariants.{Empty, Long}
use Rattle.mud_url.specs.Url.{url_of, reads_as, is_canonical}
use Rattle.table_model.proofs.RowSets.{left_of}
use Rattle.mud_url.proofs.Pieces.{without_slash, path_part, gave}

-- what is too long isn't read
long_refused : (b c : Bool) (others : List (Option UrlFault)) (read text : List ℕ) → gave (unless (row b Empty ∷ row c Long ∷ others) (Ok read)) text ≡ true → c ≡ false
long_refused true c others read text e = absurd (false≢true e)
long_refused false true others read text e = absurd (false≢true e)
long_refused false false others read text e = refl

read_short : (text : List ℕ) → reads_as text text ≡ true → length text ≤ 255
unfolding reads_as url_of
read_short text e = ltb-false 255 (length text) (long_refused (length text == 0) (nat_lt 255 (length text)) _ _ text e)

pub canonical_fits : (text : List ℕ) → is_canonical text ≡ true → length text < 2 ^ 32
unfolding is_canonical
canonical_fits text e =
    elim (or_cases (reads_as text text) (length text == 256 && bytes_eq (path_part text) (47 ∷ []) && reads_as (without_slash text) text) e) [
      | inl itself ↦ omega (arith, read_short text itself)
      | inr slash ↦ omega (arith, eqb-true (length text) 256 (left_of (length text == 256) (bytes_eq (path_part text) (47 ∷ [])) (left_of (length text == 256 && bytes_eq (path_part text) (47 ∷ [])) (reads_as (without_slash text) text) slash)))
    ]
