-- What the rows of two lists have in common, told by the rows at their sort keys.
use Rattle.std.proofs.Common.{◌≡◌, ℕ, get_or, take, ◌+◌, ◌<◌, Bool, true, false, cond, ◌&&◌, List, [], ◌∷◌, ◌++◌, length, map, Option, Some, refl, sym, ap, subst, ◌∙◌, arith}
use Rattle.std.specs.Ordering.{is_lt}
use Rattle.std.specs.declared.cmp.Ordering.TheVariants.{Less}
use Rattle.std.specs.List.{AllByRecursion}
use Rattle.std.specs.Option.{option_map}
use Rattle.std.proofs.lemmas.List.{take_more}
use Rattle.std.proofs.lemmas.Option.{same_Some, none-some}
use Rattle.base_rows.specs.Sortable.{sort_key_cmp, same_sort_key, SortKeysAbove, SortKeysAscend, row_at, comes_last}
pub use Rattle.base_rows.proofs.ListTests.{left_of, right_of, both, not_true, is_not, any_first, any_later, any_by, any_more}
pub use Rattle.acl_model.proofs.BindingLaws.{same_addr_exact, same_addr_itself}

-- ---- Tests

pub first_of_three : (b c d : Bool) → (b && c && d) ≡ true → b ≡ true
first_of_three true true true e = e
first_of_three true true false e = refl
first_of_three true false d e = refl
first_of_three false c d e = e

-- ---- The row at a sort key

module _ {R : Type 0} (sort_key : R → List ℕ) where
  -- what holds of each row holds of the one at a sort key
  pub all_at : (P : R → Type 0) (rows : List R) (p : List ℕ) (x : R) → AllByRecursion P rows → row_at sort_key p rows ≡ Some x → P x
  all_at P [] p x all found = absurd (none-some x found)
  all_at P (y ∷ ys) p x all found = by_first (same_sort_key (sort_key y) p) found (all_at P ys p x all.1)
    where
      by_first : (b : Bool) → cond b (Some y) (row_at sort_key p ys) ≡ Some x → (row_at sort_key p ys ≡ Some x → P x) → P x
      by_first true e rest = subst P (same_Some y x e) all.0
      by_first false e rest = rest e

  -- the row at a sort key of rows that are each changed, and keep their sort keys
  mapped_at : (f : R → R) (p : List ℕ) (x : R) (o : Option R) → (b : Bool) → cond b (Some (f x)) (option_map f o) ≡ option_map f (cond b (Some x) o)
  mapped_at f p x o true = refl
  mapped_at f p x o false = refl

  pub row_at-map : (f : R → R) → ((x : R) → sort_key (f x) ≡ sort_key x) → (p : List ℕ) (rows : List R) → row_at sort_key p (map f rows) ≡ option_map f (row_at sort_key p rows)
  row_at-map f kept p [] = refl
  row_at-map f kept p (x ∷ xs) =
      ap (λ q. cond (same_sort_key q p) (Some (f x)) (row_at sort_key p (map f xs))) (kept x)
      ∙ ap (cond (same_sort_key (sort_key x) p) (Some (f x))) (row_at-map f kept p xs)
      ∙ mapped_at f p x (row_at sort_key p xs) (same_sort_key (sort_key x) p)

-- ---- Rows behind others

pub all_behind : {A : Type 0} (P : A → Type 0) (xs : List A) (x : A) (ys : List A) → AllByRecursion P (xs ++ x ∷ ys) → P x
all_behind P [] x ys all = all.0
all_behind P (y ∷ xs) x ys all = all_behind P xs x ys all.1

pub take_one : {A : Type 0} (xs : List A) (i : ℕ) (x : A) → i < length xs → x ≡ get_or xs i x → take (i + 1) xs ≡ take i xs ++ x ∷ []
take_one xs i x within is = take_more xs i x within ∙ ap (λ y. take i xs ++ y ∷ []) (sym is)

pub map_push : {A B : Type 0} (f : A → B) (xs : List A) (x : A) → map f (xs ++ x ∷ []) ≡ map f xs ++ f x ∷ []
map_push f [] x = refl
map_push f (y ∷ ys) x = ap (λ t. f y ∷ t) (map_push f ys x)

pub fewer_before : {A : Type 0} (xs : List A) (x : A) (ys : List A) → length xs < length (xs ++ x ∷ ys)
fewer_before [] x ys = omega arith
fewer_before (y ∷ xs) x ys = omega (arith, fewer_before xs x ys)

module _ {R : Type 0} (sort_key : R → List ℕ) where
  before_row : (x : R) (xs : List R) (t : R) (ys : List R) → SortKeysAbove sort_key (sort_key x) (xs ++ t ∷ ys) → sort_key_cmp (sort_key x) (sort_key t) ≡ Less
  before_row x [] t ys above = above.0
  before_row x (y ∷ xs) t ys above = before_row x xs t ys above.1

  -- a row of ascending rows comes behind those before it
  pub behind_others : (xs : List R) (t : R) (ys : List R) → SortKeysAscend sort_key (xs ++ t ∷ ys) → comes_last sort_key t xs ≡ true
  behind_others [] t ys up = refl
  behind_others (x ∷ xs) t ys up = both (is_lt (sort_key_cmp (sort_key x) (sort_key t))) (comes_last sort_key t xs) (ap is_lt (before_row x xs t ys up.0)) (behind_others xs t ys up.1)
