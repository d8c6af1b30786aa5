-- What puts make of items, by sort key and by kind, and the puts of a change of rows.
use Rattle.std.proofs.Common.{◌≡◌, ℕ, suc, ◌<◌, ◌≤◌, Bool, true, false, cond, not, ◌&&◌, ◌||◌, List, [], ◌∷◌, ◌++◌, map, length, Option, Some, None, IsTrue, refl, sym, ap, subst, ◌∙◌, arith}
use Rattle.std.specs.Prelude.{All, IfSome, ◌==◌}
use Rattle.std.specs.List.{list_any, AllByRecursion}
use Rattle.std.specs.Option.{option_map}
use Rattle.std.specs.Ordering.{is_eq, nat_cmp, ordering_then}
use Rattle.std.specs.declared.cmp.Ordering.{Ordering}
use Rattle.std.specs.declared.cmp.Ordering.TheVariants.{Less, Equal, Greater}
use Rattle.std.proofs.lemmas.Bool.{false≢true, lt-ltb, not-true}
use Rattle.std.proofs.lemmas.Cmp.{nat_cmp_total, tied_itself}
use Rattle.std.proofs.lemmas.Option.{same_Some, none-some}
use Rattle.std.proofs.lemmas.List.{length-map}
use Rattle.std.proofs.lemmas.List.Elements.{All-from_recursion}
use Rattle.base_rows.specs.Sortable.{sort_key_cmp, same_sort_key, row_at, set_row, set_rows, without_row, SortKeysAbove, SortKeysBelow, SortKeysAscend, ComeBefore}
use Rattle.base_rows.specs.Changes.{RowChange, IsNeededChange, changed, without_gone, with_found, sort_keys_of, is_plain}
use Rattle.base_rows.specs.Changes as changes
use Rattle.base_rows.proofs.SortableLaws.{same_sort_key-cmp, same_sort_key_exact, same_sort_key_itself, row_at-set_row, row_at-without_row, ascend-set_row, ascend-without_row}
use Rattle.base_rows.proofs.RowLaws.{set_row_there, without_row_absent, map-set_row, map-without_row, ascend-map}
use Rattle.base_rows.proofs.RowSets.{row_at-map}
use Rattle.base_rows.proofs.ListTests.{left_of, right_of, apart-map}
use Rattle.base_rows.proofs.IndexLaws.{set_row-behind, set_row-before, without_row-behind, without_row-before, ascend-append}
use Rattle.base_rows.proofs.ChangeLaws.{differ_turned}
use Rattle.mud_world.specs.declared.item.Item.{Item}
use Rattle.mud_world.specs.declared.item.Put.{Put}
use Rattle.mud_world.specs.declared.item.Put.TheVariants.{Set, Gone}
use Rattle.mud_world.specs.Items.{sort_key_of, put_one, put_all, sort_key_of_put, is_apart, are_apart, IsOrdered, IsDifference, item_after, kind_of_put, ArePutsOf, AreOfLowerKinds, AreOfHigherKinds, AreItemsOf, set_put, gone_put, puts_of}

-- ---- Tests of sort keys

is_other : (p q : List ℕ) → not (is_eq (sort_key_cmp p q)) ≡ not (same_sort_key p q)
is_other p q = ap not (sym (same_sort_key-cmp p q (sort_key_cmp p q) refl))

-- ---- One put

-- the sort key of a put has what the put says, and each other sort key what it had
pub row_at-put_one : (items : List Item) (put : Put) (p : List ℕ) → IsOrdered items → row_at sort_key_of p (put_one items put) ≡ cond (same_sort_key (sort_key_of_put put) p) (item_after put) (row_at sort_key_of p items)
row_at-put_one items (Set item) p up = row_at-set_row sort_key_of item items p
row_at-put_one items (Gone kind key) p up = row_at-without_row sort_key_of (kind ∷ key) items p up

pub ordered-put_one : (items : List Item) (put : Put) → IsOrdered items → IsOrdered (put_one items put)
ordered-put_one items (Set item) up = ascend-set_row sort_key_of item items up
ordered-put_one items (Gone kind key) up = ascend-without_row sort_key_of (kind ∷ key) items up

pub ordered-put_all : (puts : List Put) (items : List Item) → IsOrdered items → IsOrdered (put_all items puts)
ordered-put_all [] items up = up
ordered-put_all (x ∷ xs) items up = ordered-put_all xs (put_one items x) (ordered-put_one items x up)

row_at-put_here : (items : List Item) (put : Put) → IsOrdered items → row_at sort_key_of (sort_key_of_put put) (put_one items put) ≡ item_after put
row_at-put_here items put up = row_at-put_one items put (sort_key_of_put put) up ∙ ap (λ b. cond b (item_after put) (row_at sort_key_of (sort_key_of_put put) items)) (same_sort_key_itself (sort_key_of_put put))

row_at-put_other : (items : List Item) (put : Put) (p : List ℕ) → IsOrdered items → same_sort_key p (sort_key_of_put put) ≡ false → row_at sort_key_of p (put_one items put) ≡ row_at sort_key_of p items
row_at-put_other items put p up other = row_at-put_one items put p up ∙ ap (λ b. cond b (item_after put) (row_at sort_key_of p items)) (differ_turned p (sort_key_of_put put) other)

-- a put changes nothing just where its sort key has what it says
pub put_same : (items : List Item) (put : Put) → IsOrdered items → row_at sort_key_of (sort_key_of_put put) items ≡ item_after put → put_one items put ≡ items
put_same items (Set item) up there = set_row_there sort_key_of item items up there
put_same items (Gone kind key) up there = without_row_absent sort_key_of (kind ∷ key) items up there

pub same_put : (items : List Item) (put : Put) → IsOrdered items → put_one items put ≡ items → row_at sort_key_of (sort_key_of_put put) items ≡ item_after put
same_put items put up same = sym (ap (row_at sort_key_of (sort_key_of_put put)) same) ∙ row_at-put_here items put up

-- ---- Puts about other sort keys

pub row_at-put_all_apart : (puts : List Put) (items : List Item) (p : List ℕ) → IsOrdered items → is_apart p puts ≡ true → row_at sort_key_of p (put_all items puts) ≡ row_at sort_key_of p items
row_at-put_all_apart [] items p up apart = refl
row_at-put_all_apart (x ∷ xs) items p up apart =
    let other : not (same_sort_key p (sort_key_of_put x)) ≡ true = sym (is_other p (sort_key_of_put x)) ∙ left_of (not (is_eq (sort_key_cmp p (sort_key_of_put x)))) (is_apart p xs) apart in
    row_at-put_all_apart xs (put_one items x) p (ordered-put_one items x up) (right_of (not (is_eq (sort_key_cmp p (sort_key_of_put x)))) (is_apart p xs) apart)
    ∙ row_at-put_other items x p up (not-true (same_sort_key p (sort_key_of_put x)) other)

-- each of puts about sort keys of their own leaves what it says
pub said-put_all : (puts : List Put) (items : List Item) → IsOrdered items → are_apart puts ≡ true → AllByRecursion (λ put. row_at sort_key_of (sort_key_of_put put) (put_all items puts) ≡ item_after put) puts
said-put_all [] items up apart = tt
said-put_all (x ∷ xs) items up apart = (
  row_at-put_all_apart xs (put_one items x) (sort_key_of_put x) (ordered-put_one items x up) (left_of (is_apart (sort_key_of_put x) xs) (are_apart xs) apart) ∙ row_at-put_here items x up,
  said-put_all xs (put_one items x) (ordered-put_one items x up) (right_of (is_apart (sort_key_of_put x) xs) (are_apart xs) apart),
)

abbrev IsNeeded : List Item → Put → Type 0
IsNeeded before put = put_one before put ≡ before → ⊥

touched_from : (before : List Item) → IsOrdered before → (puts : List Put) (items : List Item) (p : List ℕ) → IsOrdered items → row_at sort_key_of p items ≡ row_at sort_key_of p before → All (IsNeeded before) puts → are_apart puts ≡ true → is_apart p puts ≡ false → row_at sort_key_of p (put_all items puts) ≡ row_at sort_key_of p before → ⊥
touched_from before up [] items p up' same needed apart about stays = false≢true (sym about)
touched_from before up (x ∷ xs) items p up' same needed apart about stays = by_test (is_eq (sort_key_cmp p (sort_key_of_put x))) refl
    (touched_from before up xs (put_one items x) p (ordered-put_one items x up'))
  where
    by_test : (b : Bool) → is_eq (sort_key_cmp p (sort_key_of_put x)) ≡ b
        → (row_at sort_key_of p (put_one items x) ≡ row_at sort_key_of p before → All (IsNeeded before) xs → are_apart xs ≡ true → is_apart p xs ≡ false → row_at sort_key_of p (put_all (put_one items x) xs) ≡ row_at sort_key_of p before → ⊥) → ⊥
    by_test true is rest =
        let at : p ≡ sort_key_of_put x = same_sort_key_exact p (sort_key_of_put x) (same_sort_key-cmp p (sort_key_of_put x) (sort_key_cmp p (sort_key_of_put x)) refl ∙ is) in
        let there : row_at sort_key_of (sort_key_of_put x) before ≡ item_after x =
        ap (λ q. row_at sort_key_of q before) (sym at) ∙ sym stays ∙ ap (λ q. row_at sort_key_of q (put_all (put_one items x) xs)) at
        ∙ (said-put_all (x ∷ xs) items up' apart).0 in
        needed 0 x (omega arith) (put_same before x up there)
    by_test false is rest = rest
        (row_at-put_other items x p up' (same_sort_key-cmp p (sort_key_of_put x) (sort_key_cmp p (sort_key_of_put x)) refl ∙ is) ∙ same)
        (λ k d lt. needed (suc k) d (omega arith))
        (right_of (is_apart (sort_key_of_put x) xs) (are_apart xs) apart)
        (sym (ap (λ b. not b && is_apart p xs) is) ∙ about)
        stays

-- ---- A difference

pub untouched : (before after : List Item) (puts : List Put) (p : List ℕ) → IsOrdered before → IsDifference before after puts → IsTrue (is_apart p puts) → row_at sort_key_of p after ≡ row_at sort_key_of p before
untouched before after puts p up difference apart = ap (row_at sort_key_of p) (sym difference.reaches) ∙ row_at-put_all_apart puts before p up apart

pub touched : (before after : List Item) (puts : List Put) (p : List ℕ) → IsOrdered before → IsDifference before after puts → is_apart p puts ≡ false → row_at sort_key_of p after ≡ row_at sort_key_of p before → ⊥
touched before after puts p up difference about stays = touched_from before up puts before p up refl difference.needed difference.apart about (ap (row_at sort_key_of p) difference.reaches ∙ stays)

pub said : (before after : List Item) (puts : List Put) → IsOrdered before → IsDifference before after puts → AllByRecursion (λ put. row_at sort_key_of (sort_key_of_put put) after ≡ item_after put) puts
said before after puts up difference = subst (λ items. AllByRecursion (λ put. row_at sort_key_of (sort_key_of_put put) items ≡ item_after put) puts) difference.reaches (said-put_all puts before up difference.apart)

-- ---- Kinds

kind_itself : (k : ℕ) (o : Ordering) → ordering_then (nat_cmp k k) o ≡ o
kind_itself k o = ap (λ t. ordering_then t o) (tied_itself nat_cmp_total k)

less_kind : (k n : ℕ) → k < n → (o : Ordering) → ordering_then (nat_cmp k n) o ≡ Less
less_kind k n less o = ap (λ b. ordering_then (cond b Less (cond (k == n) Equal Greater)) o) (lt-ltb k n less)

higher_above : (k : ℕ) (key : List ℕ) (items : List Item) → AreOfHigherKinds k items → SortKeysAbove sort_key_of (k ∷ key) items
higher_above k key [] above = tt
higher_above k key (x ∷ xs) above = (less_kind k x.kind above.0 (sort_key_cmp key x.key), higher_above k key xs above.1)

lower_below : (k : ℕ) (key : List ℕ) (items : List Item) → AreOfLowerKinds k items → SortKeysBelow sort_key_of (k ∷ key) items
lower_below k key [] below = tt
lower_below k key (x ∷ xs) below = (less_kind x.kind k below.0 (sort_key_cmp x.key key), lower_below k key xs below.1)

put_among : (put : Put) (low own high : List Item) → AreOfLowerKinds (kind_of_put put) low → AreOfHigherKinds (kind_of_put put) high → put_one (low ++ own ++ high) put ≡ low ++ put_one own put ++ high
put_among (Set item) low own high below above = set_row-before sort_key_of item (low ++ own) high (higher_above item.kind item.key high above) ∙ ap (λ xs. xs ++ high) (set_row-behind sort_key_of item low own (lower_below item.kind item.key low below))
put_among (Gone kind key) low own high below above = without_row-before sort_key_of (kind ∷ key) (low ++ own) high (higher_above kind key high above) ∙ ap (λ xs. xs ++ high) (without_row-behind sort_key_of (kind ∷ key) low own (lower_below kind key low below))

-- puts of one kind leave the items of lower and higher kinds where they are
pub puts_among : (kind : ℕ) (low own high : List Item) (puts : List Put) → AreOfLowerKinds kind low → AreOfHigherKinds kind high → ArePutsOf kind puts → put_all (low ++ own ++ high) puts ≡ low ++ put_all own puts ++ high
puts_among kind low own high [] below above of = refl
puts_among kind low own high (x ∷ xs) below above of =
    ap (λ items. put_all items xs) (put_among x low own high (subst (λ k. AreOfLowerKinds k low) (sym of.0) below) (subst (λ k. AreOfHigherKinds k high) (sym of.0) above))
    ∙ puts_among kind low (put_one own x) high xs below above of.1

come_before : (kind : ℕ) (low high : List Item) → AllByRecursion (λ item. item.kind ≤ kind) low → AreOfHigherKinds kind high → ComeBefore sort_key_of low high
come_before kind [] high below above = tt
come_before kind (x ∷ xs) high below above = (higher_above x.kind x.key high (all_higher high above), come_before kind xs high below.1 above)
  where
    all_higher : (items : List Item) → AreOfHigherKinds kind items → AreOfHigherKinds x.kind items
    all_higher [] all = tt
    all_higher (y ∷ ys) all = (omega (arith, below.0, all.0), all_higher ys all.1)

-- items of one kind and lower ones in front of items of higher kinds are in order
pub ordered-append : (kind : ℕ) (low high : List Item) → AllByRecursion (λ item. item.kind ≤ kind) low → AreOfHigherKinds kind high → IsOrdered low → IsOrdered high → IsOrdered (low ++ high)
ordered-append kind low high below above up up' = ascend-append sort_key_of low high up up' (come_before kind low high below above)

-- ---- Rows that are kept as items

same_kind : (k : ℕ) (p q : List ℕ) → same_sort_key (k ∷ p) (k ∷ q) ≡ same_sort_key p q
same_kind k p q = same_sort_key-cmp (k ∷ p) (k ∷ q) (sort_key_cmp (k ∷ p) (k ∷ q)) refl ∙ ap is_eq (kind_itself k (sort_key_cmp p q)) ∙ sym (same_sort_key-cmp p q (sort_key_cmp p q) refl)

module _ {R : Type 0} (sort_key : R → List ℕ) (kind : ℕ) (item : R → Item) (of : AreItemsOf sort_key kind item) where
  rows_alike : (x y : R) → sort_key_cmp (sort_key_of (item x)) (sort_key_of (item y)) ≡ sort_key_cmp (sort_key x) (sort_key y)
  rows_alike x y = ap (λ p. sort_key_cmp p (sort_key_of (item y))) (of x) ∙ ap (sort_key_cmp (kind ∷ sort_key x)) (of y) ∙ kind_itself kind (sort_key_cmp (sort_key x) (sort_key y))

  sort_key_alike : (p : List ℕ) (x : R) → sort_key_cmp (kind ∷ p) (sort_key_of (item x)) ≡ sort_key_cmp p (sort_key x)
  sort_key_alike p x = ap (sort_key_cmp (kind ∷ p)) (of x) ∙ kind_itself kind (sort_key_cmp p (sort_key x))

  sets_kept : (sets rows : List R) → put_all (map item rows) (map (set_put item) sets) ≡ map item (set_rows sort_key sets rows)
  unfolding set_put
  sets_kept [] rows = refl
  sets_kept (x ∷ xs) rows = ap (λ items. put_all items (map (set_put item) xs)) (sym (map-set_row sort_key sort_key_of item rows_alike x rows)) ∙ sets_kept xs (set_row sort_key x rows)

  gone_kept : (gone : Option (List ℕ)) (sets rows : List R) → put_all (map item rows) (with_found (option_map (gone_put kind) gone) (map (set_put item) sets)) ≡ map item (set_rows sort_key sets (without_gone sort_key gone rows))
  unfolding gone_put
  gone_kept None sets rows = sets_kept sets rows
  gone_kept (Some p) sets rows = ap (λ items. put_all items (map (set_put item) sets)) (sym (map-without_row sort_key sort_key_of item p (kind ∷ p) (sort_key_alike p) rows)) ∙ sets_kept sets (without_row sort_key p rows)

  -- the puts of a change make of the items of the rows those of the rows after it
  pub puts_kept : (change : RowChange R) (rows : List R) → put_all (map item rows) (puts_of kind item change) ≡ map item (changed sort_key change rows)
  unfolding puts_of changed
  puts_kept change rows = gone_kept change.gone change.sets rows

  same_head : (k n : ℕ) (p q : List ℕ) → k ∷ p ≡ n ∷ q → k ≡ n
  same_head k n p q e = cc

  sets_of_kind : (sets : List R) → ArePutsOf kind (map (set_put item) sets)
  unfolding set_put
  sets_of_kind [] = tt
  sets_of_kind (x ∷ xs) = (same_head (item x).kind kind (item x).key (sort_key x) (of x), sets_of_kind xs)

  gone_of_kind : (gone : Option (List ℕ)) (sets : List R) → ArePutsOf kind (with_found (option_map (gone_put kind) gone) (map (set_put item) sets))
  unfolding gone_put
  gone_of_kind None sets = sets_of_kind sets
  gone_of_kind (Some p) sets = (refl, sets_of_kind sets)

  pub puts_of_kind : (change : RowChange R) → ArePutsOf kind (puts_of kind item change)
  unfolding puts_of
  puts_of_kind change = gone_of_kind change.gone change.sets

  -- ---- No sort key twice

  abbrev of_kind : List ℕ → List ℕ
  of_kind p = kind ∷ p

  set_sort_keys : (sets : List R) → map sort_key_of_put (map (set_put item) sets) ≡ map of_kind (map sort_key sets)
  unfolding set_put
  set_sort_keys [] = refl
  set_sort_keys (x ∷ xs) = λ i. of x i ∷ set_sort_keys xs i

  gone_sort_keys : (gone : Option (List ℕ)) (sets : List R) → map sort_key_of_put (with_found (option_map (gone_put kind) gone) (map (set_put item) sets)) ≡ map of_kind (with_found gone (map sort_key sets))
  unfolding gone_put
  gone_sort_keys None sets = set_sort_keys sets
  gone_sort_keys (Some p) sets = ap (λ ps. (kind ∷ p) ∷ ps) (set_sort_keys sets)

  puts_sort_keys : (change : RowChange R) → map sort_key_of_put (puts_of kind item change) ≡ map of_kind (sort_keys_of sort_key change)
  unfolding puts_of sort_keys_of
  puts_sort_keys change = gone_sort_keys change.gone change.sets

  -- as many as the sort keys that the change touches
  pub puts_length : (change : RowChange R) → length (puts_of kind item change) ≡ length (sort_keys_of sort_key change)
  puts_length change = sym (length-map (puts_of kind item change) sort_key_of_put) ∙ ap length (puts_sort_keys change) ∙ length-map (sort_keys_of sort_key change) of_kind

  is_apart_by : (p : List ℕ) (puts : List Put) → is_apart p puts ≡ not (list_any (same_sort_key p) (map sort_key_of_put puts))
  is_apart_by p [] = refl
  is_apart_by p (x ∷ xs) = both_not (same_sort_key p (sort_key_of_put x)) (list_any (same_sort_key p) (map sort_key_of_put xs)) (not (is_eq (sort_key_cmp p (sort_key_of_put x)))) (is_apart p xs) (is_other p (sort_key_of_put x)) (is_apart_by p xs)
    where
      both_not : (b c u v : Bool) → u ≡ not b → v ≡ not c → (u && v) ≡ not (b || c)
      both_not true c u v e f = ap (λ w. w && v) e
      both_not false c u v e f = ap (λ w. w && v) e ∙ f

  apart_by : (puts : List Put) → are_apart puts ≡ changes.are_apart same_sort_key (map sort_key_of_put puts)
  apart_by [] = refl
  apart_by (x ∷ xs) = ap (λ b. b && are_apart xs) (is_apart_by (sort_key_of_put x) xs) ∙ ap (λ b. not (list_any (same_sort_key (sort_key_of_put x)) (map sort_key_of_put xs)) && b) (apart_by xs)

  -- where the change touches no sort key twice, no two of them are about one sort key
  pub puts_apart : (change : RowChange R) → IsTrue (is_plain sort_key change) → IsTrue (are_apart (puts_of kind item change))
  unfolding is_plain
  puts_apart change plain =
      apart_by (puts_of kind item change) ∙ ap (changes.are_apart same_sort_key) (puts_sort_keys change)
      ∙ apart-map same_sort_key same_sort_key of_kind (λ p q e. sym (same_kind kind p q) ∙ e) (sort_keys_of sort_key change) plain

  -- ---- The items themselves

  pub row_at-items : (p : List ℕ) (rows : List R) → row_at sort_key_of (kind ∷ p) (map item rows) ≡ option_map item (row_at sort_key p rows)
  row_at-items p rows = row_at-map sort_key sort_key_of item p (kind ∷ p) (λ x. ap (λ q. same_sort_key q (kind ∷ p)) (of x) ∙ same_kind kind (sort_key x) p) rows

  pub ordered-items : (rows : List R) → SortKeysAscend sort_key rows → IsOrdered (map item rows)
  ordered-items rows up = ascend-map sort_key sort_key_of item rows_alike rows up

  -- ---- The difference

  told_apart : ((x y : R) → item x ≡ item y → x ≡ y) → (o : Option R) (x : R) → option_map item o ≡ Some (item x) → o ≡ Some x
  told_apart one None x e = absurd (none-some (item x) e)
  told_apart one (Some y) x e = ap Some (one y x (same_Some (item y) (item x) e))

  told_none : (o : Option R) → option_map item o ≡ None → o ≡ None
  told_none None e = refl
  told_none (Some y) e = absurd (none-some (item y) (sym e))

  sets_needed : ((x y : R) → item x ≡ item y → x ≡ y) → (rows : List R) → SortKeysAscend sort_key rows → (sets : List R) → AllByRecursion (λ row. row_at sort_key (sort_key row) rows ≡ Some row → ⊥) sets → AllByRecursion (IsNeeded (map item rows)) (map (set_put item) sets)
  unfolding set_put
  sets_needed one rows up [] all = tt
  sets_needed one rows up (x ∷ xs) all = (
    λ same. all.0 (told_apart one (row_at sort_key (sort_key x) rows) x (sym (row_at-items (sort_key x) rows) ∙ ap (λ p. row_at sort_key_of p (map item rows)) (sym (of x)) ∙ same_put (map item rows) (Set (item x)) (ordered-items rows up) same)),
    sets_needed one rows up xs all.1,
  )

  puts_needed : ((x y : R) → item x ≡ item y → x ≡ y) → (rows : List R) → SortKeysAscend sort_key rows → (gone : Option (List ℕ)) (sets : List R) → IfSome gone (λ p. row_at sort_key p rows ≡ None → ⊥) → AllByRecursion (λ row. row_at sort_key (sort_key row) rows ≡ Some row → ⊥) sets
      → AllByRecursion (IsNeeded (map item rows)) (with_found (option_map (gone_put kind) gone) (map (set_put item) sets))
  unfolding gone_put
  puts_needed one rows up None sets there all = sets_needed one rows up sets all
  puts_needed one rows up (Some p) sets there all = (
    λ same. there (told_none (row_at sort_key p rows) (sym (row_at-items p rows) ∙ same_put (map item rows) (Gone kind p) (ordered-items rows up) same)),
    sets_needed one rows up sets all,
  )

  -- the puts of a change are the difference of the items, where it touches no sort key twice and changes at each of them something
  pub puts_differ : ((x y : R) → item x ≡ item y → x ≡ y) → (change : RowChange R) (rows : List R) → SortKeysAscend sort_key rows → IsTrue (is_plain sort_key change) → IsNeededChange sort_key rows change → IsDifference (map item rows) (map item (changed sort_key change rows)) (puts_of kind item change)
  unfolding puts_of
  puts_differ one change rows up plain needs = record {
    reaches = puts_kept change rows;
    needed = All-from_recursion (IsNeeded (map item rows)) (puts_of kind item change) (puts_needed one rows up change.gone change.sets needs.gone needs.sets);
    apart = puts_apart change plain;
  }

-- ---- An item is its parts

pub same_item : (item : Item) (kind : ℕ) (key body : List ℕ) → item.kind ≡ kind → item.key ≡ key → item.body ≡ body → item ≡ record { kind = kind; key = key; body = body }
same_item item kind key body p q r = λ i. record { kind = p i; key = q i; body = r i }
