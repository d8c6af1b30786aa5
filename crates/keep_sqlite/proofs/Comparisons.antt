-- The tests of SQL that the statements make, on the rows of items.
use Rattle.std.proofs.Common.{◌≡◌, ℕ, ℤ, pos, Bool, true, false, ◌&&◌, List, [], ◌∷◌, refl, sym, ap, ◌∙◌, arith}
use Rattle.std.proofs.lemmas.Int.{ints}
use Rattle.std.specs.List.{list_all}
use Rattle.std.specs.Ordering.{is_eq, nat_cmp, int_cmp, ordering_then}
use Rattle.std.specs.Cmp.Lexicographic.{slice_cmp}
use Rattle.std.specs.declared.cmp.Ordering.{Ordering}
use Rattle.std.specs.declared.cmp.Ordering.TheVariants.{Less, Equal, Greater}
use Rattle.sqlite.specs.declared.types.Value.TheVariants.{Int, Blob}
use Rattle.sqlite.specs.Collation.TheVariants.{Binary}
use Rattle.sqlite_value.specs.Order.{value_cmp}
use Rattle.sqlite_value.proofs.OrderLemmas.{value_cmp-Int, value_cmp-Blob}
use Rattle.sqlite_sql.specs.declared.ops.BinaryOp.TheVariants.{Compare}
use Rattle.sqlite_sql.specs.declared.ops.CompareOp.TheVariants.{Eq}
use Rattle.sqlite_sql.specs.Ops.{binary, is_true, from_truth}
use Rattle.sqlite_sql.specs.Term.{holds}
use Rattle.std.specs.Prelude.{Some}
use Rattle.base_rows.specs.Sortable.{sort_key_cmp, same_sort_key}
use Rattle.base_rows.proofs.SortableLaws.{same_sort_key-cmp}
use Rattle.mud_world.specs.declared.item.Item.{Item}
use Rattle.mud_world.specs.Items.{sort_key_of}
use Rattle.keep_sqlite.specs.Rows.{stored}
use Rattle.keep_sqlite.proofs.Texts.{delete_query}

pub true_of : (b : Bool) → is_true (from_truth (Some b)) ≡ b
true_of true = refl
true_of false = refl

pub equal_ints : (a b : ℤ) → is_true (binary (Compare Eq Binary) (Int a) (Int b)) ≡ is_eq (int_cmp a b)
unfolding binary
equal_ints a b = true_of (is_eq (value_cmp (Int a) (Int b))) ∙ ap is_eq (value_cmp-Int a b)

pub equal_blobs : (s t : List ℕ) → is_true (binary (Compare Eq Binary) (Blob s) (Blob t)) ≡ is_eq (slice_cmp nat_cmp s t)
unfolding binary
equal_blobs s t = true_of (is_eq (value_cmp (Blob s) (Blob t))) ∙ ap is_eq (value_cmp-Blob s t)

pub cmp_naturals : (a b : ℕ) → int_cmp (pos a) (pos b) ≡ nat_cmp a b
cmp_naturals a b = grind (arith, ints)

both_equal : (o u : Ordering) → is_eq (ordering_then o u) ≡ (is_eq o && (is_eq u && true))
both_equal Less u = refl
both_equal Equal Less = refl
both_equal Equal Equal = refl
both_equal Equal Greater = refl
both_equal Greater u = refl

-- both keys are equal exactly where the sort key is the same
pub same_keys : (a b : ℕ) (s t : List ℕ) → (is_true (binary (Compare Eq Binary) (Int (pos a)) (Int (pos b))) && (is_true (binary (Compare Eq Binary) (Blob s) (Blob t)) && true)) ≡ same_sort_key (a ∷ s) (b ∷ t)
same_keys a b s t =
    ap (λ c. c && (is_true (binary (Compare Eq Binary) (Blob s) (Blob t)) && true)) (equal_ints (pos a) (pos b) ∙ ap is_eq (cmp_naturals a b))
    ∙ ap (λ c. is_eq (nat_cmp a b) && (c && true)) (equal_blobs s t)
    ∙ sym (both_equal (nat_cmp a b) (slice_cmp nat_cmp s t))
    ∙ sym (same_sort_key-cmp (a ∷ s) (b ∷ t) (sort_key_cmp (a ∷ s) (b ∷ t)) refl)

pub deletes_test : (kind : ℕ) (key : List ℕ) (id : ℤ) (item : Item) → list_all (holds ((Int (pos kind) ∷ Blob key ∷ []) ∷ stored id item ∷ [])) delete_query.filter ≡ same_sort_key (sort_key_of item) (kind ∷ key)
deletes_test kind key id item = same_keys item.kind kind item.key key
