-- Rows into which one is put are some.
use Rattle.std.proofs.Common.{ℕ, ◌<◌, List, [], ◌∷◌, length, arith}
use Rattle.std.specs.declared.cmp.Ordering.{Ordering}
use Rattle.std.specs.declared.cmp.Ordering.TheVariants.{Less, Equal, Greater}
use Rattle.mud_base.specs.declared.addr.Addr.{Addr}
use Rattle.base_rows.specs.Sortable.{sort_key_cmp, set_row}
use Rattle.base_rows.specs.Addresses.{expiry_sort_key}
use Rattle.table_model.specs.Expiries.{Expiries, with_expiry}

some_first : {R : Type 0} (row x : R) (xs rest : List R) (o : Ordering) → 0 < length (elim o as (λ _. List R) [ Less ↦ row ∷ (x ∷ xs) | Equal ↦ row ∷ xs | Greater ↦ x ∷ rest ])
some_first row x xs rest Less = omega arith
some_first row x xs rest Equal = omega arith
some_first row x xs rest Greater = omega arith

pub some-set_row : {R : Type 0} (sort_key : R → List ℕ) (row : R) (rows : List R) → 0 < length (set_row sort_key row rows)
some-set_row sort_key row [] = omega arith
some-set_row sort_key row (x ∷ xs) = some_first row x xs (set_row sort_key row xs) (sort_key_cmp (sort_key row) (sort_key x))

pub with_expiry_some : (a : Addr) (until : ℕ) (rows : Expiries) → 0 < length (with_expiry a until rows)
unfolding with_expiry
with_expiry_some a until rows = some-set_row expiry_sort_key (a, until) rows
