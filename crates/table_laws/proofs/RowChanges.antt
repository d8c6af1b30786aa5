-- A change of rows leaves the rows of other sort keys, and makes its own rows those of the sort keys that it touches.
use Rattle.std.proofs.Common.{◌≡◌, ℕ, true, List, ap}
use Rattle.std.specs.Prelude.{flat_map}
use Rattle.base_rows.specs.Sortable.{SortKeysAscend}
use Rattle.acl_model.specs.declared.binding.Binding.{Binding}
use Rattle.base_rows.specs.Changes.{rows_at, RowChange, changed, sort_keys_of, old_rows, is_plain}
use Rattle.acl_model.specs.Changes.{those_not_in}
use Rattle.table_model.specs.BindingChanges.{gone_of, come_of}
use Rattle.table_laws.proofs.Differences.{gone_at, come_at}
use Rattle.base_rows.proofs.ChangeLaws.{row_at-changed_other, new_rows}
use Rattle.table_laws.proofs.Differences.{IsElsewhereSame}

module _ {R : Type 0} (sort_key : R → List ℕ) where
  pub elsewhere_same : (f : R → List Binding) (change : RowChange R) (rows : List R) → SortKeysAscend sort_key rows → IsElsewhereSame sort_key f (sort_keys_of sort_key change) rows (changed sort_key change rows)
  elsewhere_same f change rows up q other = row_at-changed_other sort_key change rows q up other

  pub gone_is : (f : R → List Binding) (change : RowChange R) (rows : List R) → SortKeysAscend sort_key rows → is_plain sort_key change ≡ true → gone_at sort_key f (sort_keys_of sort_key change) rows (changed sort_key change rows) ≡ gone_of sort_key f change rows
  unfolding gone_at gone_of old_rows
  gone_is f change rows up once = ap (λ new. those_not_in (flat_map f new) (flat_map f (rows_at sort_key (sort_keys_of sort_key change) rows))) (new_rows sort_key change rows up once)

  pub come_is : (f : R → List Binding) (change : RowChange R) (rows : List R) → SortKeysAscend sort_key rows → is_plain sort_key change ≡ true → come_at sort_key f (sort_keys_of sort_key change) rows (changed sort_key change rows) ≡ come_of sort_key f change rows
  unfolding gone_at come_at come_of old_rows
  come_is f change rows up once = ap (λ new. those_not_in (flat_map f (rows_at sort_key (sort_keys_of sort_key change) rows)) (flat_map f new)) (new_rows sort_key change rows up once)
