-- The bindings that a change of rows takes away, and those that it brings.
use Rattle.std.specs.Prelude.{ℕ, List, flat_map}
use Rattle.base_rows.specs.Changes.{RowChange, old_rows}
use Rattle.acl_model.specs.declared.binding.Binding.{Binding}
use Rattle.acl_model.specs.Changes.{those_not_in}

-- those of the rows that stood at the sort keys that it touches, without those of the rows that it puts in
unfoldable pub gone_of : {R : Type 0} → (R → List ℕ) → (R → List Binding) → RowChange R → List R → List Binding
gone_of sort_key bindings change rows = those_not_in (flat_map bindings change.sets) (flat_map bindings (old_rows sort_key change rows))

-- and the other way round
unfoldable pub come_of : {R : Type 0} → (R → List ℕ) → (R → List Binding) → RowChange R → List R → List Binding
come_of sort_key bindings change rows = those_not_in (flat_map bindings (old_rows sort_key change rows)) (flat_map bindings change.sets)
