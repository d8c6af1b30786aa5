-- The plan of the rows that a change of a book leads to, and its steps.
use Rattle.std.specs.Prelude.{ℕ, ◌+◌, ◌*◌, ◌^◌, ◌<◌, ◌≤◌, List, [], ◌++◌, length, Option}
use Rattle.acl_model.specs.declared.entry.Policy.{Policy}
use Rattle.acl_model.specs.declared.binding.Binding.{Binding}
use Rattle.acl_changes.specs.Touched.{touches}
use Rattle.acl_compile.specs.Compiled.{CompiledState}
use Rattle.acl_compile.specs.Plans.{Plan, IsMemberPlan, IsPolicyPlan, held_for, policy_steps, policy_reads}
use Rattle.acl_changes.specs.Steps.{HaveKeys, PolicyKeys, sort_key_steps, least_steps, least_looks}
use Rattle.usage_tables.specs.declared.cached_file.CachedFile.{CachedFile}
use Rattle.usage_tables.specs.declared.file_edit.PolicyChange.{PolicyChange}
use Rattle.usage_tables.specs.declared.file_edit.PolicyChange.TheVariants.{Stays, Comes, Goes}
use Rattle.usage_tables.specs.Policies.{policy_change, policy_after}
use Rattle.desk_books.specs.declared.change.BookChange.{BookChange}
use Rattle.desk_books.specs.declared.change.BookChange.TheVariants.{Things, Files, Binds}

-- a policy that stays changes nothing; else it is the candidate's, or none, from now on
abbrev pub IsFileRows : PolicyChange → List ℕ → List CachedFile → CompiledState → Plan → Type 0
IsFileRows Stays url files compiled plan = IsMemberPlan [] [] compiled plan
IsFileRows Comes url files compiled plan = IsPolicyPlan url (policy_after Comes files url) compiled plan
IsFileRows Goes url files compiled plan = IsPolicyPlan url (policy_after Goes files url) compiled plan

-- the plan of the change, over the files before it
abbrev pub IsRowPlan : BookChange → List CachedFile → CompiledState → Plan → Type 0
IsRowPlan (Things change) files compiled plan = IsMemberPlan change.gone change.come compiled plan
IsRowPlan (Files change) files compiled plan = IsFileRows (policy_change change.edit) change.url files compiled plan
IsRowPlan (Binds change) files compiled plan = IsMemberPlan change.gone change.come compiled plan

-- ---- Steps

abbrev pub IsPaidByBindings : List Binding → List Binding → CompiledState → ℕ → Type 0
IsPaidByBindings gone come compiled steps =
    (s b k : ℕ) → HaveKeys s compiled.slots → length compiled.bindings + length come < 2 ^ b → length compiled.rows < 2 ^ k
    → steps ≤ (length gone + length come + length (touches compiled.slots (gone ++ come))) * sort_key_steps s b k

abbrev pub IsPaidByPolicy : List ℕ → Option Policy → CompiledState → ℕ → Type 0
IsPaidByPolicy url policy compiled steps =
    (s b k : ℕ) → HaveKeys s compiled.slots → PolicyKeys s (held_for url policy) → length compiled.bindings < 2 ^ b → length compiled.rows < 2 ^ k
    → steps ≤ policy_steps url policy compiled.slots compiled.bindings compiled.rows s b k

abbrev pub IsRowsPaid : BookChange → List CachedFile → CompiledState → ℕ → Type 0
IsRowsPaid (Things change) files compiled steps = IsPaidByBindings change.gone change.come compiled steps
IsRowsPaid (Files change) files compiled steps = IsPaidByPolicy change.url (policy_after (policy_change change.edit) files change.url) compiled steps
IsRowsPaid (Binds change) files compiled steps = IsPaidByBindings change.gone change.come compiled steps

-- ---- Steps at least

-- each binding that goes or comes is looked for among those of its key, and each sort key that they touch among the rows of
-- its owner, side and address
abbrev pub binding_reads : List Binding → List Binding → CompiledState → ℕ
binding_reads gone come compiled =
    least_looks compiled.bindings gone + least_looks compiled.bindings come + least_steps compiled.rows (touches compiled.slots (gone ++ come))

abbrev pub AreRead : List ℕ → Option Policy → CompiledState → ℕ → Type 0
AreRead url policy compiled steps = policy_reads url policy compiled.slots compiled.bindings compiled.rows ≤ steps

-- for a policy that stays nothing is read
abbrev pub IsFileRead : PolicyChange → List ℕ → List CachedFile → CompiledState → ℕ → Type 0
IsFileRead Stays url files compiled steps = Unit {0}
IsFileRead Comes url files compiled steps = AreRead url (policy_after Comes files url) compiled steps
IsFileRead Goes url files compiled steps = AreRead url (policy_after Goes files url) compiled steps

abbrev pub IsRowsRead : BookChange → List CachedFile → CompiledState → ℕ → Type 0
IsRowsRead (Things change) files compiled steps = binding_reads change.gone change.come compiled ≤ steps
IsRowsRead (Files change) files compiled steps = IsFileRead (policy_change change.edit) change.url files compiled steps
IsRowsRead (Binds change) files compiled steps = binding_reads change.gone change.come compiled ≤ steps
