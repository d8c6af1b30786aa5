-- When compiled policies, bindings and rows are those of a desk.
use Rattle.std.specs.Prelude.{◌≡◌, ℕ, List}
use Rattle.acl_model.specs.Changes.{HaveSame}
use Rattle.acl_compile.specs.Compiled.{CompiledState, HasItsRows}
use Rattle.acl_compile.specs.Plans.{policy_held}
use Rattle.desk_model.specs.DeskTables.{DeskTables}
use Rattle.desk_model.specs.Verdicts.{policy_at, desk_bindings}

-- What is compiled is the desk: for each URL the policy of its approved file is held, the bindings are those of the leases,
-- classes and names, and the rows are those of these policies and bindings.
pub record IsCompiledOf (desk : DeskTables) (compiled : CompiledState) : Type 0 where
  pub policies : (url : List ℕ) → policy_held compiled.slots url ≡ policy_at desk url
  pub bindings : HaveSame compiled.bindings (desk_bindings desk)
  pub rows : HasItsRows compiled
