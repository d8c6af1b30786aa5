-- How the policies of files come in, one file after the other.
use Rattle.std.specs.Prelude.{◌≡◌, ℕ, suc, ◌≤◌, bytes_eq, List, Option, Some, None, if◌then◌else◌}
use Rattle.acl_model.specs.declared.entry.Policy.{Policy}
use Rattle.acl_compile.specs.Compiled.{CompiledState, HasItsRows}
use Rattle.acl_compile.specs.Plans.{policy_held, others_held}
use Rattle.usage_tables.specs.declared.cached_file.CachedFile.{CachedFile}
use Rattle.usage_tables.specs.Policies.{policy_in_row, policy_of}

-- the policy of a URL, where this one, if any, is that of `url` and there was one before, if any
abbrev pub policy_with : List ℕ → Option Policy → List ℕ → Option Policy → Option Policy
policy_with url None u before = before
policy_with url (Some policy) u before = if bytes_eq url u then Some policy else before

-- the policy of the file's URL is that of the approved file, where one is approved, and else all stays
pub record AddsPolicy (row : CachedFile) (before after : CompiledState) : Type 0 where
  pub policies : (u : List ℕ) → policy_held after.slots u ≡ policy_with row.url (policy_in_row row) u (policy_held before.slots u)
  pub others : (u : List ℕ) → others_held u after.slots ≤ suc (others_held u before.slots)
  pub bindings : after.bindings ≡ before.bindings
  pub rows : HasItsRows after

-- the policies are those of the approved files, and the bindings stay
pub record HasPolicies (files : List CachedFile) (before after : CompiledState) : Type 0 where
  pub policies : (u : List ℕ) → policy_held after.slots u ≡ policy_of files u
  pub bindings : after.bindings ≡ before.bindings
  pub rows : HasItsRows after
