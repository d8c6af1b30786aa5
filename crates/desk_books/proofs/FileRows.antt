-- The plan of the rows of a change of files.
use Rattle.std.proofs.Common.{◌≡◌, ℕ, ◌+◌, ◌-◌, ◌*◌, ◌^◌, ◌<◌, ◌≤◌, List, [], length, Option, Some, None, refl, sym, subst, arith}
use Rattle.std.specs.Option.{option_map, option_and_then}
use Rattle.mud_base.specs.declared.packet.Direction.{Direction}
use Rattle.mud_base.specs.declared.packet.Direction.TheVariants.{From, To}
use Rattle.acl_model.specs.declared.entry.Policy.{Policy}
use Rattle.acl_model.specs.declared.binding.Binding.{Binding}
use Rattle.acl_model.specs.FirstMatch.{entries_of}
use Rattle.acl_changes.specs.Touched.{touches}
use Rattle.acl_compile.specs.Compiled.{CompiledState}
use Rattle.acl_compile.specs.Plans.{Plan, CanBeCounted, IsPolicyPlan}
use Rattle.acl_changes.specs.Steps.{HaveKeys, sort_key_steps}
use Rattle.mud_file.specs.declared.usage_file.UsageFile.{UsageFile}
use Rattle.usage_tables.specs.declared.cached_file.CachedFile.{CachedFile}
use Rattle.usage_tables.specs.declared.file_edit.PolicyChange.{PolicyChange}
use Rattle.usage_tables.specs.declared.file_edit.PolicyChange.TheVariants.{Stays, Comes, Goes}
use Rattle.usage_tables.specs.Held.{HeldFile, usage_in}
use Rattle.usage_tables.specs.Files.{file_at}
use Rattle.usage_tables.specs.Policies.{policy_in_held, candidate_in_row, candidate_policy, policy_after}
use Rattle.usage_tables.proofs.EntryBounds.{few_outgoing, few_incoming}
use Rattle.desk_books.specs.RowPlans.{IsFileRows, IsPaidByPolicy, IsFileRead, AreRead}
use Rattle.usage_tables.proofs.Parts.{policy_in_file}

-- ---- The entries of a policy can be counted

few_entries : (octets : List ℕ) (file : UsageFile) → usage_in octets ≡ Some file → (side : Direction) → length (entries_of side file.policy) ≤ 65535
unfolding entries_of
few_entries octets file e From = omega (arith, few_outgoing octets file e)
few_entries octets file e To = omega (arith, few_incoming octets file e)

usage_counts : (octets : List ℕ) (read : Option UsageFile) → usage_in octets ≡ read → CanBeCounted (option_map policy_in_file read)
usage_counts octets None e = tt
usage_counts octets (Some file) e = few_entries octets file e

candidate_counts : (candidate : Option HeldFile) → CanBeCounted (option_and_then policy_in_held candidate)
unfolding policy_in_held
candidate_counts None = tt
candidate_counts (Some held) = usage_counts held.octets (usage_in held.octets) refl

row_counts : (row : Option CachedFile) → CanBeCounted (option_and_then candidate_in_row row)
unfolding candidate_in_row
row_counts None = tt
row_counts (Some row) = candidate_counts row.candidate

pub candidates_count : (files : List CachedFile) (url : List ℕ) (policy : Option Policy) → policy ≡ candidate_policy files url → CanBeCounted policy
unfolding candidate_policy
candidates_count files url policy is = subst CanBeCounted (sym is) (row_counts (file_at url files))

-- ---- By what becomes of the policy

module _ (change : PolicyChange) (url : List ℕ) (files : List CachedFile) (compiled : CompiledState) where
  pub comes_rows : (plan : Plan) → Comes ≡ change → IsPolicyPlan url (candidate_policy files url) compiled plan → IsFileRows change url files compiled plan
  unfolding policy_after
  comes_rows plan e p = subst (λ (x : PolicyChange). IsFileRows x url files compiled plan) e p

  pub comes_paid : (steps : ℕ) → Comes ≡ change → IsPaidByPolicy url (candidate_policy files url) compiled steps → IsPaidByPolicy url (policy_after change files url) compiled steps
  unfolding policy_after
  comes_paid steps e p = subst (λ (x : PolicyChange). IsPaidByPolicy url (policy_after x files url) compiled steps) e p

  -- by the policy that was lent
  pub lent_paid : (steps : ℕ) (url' : List ℕ) (policy : Option Policy) → Comes ≡ change → url' ≡ url → policy ≡ candidate_policy files url' → IsPaidByPolicy url' policy compiled steps → IsPaidByPolicy url (policy_after change files url) compiled steps
  lent_paid steps url' policy e same is p =
      let here : IsPaidByPolicy url' (candidate_policy files url') compiled steps = subst (λ (o : Option Policy). IsPaidByPolicy url' o compiled steps) is p in
      comes_paid steps e (subst (λ (u : List ℕ). IsPaidByPolicy u (candidate_policy files u) compiled steps) same here)

  pub goes_rows : (plan : Plan) → Goes ≡ change → IsPolicyPlan url None compiled plan → IsFileRows change url files compiled plan
  unfolding policy_after
  goes_rows plan e p = subst (λ (x : PolicyChange). IsFileRows x url files compiled plan) e p

  pub goes_paid : (steps : ℕ) → Goes ≡ change → IsPaidByPolicy url None compiled steps → IsPaidByPolicy url (policy_after change files url) compiled steps
  unfolding policy_after
  goes_paid steps e p = subst (λ (x : PolicyChange). IsPaidByPolicy url (policy_after x files url) compiled steps) e p

  pub stays_read : (steps : ℕ) → Stays ≡ change → IsFileRead change url files compiled steps
  stays_read steps e = subst (λ (x : PolicyChange). IsFileRead x url files compiled steps) e tt

  comes_read : (steps : ℕ) → Comes ≡ change → AreRead url (candidate_policy files url) compiled steps → IsFileRead change url files compiled steps
  unfolding policy_after
  comes_read steps e p = subst (λ (x : PolicyChange). IsFileRead x url files compiled steps) e p

  -- by the policy that was lent
  pub lent_read : (steps : ℕ) (url' : List ℕ) (policy : Option Policy) → Comes ≡ change → url' ≡ url → policy ≡ candidate_policy files url' → AreRead url' policy compiled steps → IsFileRead change url files compiled steps
  lent_read steps url' policy e same is p =
      let here : AreRead url' (candidate_policy files url') compiled steps = subst (λ (o : Option Policy). AreRead url' o compiled steps) is p in
      comes_read steps e (subst (λ (u : List ℕ). AreRead u (candidate_policy files u) compiled steps) same here)

  pub goes_read : (steps : ℕ) → Goes ≡ change → AreRead url None compiled steps → IsFileRead change url files compiled steps
  unfolding policy_after
  goes_read steps e p = subst (λ (x : PolicyChange). IsFileRead x url files compiled steps) e p

-- no binding goes or comes
pub none_paid : (url : List ℕ) (policy : Option Policy) (compiled : CompiledState) (old new : ℕ)
    → ((s b k : ℕ) → HaveKeys s compiled.slots → length compiled.bindings + length {A = Binding} [] < 2 ^ b → length compiled.rows < 2 ^ k → new ≤ old + (0 + 0 + length (touches compiled.slots [])) * sort_key_steps s b k)
    → IsPaidByPolicy url policy compiled (new - old)
unfolding touches
none_paid url policy compiled old new most s b k keys policy_keys few rows = omega (arith, most s b k keys (omega arith) rows)
