-- The policies of approved files come in, one file after the other.
use Rattle.std.proofs.Common.{◌≡◌, ℕ, zero, suc, ◌+◌, ◌≤◌, ◌<◌, Bool, true, false, cond, List, [], ◌∷◌, ◌++◌, length, set, take, drop, get_or, Option, Some, None, refl, sym, ap, subst, ◌∙◌, arith, add-one}
use Rattle.std.specs.Prelude.{bytes_eq, filter, nat_lt, option_map, option_and_then}
use Rattle.std.specs.declared.cmp.Ordering.TheVariants.{Less, Greater}
use Rattle.std.proofs.lemmas.List.{take_more, take-append-drop}
use Rattle.std.proofs.Math.Seq.{drop-cons}
use Rattle.base_rows.specs.Sortable.{sort_key_cmp, row_at, SortKeysAbove, SortKeysAscend}
use Rattle.base_rows.proofs.SortableLaws.{same_sort_key_exact, same_sort_key-cmp, sort_key_cmp_turned}
use Rattle.mud_base.specs.declared.packet.Direction.TheVariants.{From, To}
use Rattle.acl_model.specs.declared.entry.Policy.{Policy}
use Rattle.acl_model.specs.FirstMatch.{entries_of}
use Rattle.acl_model.specs.SortKeys.{binding_sort_key}
use Rattle.acl_rows.specs.Rows.{Slots, rows_of}
use Rattle.acl_rows.specs.View.{holder_from}
use Rattle.base_rows.specs.Edits.{edited}
use Rattle.acl_changes.specs.Policies.{HasCounts}
use Rattle.acl_compile.specs.Compiled.{CompiledState, HasItsRows}
use Rattle.acl_compile.specs.Plans.{SlotChange, Plan, slot_set, slots_with, slots_after, bindings_after, policy_held, others_held, is_other, IsKept, IsPolicyPlan}
use Rattle.mud_file.specs.declared.usage_file.UsageFile.{UsageFile}
use Rattle.usage_tables.specs.declared.cached_file.CachedFile.{CachedFile}
use Rattle.usage_tables.specs.declared.approval.Approval.{Approval}
use Rattle.usage_tables.specs.Held.{HeldFile, usage_in}
use Rattle.usage_tables.specs.Files.{url_of, file_at}
use Rattle.usage_tables.specs.Policies.{policy_in_held, policy_in_row, policy_of}
use Rattle.usage_tables.proofs.EntryBounds.{few_outgoing, few_incoming}
use Rattle.desk_books.specs.Policies.{policy_with, AddsPolicy}
use Rattle.usage_tables.proofs.Parts.{policy_in_file, policy_in_approved}

-- ---- One more sort key can be taken by one change of the table

module _ {X : Type 0} (test : X → Bool) where
  one_more : (b : Bool) (x : X) (xs : List X) → length (cond b (x ∷ xs) xs) ≤ suc (length xs)
  one_more true x xs = omega arith
  one_more false x xs = omega arith

  no_less : (b : Bool) (x : X) (xs : List X) → length xs ≤ length (cond b (x ∷ xs) xs)
  no_less true x xs = omega arith
  no_less false x xs = omega arith

  beside : (b : Bool) (y : X) (xs ys : List X) → length xs ≤ suc (length ys) → length (cond b (y ∷ xs) xs) ≤ suc (length (cond b (y ∷ ys) ys))
  beside true y xs ys h = omega arith
  beside false y xs ys h = h

  pub filter_set : (xs : List X) (i : ℕ) (x : X) → length (filter test (set xs i x)) ≤ suc (length (filter test xs))
  filter_set [] i x = omega arith
  filter_set (y ∷ ys) zero x =
      let more = one_more (test x) x (filter test ys) in
      let less = no_less (test y) y (filter test ys) in
      omega (arith, more, less)
  filter_set (y ∷ ys) (suc i) x = beside (test y) y (filter test (set ys i x)) (filter test ys) (filter_set ys i x)

  pub filter_push : (xs : List X) (x : X) → length (filter test (xs ++ x ∷ [])) ≤ suc (length (filter test xs))
  filter_push [] x = one_more (test x) x []
  filter_push (y ∷ ys) x = beside (test y) y (filter test (ys ++ x ∷ [])) (filter test ys) (filter_push ys x)

others_set : (u : List ℕ) (s : SlotChange) (slots : Slots) (b : Bool) → length (filter (is_other u) (cond b (set slots s.0 s.1) (slots ++ s.1 ∷ []))) ≤ suc (length (filter (is_other u) slots))
others_set u s slots true = filter_set (is_other u) slots s.0 s.1
others_set u s slots false = filter_push (is_other u) slots s.1

others_more : (u : List ℕ) (s : Option SlotChange) (slots : Slots) → others_held u (slots_with s slots) ≤ suc (others_held u slots)
unfolding others_held slots_with slot_set
others_more u None slots = omega arith
others_more u (Some s) slots = others_set u s slots (nat_lt s.0 (length slots))

-- ---- One file

module _ (row : CachedFile) (policy : Policy) (has : policy_in_row row ≡ Some policy) (before planned after : CompiledState) (plan : Plan) where
  by_url : (u : List ℕ) → IsKept before planned → IsPolicyPlan row.url (Some policy) planned plan → (b : Bool) → bytes_eq row.url u ≡ b → policy_held (slots_after plan planned) u ≡ cond b (Some policy) (policy_held before.slots u)
  by_url u kept made true e = ap (λ v. policy_held (slots_after plan planned) v) (sym (same_sort_key_exact row.url u e)) ∙ made.here
  by_url u kept made false e = made.others u e ∙ ap (λ slots. policy_held slots u) kept.slots

  with_policy : (u : List ℕ) (o : Option Policy) → o ≡ Some policy → (before : Option Policy) → cond (bytes_eq row.url u) (Some policy) before ≡ policy_with row.url o u before
  with_policy u o e before = subst (λ p. cond (bytes_eq row.url u) (Some policy) before ≡ policy_with row.url p u before) (sym e) refl

  others_after : (u : List ℕ) → others_held u (slots_after plan planned) ≤ suc (others_held u planned.slots)
  unfolding slots_after
  others_after u = others_more u plan.slot planned.slots

  no_edits : (edits : List _) → edits ≡ [] → edited binding_sort_key edits planned.bindings ≡ planned.bindings
  unfolding edited
  no_edits edits e = subst (λ es. edited binding_sort_key es planned.bindings ≡ planned.bindings) (sym e) refl

  same_bindings : IsPolicyPlan row.url (Some policy) planned plan → bindings_after plan planned ≡ planned.bindings
  unfolding bindings_after
  same_bindings made = no_edits plan.bindings made.bindings

  pub adds_policy : HasItsRows before → IsKept before planned → IsPolicyPlan row.url (Some policy) planned plan → after.slots ≡ slots_after plan planned → after.bindings ≡ bindings_after plan planned → after.rows ≡ rows_of after.slots after.bindings → AddsPolicy row before after
  adds_policy its kept made slots bindings rows =
      let same : after.bindings ≡ before.bindings = bindings ∙ same_bindings made ∙ kept.bindings in
      record {
        policies = λ u. ap (λ s. policy_held s u) slots ∙ by_url u kept made (bytes_eq row.url u) refl ∙ with_policy u (policy_in_row row) has (policy_held before.slots u);
        others = λ u. subst (λ s. others_held u s ≤ suc (others_held u before.slots)) (sym slots) (subst (λ s. others_held u (slots_after plan planned) ≤ suc (others_held u s)) kept.slots (others_after u));
        bindings = same;
        rows = record { ascend = subst (SortKeysAscend binding_sort_key) (sym same) its.ascend; rows = rows };
      }

pub adds_none : (row : CachedFile) (compiled : CompiledState) → policy_in_row row ≡ None → HasItsRows compiled → AddsPolicy row compiled compiled
adds_none row compiled none its = record {
  policies = λ u. subst (λ (o : Option Policy). policy_held compiled.slots u ≡ policy_with row.url o u (policy_held compiled.slots u)) (sym none) refl;
  others = λ u. omega arith;
  bindings = refl;
  rows = its;
}

-- ---- All files

above_one : (p : List ℕ) (xs : List CachedFile) (row : CachedFile) (ys : List CachedFile) → SortKeysAbove url_of p (xs ++ row ∷ ys) → sort_key_cmp p (url_of row) ≡ Less
above_one p [] row ys above = above.0
above_one p (x ∷ xs) row ys above = above_one p xs row ys above.1

and_then : (b : Bool) (row : CachedFile) → option_and_then policy_in_row (cond b (Some row) None) ≡ cond b (policy_in_row row) None
and_then true row = refl
and_then false row = refl

abbrev no_policy : Option Policy
no_policy = None

none_either : (b : Bool) → cond b no_policy no_policy ≡ no_policy
none_either true = refl
none_either false = refl

as_last : (url u : List ℕ) (o : Option Policy) → cond (bytes_eq url u) o None ≡ policy_with url o u None
as_last url u None = none_either (bytes_eq url u)
as_last url u (Some policy) = refl

other_url : (url u : List ℕ) (o before : Option Policy) → bytes_eq url u ≡ false → policy_with url o u before ≡ before
other_url url u None before e = refl
other_url url u (Some policy) before e = ap (λ b. cond b (Some policy) before) e

policy_last : (xs : List CachedFile) (row : CachedFile) (ys : List CachedFile) (u : List ℕ) → SortKeysAscend url_of (xs ++ row ∷ ys) → policy_of (xs ++ row ∷ []) u ≡ policy_with row.url (policy_in_row row) u (policy_of xs u)
unfolding policy_of file_at url_of
policy_last [] row ys u up = and_then (bytes_eq row.url u) row ∙ as_last row.url u (policy_in_row row)
policy_last (x ∷ xs) row ys u up = by_first (policy_last xs row ys u up.1) (bytes_eq x.url u) refl
  where
    by_first : (policy_of (xs ++ row ∷ []) u ≡ policy_with row.url (policy_in_row row) u (policy_of xs u)) → (b : Bool) → bytes_eq x.url u ≡ b → option_and_then policy_in_row (cond b (Some x) (row_at url_of u (xs ++ row ∷ []))) ≡ policy_with row.url (policy_in_row row) u (option_and_then policy_in_row (cond b (Some x) (row_at url_of u xs)))
    by_first rest true e =
        let is : x.url ≡ u = same_sort_key_exact x.url u e in
        let less : sort_key_cmp x.url row.url ≡ Less = above_one (url_of x) xs row ys up.0 in
        let other : bytes_eq row.url x.url ≡ false = same_sort_key-cmp row.url x.url Greater (sort_key_cmp_turned x.url row.url Less less) in
        sym (other_url row.url u (policy_in_row row) (policy_in_row x) (subst (λ v. bytes_eq row.url v ≡ false) is other))
    by_first rest false e = rest

split_at : (files : List CachedFile) (i : ℕ) (row : CachedFile) → i < length files → row ≡ get_or files i row → take i files ++ row ∷ drop (i + 1) files ≡ files
split_at files i row within is = rw (add-one) (ap (λ (t : List CachedFile). take i files ++ t) (sym (drop-cons files i row within ∙ ap (λ r. r ∷ drop (suc i) files) (sym is))) ∙ take-append-drop i files)

pub policy_more : (files : List CachedFile) (i : ℕ) (row : CachedFile) (u : List ℕ) → SortKeysAscend url_of files → i < length files → row ≡ get_or files i row → policy_of (take (i + 1) files) u ≡ policy_with row.url (policy_in_row row) u (policy_of (take i files) u)
policy_more files i row u up within is =
    let more : take (i + 1) files ≡ take i files ++ row ∷ [] = take_more files i row within ∙ ap (λ r. take i files ++ r ∷ []) (sym is) in
    ap (λ fs. policy_of fs u) more ∙ policy_last (take i files) row (drop (i + 1) files) u (subst (SortKeysAscend url_of) (sym (split_at files i row within is)) up)

-- ---- The policy of a row

pub no_approved : (row : CachedFile) → row.approved ≡ None → policy_in_row row ≡ None
unfolding policy_in_row
no_approved row e = ap (λ (o : Option (HeldFile × Approval)). option_and_then policy_in_approved o) e

pub approved_policy : (row : CachedFile) (held : HeldFile) (approval : Approval) (file : UsageFile) → row.approved ≡ Some (held, approval) → usage_in held.octets ≡ Some file → policy_in_row row ≡ Some file.policy
unfolding policy_in_row policy_in_held
approved_policy row held approval file e read = ap (λ (o : Option (HeldFile × Approval)). option_and_then policy_in_approved o) e ∙ ap (λ (o : Option UsageFile). option_map policy_in_file o) read

pub can_be_counted : (held : HeldFile) (file : UsageFile) → usage_in held.octets ≡ Some file → HasCounts file.policy
unfolding entries_of
can_be_counted held file read From = let few = few_outgoing held.octets file read in omega (arith, few)
can_be_counted held file read To = let few = few_incoming held.octets file read in omega (arith, few)

-- ---- No file

pub none_held : (files : List CachedFile) (slots : Slots) (u : List ℕ) → slots ≡ [] → policy_held slots u ≡ policy_of (take 0 files) u
unfolding policy_held policy_of file_at holder_from
none_held files slots u e = ap (λ s. policy_held s u) e

pub no_others : (slots : Slots) (u : List ℕ) → slots ≡ [] → others_held u slots ≤ 0
unfolding others_held
no_others slots u e = subst (λ s. others_held u s ≤ 0) (sym e) (omega arith)
