-- The entries of a policy and the numbers of its wide ones.
use Rattle.std.proofs.Common.{◌≡◌, ℕ, suc, ◌+◌, ◌<◌, ◌≤◌, Bool, true, false, cond, List, [], ◌∷◌, ◌++◌, length, drop, get_or, refl, sym, ap, ◌∙◌, arith, append_assoc, append-nil}
use Rattle.std.proofs.Math.Seq.{drop-cons}
use Rattle.std.proofs.lemmas.List.{drop_all}
use Rattle.mud_base.specs.declared.packet.Direction.TheVariants.{From, To}
use Rattle.acl_model.specs.declared.entry.Entry.{Entry}
use Rattle.acl_model.specs.declared.entry.Policy.{Policy}
use Rattle.acl_model.specs.Keys.{is_membered}
use Rattle.acl_model.specs.FirstMatch.{entries_of}
use Rattle.acl_model.specs.Defaults.{default_policy}
use Rattle.acl_rows.specs.declared.row.Owner.{Owner}
use Rattle.acl_rows.specs.declared.row.Row.{Row}
use Rattle.acl_rows.specs.View.{part, wide_from, rows_of_side, IsPartOf}
use Rattle.acl_changes.specs.Policies.{HasCounts, HasWide}

pub counts_of : (policy : Policy) (outgoing incoming : List ℕ) → HasWide policy outgoing incoming → HasCounts policy
unfolding entries_of
counts_of policy outgoing incoming has From = has.outgoing_counts
counts_of policy outgoing incoming has To = has.incoming_counts

pub outgoing_count : (policy : Policy) → HasCounts policy → length policy.outgoing ≤ 65535
unfolding entries_of
outgoing_count policy counts = counts From

pub incoming_count : (policy : Policy) → HasCounts policy → length policy.incoming ≤ 65535
unfolding entries_of
incoming_count policy counts = counts To

wide_first : (n : ℕ) (e : Entry) (es : List Entry) (b : Bool) → is_membered e ≡ b → wide_from n (e ∷ es) ≡ cond b (wide_from (n + 1) es) (n ∷ wide_from (n + 1) es)
unfolding wide_from
wide_first n e es b is = ap (λ (c : Bool). cond c (wide_from (n + 1) es) (n ∷ wide_from (n + 1) es)) is

pub next_wide : (es : List Entry) (i : ℕ) (e : Entry) → i < length es → e ≡ get_or es i e → (b : Bool) → is_membered e ≡ b → wide_from (i + 1) (drop i es) ≡ cond b (wide_from (i + 1 + 1) (drop (i + 1) es)) ((i + 1) ∷ wide_from (i + 1 + 1) (drop (i + 1) es))
next_wide es i e lt is b membered =
    ap (wide_from (i + 1)) (drop-cons es i e lt ∙ (λ j. sym is j ∷ drop (next j) es))
    ∙ wide_first (i + 1) e (drop (i + 1) es) b membered
  where
    next : suc i ≡ i + 1
    next = omega arith

-- so far as the entries are read, their numbers are found
pub wide_more : (es : List Entry) (i : ℕ) (e : Entry) (numbers : List ℕ) → i < length es → e ≡ get_or es i e → numbers ++ wide_from (i + 1) (drop i es) ≡ wide_from 1 es
    → (is_membered e ≡ true → numbers ++ wide_from (i + 1 + 1) (drop (i + 1) es) ≡ wide_from 1 es)
    × (is_membered e ≡ false → (numbers ++ (i + 1) ∷ []) ++ wide_from (i + 1 + 1) (drop (i + 1) es) ≡ wide_from 1 es)
wide_more es i e numbers lt is far = (
  λ m. ap (λ (ns : List ℕ). numbers ++ ns) (sym (next_wide es i e lt is true m)) ∙ far,
  λ m. append_assoc numbers ((i + 1) ∷ []) (wide_from (i + 1 + 1) (drop (i + 1) es)) ∙ ap (λ (ns : List ℕ). numbers ++ ns) (sym (next_wide es i e lt is false m)) ∙ far,
)

pub wide_all : (es : List Entry) (i : ℕ) (numbers : List ℕ) → length es ≤ i → numbers ++ wide_from (i + 1) (drop i es) ≡ wide_from 1 es → numbers ≡ wide_from 1 es
unfolding wide_from
wide_all es i numbers past far =
    sym (append-nil numbers) ∙ ap (λ (xs : List Entry). numbers ++ wide_from (i + 1) xs) (sym (drop_all i es past)) ∙ far

pub part_from : (rows bucket : List Row) (owner : Owner) (policy : Policy) (outgoing incoming wide : List ℕ) (es : List Entry) → bucket ≡ rows_of_side owner From rows → HasWide policy outgoing incoming → es ≡ policy.outgoing → wide ≡ outgoing
    → IsPartOf rows From owner policy (part From es wide bucket (length bucket))
unfolding entries_of
part_from rows bucket owner policy outgoing incoming wide es own has is numbers = record { side_is = refl; entries = is; wide = numbers ∙ has.outgoing_is; rows_are = own; among = omega arith }

pub part_to : (rows bucket : List Row) (owner : Owner) (policy : Policy) (outgoing incoming wide : List ℕ) (es : List Entry) → bucket ≡ rows_of_side owner To rows → HasWide policy outgoing incoming → es ≡ policy.incoming → wide ≡ incoming
    → IsPartOf rows To owner policy (part To es wide bucket (length bucket))
unfolding entries_of
part_to rows bucket owner policy outgoing incoming wide es own has is numbers = record { side_is = refl; entries = is; wide = numbers ∙ has.incoming_is; rows_are = own; among = omega arith }

pub default_counts : HasCounts default_policy
unfolding entries_of
default_counts From = omega arith
default_counts To = omega arith

pub counts_both : (policy : Policy) → length policy.outgoing ≤ 65535 → length policy.incoming ≤ 65535 → HasCounts policy
unfolding entries_of
counts_both policy outgoing incoming From = outgoing
counts_both policy outgoing incoming To = incoming
