-- Which buckets are cleared as the edits are gone through.
use Rattle.std.proofs.Common.{◌≡◌, ℕ, ◌+◌, ◌<◌, ◌≤◌, Bool, ◌⊎◌, inl, inr, List, [], ◌∷◌, ◌++◌, length, set, get_or, take, sym, ap, subst, ◌∙◌, arith}
use Rattle.std.specs.List.{AllByRecursion}
use Rattle.std.proofs.lemmas.Bool.{cases_eq, cases_lt}
use Rattle.std.proofs.lemmas.List.{take_more, take_all}
use Rattle.base_rows.proofs.Lists.{all_push}
use Rattle.base_rows.specs.declared.edit.Edit.{Edit}
use Rattle.acl_rows.specs.declared.row.Row.{Row}
use Rattle.acl_rows.specs.ByAddress.{SideRows, IsCleared, has_row, AreAddressesCleared}
use Rattle.acl_rows.proofs.Lists.{all_implied}
use Rattle.acl_buckets.specs.RowBuckets.{bucket_number}
use Rattle.acl_buckets.specs.RowParts.{row_number, Parts, part_at, IsClearedAt}
use Rattle.acl_buckets.proofs.RowPartLaws.{part_read, set_here, set_other}
use Rattle.acl_buckets.proofs.RoomLaws.{row_number_is}

-- ---- A second clearing changes nothing

module _ {A : Type 0} (p q : A → Bool) (a b c : List A) (l m n : ℕ) where
  few : IsCleared p a b l m → length b < m
  few is = elim (cases_lt (length a) l) [
    | inl less ↦ omega (arith, ap length (is.stay less), is.stays less, less)
    | inr many ↦ omega (arith, is.next many)
  ]

  pub cleared_twice : IsCleared p a b l m → IsCleared q b c m n → IsCleared p a c l n
  cleared_twice first second =
      let left : b ≡ c = sym (second.stay (few first)) in
      let next : m ≡ n = sym (second.stays (few first)) in
      subst (λ (k : ℕ). IsCleared p a c l k) next (subst (λ (xs : List A). IsCleared p a xs l m) left first)

-- ---- One bucket after the other

abbrev Cleared : Parts → Parts → ℕ → Type 0
Cleared old new k = AreAddressesCleared (part_at old k) (part_at new k)

-- each bucket is as it was or cleared; those of the edits before an index are cleared, and so is the one that was visited last
pub record AreClearing (edits : List (Edit Row)) (old new : Parts) (i visited : ℕ) : Type 0 where
  pub each : (k : ℕ) → (part_at new k ≡ part_at old k) ⊎ AreAddressesCleared (part_at old k) (part_at new k)
  pub done : AllByRecursion (IsClearedAt old new) (take i edits)
  pub here : visited < length old → AreAddressesCleared (part_at old visited) (part_at new visited)

part_cleared : (was x part : SideRows) → (x ≡ was) ⊎ AreAddressesCleared was x → AreAddressesCleared x part → AreAddressesCleared was part
part_cleared was x part so is = elim so [
  | inl same ↦ subst (λ (s : SideRows). AreAddressesCleared s part) same is
  | inr first ↦ cleared_twice (has_row was.rows) (has_row x.rows) was.room x.room part.room was.limit x.limit part.limit first is
]

module _ (edits lent : List (Edit Row)) (old new : Parts) (i visited : ℕ) (e : Edit Row) (is : lent ≡ edits) (lt : i < length lent) (read : e ≡ get_or lent i e) where
  -- one edit more
  next_done : (now : Parts) → ((k : ℕ) → Cleared old new k → Cleared old now k) → Cleared old now (row_number e.row) → AllByRecursion (IsClearedAt old new) (take i edits) → AllByRecursion (IsClearedAt old now) (take (i + 1) edits)
  next_done now more this before =
      let lt' : i < length edits = subst (λ ws. i < length ws) is lt in
      let read' : e ≡ get_or edits i e = subst (λ ws. e ≡ get_or ws i e) is read in
      subst (AllByRecursion (IsClearedAt old now)) (sym (take_more edits i e lt' ∙ ap (λ x. take i edits ++ x ∷ []) (sym read')))
      (all_push (IsClearedAt old now) (take i edits) e (all_implied (IsClearedAt old new) (IsClearedAt old now) (λ x. more (row_number x.row)) (take i edits) before) this)

  pub clearing_same : (number : ℕ) → number ≡ bucket_number e.row.owner e.row.side → number < length old → number ≡ visited → AreClearing edits old new i visited → AreClearing edits old new (i + 1) visited
  clearing_same number at within same so =
      let here : Cleared old new visited = so.here (subst (λ (k : ℕ). k < length old) same within) in
      record {
        each = so.each;
        done = next_done new (λ k so. so) (subst (Cleared old new) (sym same ∙ at ∙ sym (row_number_is e.row)) here) so.done;
        here = so.here;
      }

  pub clearing_next : (number : ℕ) (x part : SideRows) → number ≡ bucket_number e.row.owner e.row.side → number < length new → x ≡ get_or new number x → AreAddressesCleared x part → AreClearing edits old new i visited → AreClearing edits old (set new number part) (i + 1) number
  clearing_next number x part at within read' is' so =
      let now : Parts = set new number part in
      let was : x ≡ part_at new number = part_read new number x within read' in
      let cleared : AreAddressesCleared (part_at new number) part = subst (λ (s : SideRows). AreAddressesCleared s part) was is' in
      let here : Cleared old now number = subst (AreAddressesCleared (part_at old number)) (sym (set_here new number part within)) (part_cleared (part_at old number) (part_at new number) part (so.each number) cleared) in
      let more : (k : ℕ) → Cleared old new k → Cleared old now k =
      λ k before. elim (cases_eq k number) [
        | inl same ↦ subst (Cleared old now) (sym same) here
        | inr other ↦ subst (AreAddressesCleared (part_at old k)) (sym (set_other new number k part other)) before
      ] in
      record {
        each = λ k. elim (so.each k) [
          | inl same ↦ elim (cases_eq k number) [
            | inl this ↦ inr (subst (Cleared old now) (sym this) here)
            | inr other ↦ inl (set_other new number k part other ∙ same)
          ]
          | inr before ↦ inr (more k before)
        ];
        done = next_done now more (subst (Cleared old now) (at ∙ sym (row_number_is e.row)) here) so.done;
        here = λ less. here;
      }

-- before the first edit
pub clearing_none : (edits : List (Edit Row)) (old : Parts) (n : ℕ) → n ≡ length old → AreClearing edits old old 0 n
clearing_none edits old n is = record { each = λ k. inl (λ i. part_at old k); done = tt; here = λ less. absurd (omega (arith, less, is)) }

-- behind the last
pub all_cleared : (edits lent : List (Edit Row)) (old new : Parts) (i visited : ℕ) → lent ≡ edits → length lent ≤ i → AreClearing edits old new i visited → AllByRecursion (IsClearedAt old new) edits
all_cleared edits lent old new i visited is past so = subst (AllByRecursion (IsClearedAt old new)) (take_all i edits (subst (λ ws. length ws ≤ i) is past)) so.done
