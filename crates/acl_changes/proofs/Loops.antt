-- Edits of one part of the sort keys after those of another.
use Rattle.std.proofs.Common.{◌≡◌, ℕ, suc, ◌+◌, ◌*◌, ◌≤◌, ◌<◌, List, [], ◌∷◌, ◌++◌, length, length-append, drop, get_or, slice_get, Option, None, Some, refl, sym, ap, ◌∙◌, arith}
use Rattle.std.specs.Prelude.{flat_map}
use Rattle.std.proofs.Math.Seq.{drop-cons}
use Rattle.std.proofs.lemmas.Option.{slice_get_read}
use Rattle.std.proofs.lemmas.List.{drop_all, append-nil}
use Rattle.std.proofs.lemmas.List.Sums.{sum_by-append, sum_by-cons}
use Rattle.mud_base.specs.declared.addr.Addr.{Addr}
use Rattle.acl_model.specs.declared.binding.MemberKey.{MemberKey}
use Rattle.acl_model.specs.declared.binding.Binding.{Binding}
use Rattle.acl_model.specs.Policies.{UrlPolicy}
use Rattle.acl_rows.specs.declared.row.Owner.TheVariants.{Url, Default}
use Rattle.base_rows.specs.declared.edit.Edit.{Edit}
use Rattle.acl_rows.specs.declared.row.Row.{Row}
use Rattle.acl_rows.specs.Rows.{Slots, Holder, default_held, held_at, holders_from, slot_policy, held_by}
use Rattle.acl_rows.specs.declared.row.RowKey.{RowKey}
use Rattle.acl_changes.specs.Touched.{holder_touches, binding_touches, touches, with_edit, with_edits}
use Rattle.acl_changes.specs.Change.{ChangeState, after, more_edits, slot_touches}
use Rattle.acl_changes.specs.Steps.{least_step, least_steps}

pub more_edits-append : (c : ChangeState) (ts us : List RowKey) (edits : List (Edit Row)) → more_edits c (ts ++ us) edits ≡ more_edits c us (more_edits c ts edits)
unfolding more_edits with_edits
more_edits-append c [] us edits = refl
more_edits-append c (t ∷ ts) us edits = more_edits-append c ts us (with_edit c.slots c.bindings c.slots (after c) t edits)

pub length_times : (ts us : List RowKey) (u : ℕ) → length (ts ++ us) * u ≡ length ts * u + length us * u
length_times ts us u = ap (λ n. n * u) (length-append ts us) ∙ omega arith

pub least_steps-append : (rows : List Row) (ts us : List RowKey) → least_steps rows (ts ++ us) ≡ least_steps rows ts + least_steps rows us
unfolding least_steps
least_steps-append rows ts us = sum_by-append (least_step rows) ts us

pub least_steps-cons : (rows : List Row) (t : RowKey) (ts : List RowKey) → least_steps rows (t ∷ ts) ≡ least_step rows t + least_steps rows ts
unfolding least_steps
least_steps-cons rows t ts = sum_by-cons (least_step rows) t ts

pub least_steps-none : (rows : List Row) → least_steps rows [] ≡ 0
unfolding least_steps
least_steps-none rows = refl

-- ---- Slots

slot_first : (key : MemberKey) (a : Addr) (n : ℕ) (s : Option UrlPolicy) (slots : Slots) → flat_map (holder_touches key a) (holders_from n (s ∷ slots)) ≡ slot_touches key a n s ++ flat_map (holder_touches key a) (holders_from (n + 1) slots)
unfolding holders_from held_at slot_touches
slot_first key a n None slots = refl
slot_first key a n (Some held) slots = refl

pub next_slot : (key : MemberKey) (a : Addr) (slots : Slots) (i : ℕ) (slot : Option UrlPolicy) → i < length slots → slot ≡ get_or slots i slot
    → flat_map (holder_touches key a) (holders_from i (drop i slots)) ≡ slot_touches key a i slot ++ flat_map (holder_touches key a) (holders_from (i + 1) (drop (i + 1) slots))
next_slot key a slots i slot lt is =
    ap (λ (xs : Slots). flat_map (holder_touches key a) (holders_from i xs)) (drop-cons slots i slot lt ∙ (λ j. sym is j ∷ drop (next j) slots))
    ∙ one slot
  where
    next : suc i ≡ i + 1
    next = omega arith

    one : (s : Option UrlPolicy) → flat_map (holder_touches key a) (holders_from i (s ∷ drop (i + 1) slots)) ≡ slot_touches key a i s ++ flat_map (holder_touches key a) (holders_from (i + 1) (drop (i + 1) slots))
    one s = slot_first key a i s (drop (i + 1) slots)

pub slot_holds : (slots : Slots) (i : ℕ) (held : UrlPolicy) → slice_get slots i ≡ Some (Some held) → held_by slots (Url i) ≡ Some held
unfolding held_by slot_policy
slot_holds slots i held is = ap slot_policy is

pub slot_there : (slots : Slots) (i : ℕ) (slot : Option UrlPolicy) → i < length slots → slot ≡ get_or slots i slot → slice_get slots i ≡ Some slot
slot_there slots i slot lt is = slice_get_read slots (length slots) i slot refl lt is

last_from : (key : MemberKey) (a : Addr) (n : ℕ) → flat_map (holder_touches key a) (holders_from n []) ≡ holder_touches key a (Default, default_held) ++ []
unfolding holders_from
last_from key a n = refl

-- behind the slots stand the defaults
pub last_holder : (key : MemberKey) (a : Addr) (slots : Slots) (i : ℕ) (h : Holder) → length slots ≤ i → (Default, default_held) ≡ h → flat_map (holder_touches key a) (holders_from i (drop i slots)) ≡ holder_touches key a h
last_holder key a slots i h past is =
    ap (λ (xs : Slots). flat_map (holder_touches key a) (holders_from i xs)) (drop_all i slots past)
    ∙ last i
    ∙ append-nil (holder_touches key a (Default, default_held))
    ∙ ap (holder_touches key a) is
  where
    last : (n : ℕ) → flat_map (holder_touches key a) (holders_from n []) ≡ holder_touches key a (Default, default_held) ++ []
    last n = last_from key a n

-- ---- Bindings that go or come

pub next_binding : (slots : Slots) (bs : List Binding) (i : ℕ) (b : Binding) → i < length bs → b ≡ get_or bs i b → touches slots (drop i bs) ≡ binding_touches slots b ++ touches slots (drop (i + 1) bs)
unfolding touches
next_binding slots bs i b lt is = ap (λ (xs : List Binding). flat_map (binding_touches slots) xs) (drop-cons bs i b lt ∙ (λ j. sym is j ∷ drop (next j) bs))
  where
    next : suc i ≡ i + 1
    next = omega arith
