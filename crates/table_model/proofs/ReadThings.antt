-- Things that are read one after the other are sound, and sound Things can be read so.
use Rattle.std.proofs.Common.{◌≡◌, ℕ, Bool, true, false, cond, not, ◌&&◌, List, [], ◌∷◌, ◌++◌, length, Some, sym, ap, subst, ◌∙◌, arith}
use Rattle.std.specs.Prelude.{nat_lt}
use Rattle.std.specs.List.{list_any}
use Rattle.std.specs.Ordering.{is_lt}
use Rattle.std.specs.declared.cmp.Ordering.TheVariants.{Less}
use Rattle.std.proofs.lemmas.Bool.{false≢true, ltb-true, lt-ltb}
use Rattle.std.proofs.lemmas.Option.{none-some}
use Rattle.mud_base.specs.Addresses.{same_addr}
use Rattle.mud_base.specs.declared.addr.Addr.{Addr}
use Rattle.base_rows.specs.Sortable.{sort_key_cmp, same_sort_key, SortKeysAbove, SortKeysAscend, row_at, comes_last}
use Rattle.base_rows.proofs.SortableLaws.{less_from_is_lt, set_row_last, same_sort_key_itself, same_sort_key-cmp}
use Rattle.base_rows.proofs.RowSets.{Passing, found_passing, passing_found}
use Rattle.table_model.specs.declared.thing.Thing.{Thing}
use Rattle.table_model.specs.Limits.{most}
use Rattle.table_model.specs.Expiries.{has_address}
use Rattle.table_model.specs.Things.{mac_of, holds, IsKeptThing, IsSoundThings, set_thing}
use Rattle.table_model.specs.ThingItems.{may_follow}
use Rattle.table_model.proofs.RowSets.{same_addr_exact, same_addr_itself, left_of, right_of, both, not_true, is_not, any_first, any_later, any_by, any_more, fewer_before, behind_others}
use Rattle.table_model.proofs.AloneLaws.{IsApart}
use Rattle.table_model.proofs.SoundThings.{put_new}
use Rattle.table_model.proofs.Parts.{is_taken}

not_taken : (things : List Thing) (thing : Thing) → not (is_taken things thing) ≡ true → IsApart thing things
unfolding holds has_address
not_taken things thing free a q u there has_t has_u = absurd (is_not (is_taken things thing) free
    (any_more (λ r. same_addr r.0 a) (λ r. list_any (holds r.0) things) thing.leases (λ r at. passing_found mac_of (holds r.0) things q u there (subst (λ b. holds b u ≡ true) (sym (same_addr_exact r.0 a at)) has_u)) has_t))

pub sound-push : (things : List Thing) (thing : Thing) → IsSoundThings things → IsKeptThing thing → may_follow things thing ≡ true → IsSoundThings (things ++ thing ∷ [])
unfolding may_follow set_thing
sound-push things thing sound good follows =
    let last : (comes_last mac_of thing things && nat_lt (length things) most.things) ≡ true = left_of (comes_last mac_of thing things && nat_lt (length things) most.things) (not (is_taken things thing)) follows in
    subst IsSoundThings (set_row_last mac_of thing things (left_of (comes_last mac_of thing things) (nat_lt (length things) most.things) last))
    (put_new things sound thing good (not_taken things thing (right_of (comes_last mac_of thing things && nat_lt (length things) most.things) (not (is_taken things thing)) follows))
    (ltb-true (length things) most.things (right_of (comes_last mac_of thing things) (nat_lt (length things) most.things) last)))

-- ---- The other way round: each of sound Things may follow those before it

-- the row of a sort key, where others stand behind or before
at_first : (xs : List Thing) (ys : List Thing) (p : List ℕ) (u : Thing) → row_at mac_of p xs ≡ Some u → row_at mac_of p (xs ++ ys) ≡ Some u
at_first [] ys p u there = absurd (none-some u there)
at_first (x ∷ xs) ys p u there = by_test (same_sort_key (mac_of x) p) there (at_first xs ys p u)
  where
    by_test : (b : Bool) → cond b (Some x) (row_at mac_of p xs) ≡ Some u → (row_at mac_of p xs ≡ Some u → row_at mac_of p (xs ++ ys) ≡ Some u) → cond b (Some x) (row_at mac_of p (xs ++ ys)) ≡ Some u
    by_test true e rest = e
    by_test false e rest = rest e

at_last : (xs : List Thing) (t : Thing) (ys : List Thing) → comes_last mac_of t xs ≡ true → row_at mac_of (mac_of t) (xs ++ t ∷ ys) ≡ Some t
at_last [] t ys last = ap (λ b. cond b (Some t) (row_at mac_of (mac_of t) ys)) (same_sort_key_itself (mac_of t))
at_last (x ∷ xs) t ys last =
    ap (λ b. cond b (Some x) (row_at mac_of (mac_of t) (xs ++ t ∷ ys)))
    (same_sort_key-cmp (mac_of x) (mac_of t) Less (less_from_is_lt (sort_key_cmp (mac_of x) (mac_of t)) (left_of (is_lt (sort_key_cmp (mac_of x) (mac_of t))) (comes_last mac_of t xs) last)))
    ∙ at_last xs t ys (right_of (is_lt (sort_key_cmp (mac_of x) (mac_of t))) (comes_last mac_of t xs) last)

-- a Thing before it has another sort key
before_other : (xs : List Thing) (t u : Thing) → comes_last mac_of t xs ≡ true → row_at mac_of (mac_of t) xs ≡ Some u → ⊥
before_other [] t u last there = none-some u there
before_other (x ∷ xs) t u last there = before_other xs t u (right_of (is_lt (sort_key_cmp (mac_of x) (mac_of t))) (comes_last mac_of t xs) last)
    (sym (ap (λ b. cond b (Some x) (row_at mac_of (mac_of t) xs)) (same_sort_key-cmp (mac_of x) (mac_of t) Less (less_from_is_lt (sort_key_cmp (mac_of x) (mac_of t)) (left_of (is_lt (sort_key_cmp (mac_of x) (mac_of t))) (comes_last mac_of t xs) last)))) ∙ there)

-- one of the leases is of an address that one before it has
pub record Taking (xs : List Thing) (t : Thing) : Type 0 where
  pub addr : Addr
  pub own : holds addr t ≡ true
  pub other : list_any (holds addr) xs ≡ true

taking : (xs : List Thing) (t : Thing) → is_taken xs t ≡ true → Taking xs t
unfolding holds has_address
taking xs t e = among t.leases (λ a h. h) e
  where
    among : (rows : List (Addr × ℕ)) → ((a : Addr) → list_any (λ r. same_addr r.0 a) rows ≡ true → holds a t ≡ true) → list_any (λ r. list_any (holds r.0) xs) rows ≡ true → Taking xs t
    among [] has e = absurd (false≢true e)
    among (r ∷ rows) has e = any_by (λ s. list_any (holds s.0) xs) r rows
        (λ here. record { addr = r.0; own = has r.0 (any_first (λ s. same_addr s.0 r.0) r rows (same_addr_itself r.0)); other = here })
        (among rows (λ a h. has a (any_later (λ s. same_addr s.0 a) r rows h))) e

before_up : (xs ys : List Thing) → SortKeysAscend mac_of (xs ++ ys) → SortKeysAscend mac_of xs
before_up [] ys up = tt
before_up (x ∷ xs) ys up = (above xs up.0, before_up xs ys up.1)
  where
    above : (zs : List Thing) → SortKeysAbove mac_of (mac_of x) (zs ++ ys) → SortKeysAbove mac_of (mac_of x) zs
    above [] a = tt
    above (z ∷ zs) a = (a.0, above zs a.1)

pub follows-sound : (xs : List Thing) (t : Thing) (ys : List Thing) → IsSoundThings (xs ++ t ∷ ys) → may_follow xs t ≡ true
unfolding may_follow
follows-sound xs t ys sound =
    let last : comes_last mac_of t xs ≡ true = behind_others mac_of xs t ys sound.ascend in
    both (comes_last mac_of t xs && nat_lt (length xs) most.things) (not (is_taken xs t))
    (both (comes_last mac_of t xs) (nat_lt (length xs) most.things) last (lt-ltb (length xs) most.things (omega (arith, sound.few, fewer_before xs t ys))))
    (not_true (is_taken xs t) (λ e.
    let k : Taking xs t = taking xs t e in
    let u : Passing mac_of (holds k.addr) xs = found_passing mac_of (holds k.addr) xs (before_up xs (t ∷ ys) sound.ascend) k.other in
    let same : u.at ≡ mac_of t = sound.alone k.addr u.at (mac_of t) u.row t (at_first xs (t ∷ ys) u.at u.row u.there) (at_last xs t ys last) u.passes k.own in
    before_other xs t u.row last (subst (λ p. row_at mac_of p xs ≡ Some u.row) same u.there)))
