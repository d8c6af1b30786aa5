-- The entries of one side are planned by halves, and those of two sides one behind the other.
use Rattle.std.proofs.Common.{◌≡◌, ℕ, zero, suc, ◌+◌, ◌*◌, ◌≤◌, ◌<◌, List, [], ◌∷◌, ◌++◌, take, drop, length, Some, refl, sym, ap, subst, ◌∙◌, arith, length-append, slice_get, get_or}
use Rattle.std.specs.Prelude.{flat_map, filter}
use Rattle.std.proofs.lemmas.Grind.{flat_map-append}
use Rattle.std.proofs.lemmas.List.{append-nil, take-append-drop}
use Rattle.std.proofs.lemmas.List.Elements.{filter-append}
use Rattle.std.proofs.lemmas.Option.{none-some}
use Rattle.mud_base.specs.declared.packet.Direction.{Direction}
use Rattle.mud_base.specs.declared.packet.Direction.TheVariants.{From, To}
use Rattle.acl_model.specs.declared.binding.Binding.{Binding}
use Rattle.acl_model.specs.declared.entry.Entry.{Entry}
use Rattle.acl_model.specs.Keys.{is_membered}
use Rattle.acl_model.specs.FirstMatch.{entries_of}
use Rattle.acl_rows.specs.declared.row.RowKey.{RowKey}
use Rattle.acl_rows.specs.Rows.{Slots, Holder, numbered, entry_at}
use Rattle.acl_changes.specs.PolicyTouched.{entry_touches, side_policy_touches, new_touches}
use Rattle.acl_changes.specs.Fresh.{Fresh, fresh_of, one_fresh, more_fresh, joined, membered_count, ArePlanned, entries_touches, StandFrom, AreSorted}
use Rattle.acl_changes.proofs.FreshJoined.{one_sorted, planned_alone}
use Rattle.acl_changes.proofs.FreshLaws.{more_fresh-append}

-- ---- Where the halves stand

get_front : (m : ℕ) (entries : List Entry) (i : ℕ) (e : Entry) → slice_get (take m entries) i ≡ Some e → slice_get entries i ≡ Some e
get_front zero entries i e is = absurd (none-some e is)
get_front (suc m) [] i e is = is
get_front (suc m) (x ∷ xs) zero e is = is
get_front (suc m) (x ∷ xs) (suc i) e is = get_front m xs i e is

get_behind : (m : ℕ) (entries : List Entry) (i : ℕ) (e : Entry) → slice_get (drop m entries) i ≡ Some e → slice_get entries (m + i) ≡ Some e
get_behind zero entries i e is = subst (λ (k : ℕ). slice_get entries k ≡ Some e) {x = i} {y = 0 + i} (omega arith) is
get_behind (suc m) [] i e is = absurd (none-some e is)
get_behind (suc m) (x ∷ xs) i e is = subst (λ (k : ℕ). slice_get (x ∷ xs) k ≡ Some e) {x = suc (m + i)} {y = suc m + i} (omega arith) (get_behind m xs i e is)

pub front_stands : (n m : ℕ) (entries front all : List Entry) → front ≡ take m entries → StandFrom n entries all → StandFrom n front all
front_stands n m entries front all is stand i e at = stand i e (get_front m entries i e (subst (λ (xs : List Entry). slice_get xs i ≡ Some e) is at))

pub behind_stands : (n m : ℕ) (entries behind all : List Entry) → behind ≡ drop m entries → StandFrom n entries all → StandFrom (n + m) behind all
behind_stands n m entries behind all is stand i e at =
    subst (λ (k : ℕ). entry_at k all ≡ Some e) {x = n + (m + i)} {y = n + m + i} (omega arith)
    (stand (m + i) e (get_behind m entries i e (subst (λ (xs : List Entry). slice_get xs i ≡ Some e) is at)))

pub one_stands : (n : ℕ) (entries : List Entry) (e : Entry) (all : List Entry) → entries ≡ e ∷ [] → StandFrom n entries all → entry_at n all ≡ Some e
one_stands n entries e all is stand =
    subst (λ (k : ℕ). entry_at k all ≡ Some e) {x = n + 0} {y = n} (omega arith)
    (stand 0 e (ap (λ (xs : List Entry). slice_get xs 0) is))

pub no_entry : (entries : List Entry) → length entries < 1 → entries ≡ []
no_entry [] few = refl
no_entry (e ∷ es) few = absurd (omega arith)

pub only_entry : (entries : List Entry) (e : Entry) → 1 ≤ length entries → length entries < 2 → e ≡ get_or entries 0 e → entries ≡ e ∷ []
only_entry [] e some few is = absurd (omega arith)
only_entry (x ∷ []) e some few is = λ i. sym is i ∷ []
only_entry (x ∷ y ∷ es) e some few is = absurd (omega arith)

pub all_stand : (entries all : List Entry) → entries ≡ all → StandFrom 1 entries all
unfolding entry_at
all_stand entries all is i e at = subst (λ (k : ℕ). entry_at k all ≡ Some e) {x = suc i} {y = 1 + i} (omega arith) (subst (λ (xs : List Entry). slice_get xs i ≡ Some e) is at)

-- ---- Their sort keys

numbered-halves : (n m : ℕ) (entries : List Entry) → numbered n entries ≡ numbered n (take m entries) ++ numbered (n + m) (drop m entries)
unfolding numbered
numbered-halves n zero entries = ap (λ (k : ℕ). numbered k entries) {x = n} {y = n + 0} (omega arith)
numbered-halves n (suc m) [] = refl
numbered-halves n (suc m) (e ∷ es) =
    ap (λ (xs : List (ℕ × Entry)). (n, e) ∷ xs) (numbered-halves (n + 1) m es ∙ ap (λ (k : ℕ). numbered (n + 1) (take m es) ++ numbered k (drop m es)) {x = n + 1 + m} {y = n + suc m} (omega arith))

count-append : (xs ys : List Entry) → membered_count (xs ++ ys) ≡ membered_count xs + membered_count ys
unfolding membered_count
count-append xs ys = ap length (filter-append is_membered xs ys) ∙ length-append (filter is_membered xs) (filter is_membered ys)

count-halves : (m : ℕ) (entries front behind : List Entry) → front ≡ take m entries → behind ≡ drop m entries → membered_count entries ≡ membered_count front + membered_count behind
count-halves m entries front behind a b = ap membered_count (sym (take-append-drop m entries) ∙ (λ i. sym a i ++ sym b i)) ∙ count-append front behind

module _ (bindings : List Binding) (h : Holder) (side : Direction) where
  touches-halves : (n m : ℕ) (entries front behind : List Entry) → front ≡ take m entries → behind ≡ drop m entries
      → entries_touches bindings h side n entries ≡ entries_touches bindings h side n front ++ entries_touches bindings h side (n + m) behind
  unfolding entries_touches
  touches-halves n m entries front behind a b =
      ap (flat_map (entry_touches bindings h.0 h.1 side)) (numbered-halves n m entries ∙ (λ i. numbered n (sym a i) ++ numbered (n + m) (sym b i)))
      ∙ flat_map-append (entry_touches bindings h.0 h.1 side) (numbered n front) (numbered (n + m) behind)

  pub no_touches : (n : ℕ) (entries : List Entry) → entries ≡ [] → entries_touches bindings h side n entries ≡ []
  unfolding entries_touches numbered
  no_touches n entries is = ap (λ (xs : List Entry). flat_map (entry_touches bindings h.0 h.1 side) (numbered n xs)) is

  pub one_touches : (n : ℕ) (entries : List Entry) (e : Entry) → entries ≡ e ∷ [] → entries_touches bindings h side n entries ≡ entry_touches bindings h.0 h.1 side (n, e)
  unfolding entries_touches numbered
  one_touches n entries e is = ap (λ (xs : List Entry). flat_map (entry_touches bindings h.0 h.1 side) (numbered n xs)) is ∙ append-nil (entry_touches bindings h.0 h.1 side (n, e))

  -- ---- Steps

  pub one_most : (n : ℕ) (entries : List Entry) (e : Entry) (start end b u : ℕ) → entries ≡ e ∷ []
      → end ≤ start + membered_count (e ∷ []) * b + length (entry_touches bindings h.0 h.1 side (n, e)) * (u + 1) → end ≤ start + membered_count entries * b + length (entries_touches bindings h side n entries) * (u + 1)
  one_most n entries e start end b u is most =
      subst (λ (xs : List Entry). end ≤ start + membered_count xs * b + length (entries_touches bindings h side n entries) * (u + 1)) (sym is)
      (subst (λ (keys : List RowKey). end ≤ start + membered_count (e ∷ []) * b + length keys * (u + 1)) (sym (one_touches n entries e is)) most)

  pub halves_read : (n m : ℕ) (entries front behind : List Entry) (start now end : ℕ) → front ≡ take m entries → behind ≡ drop m entries
      → start + length (entries_touches bindings h side n front) ≤ now → now + length (entries_touches bindings h side (n + m) behind) ≤ end → start + length (entries_touches bindings h side n entries) ≤ end
  halves_read n m entries front behind start now end a b first second =
      let long : length (entries_touches bindings h side n entries) ≡ length (entries_touches bindings h side n front) + length (entries_touches bindings h side (n + m) behind) = ap length (touches-halves n m entries front behind a b) ∙ length-append (entries_touches bindings h side n front) (entries_touches bindings h side (n + m) behind) in
      omega (arith, first, second, long)

  sum_most : (start now end c c' cs t t' ts b u : ℕ) → cs ≡ c + c' → ts ≡ t + t' → now ≤ start + c * b + t * (u + 1) → (now ≤ start + cs * b + ts * (u + 1)) × (end ≤ now + c' * b + t' * (u + 1) → end ≤ start + cs * b + ts * (u + 1))
  sum_most start now end c c' cs t t' ts b u count long first = (
    subst (λ (x : ℕ). now ≤ start + x * b + ts * (u + 1)) (sym count) (subst (λ (x : ℕ). now ≤ start + (c + c') * b + x * (u + 1)) (sym long) (omega (arith, first))),
    λ second. subst (λ (x : ℕ). end ≤ start + x * b + ts * (u + 1)) (sym count) (subst (λ (x : ℕ). end ≤ start + (c + c') * b + x * (u + 1)) (sym long) (omega (arith, first, second))),
  )

  both_most : (n m : ℕ) (entries front behind : List Entry) (start now end b u : ℕ) → front ≡ take m entries → behind ≡ drop m entries
      → now ≤ start + membered_count front * b + length (entries_touches bindings h side n front) * (u + 1)
      → (now ≤ start + membered_count entries * b + length (entries_touches bindings h side n entries) * (u + 1))
      × (end ≤ now + membered_count behind * b + length (entries_touches bindings h side (n + m) behind) * (u + 1) → end ≤ start + membered_count entries * b + length (entries_touches bindings h side n entries) * (u + 1))
  both_most n m entries front behind start now end b u a b' first =
      sum_most start now end (membered_count front) (membered_count behind) (membered_count entries) (length (entries_touches bindings h side n front)) (length (entries_touches bindings h side (n + m) behind)) (length (entries_touches bindings h side n entries)) b u
      (count-halves m entries front behind a b')
      (ap length (touches-halves n m entries front behind a b') ∙ length-append (entries_touches bindings h side n front) (entries_touches bindings h side (n + m) behind))
      first

  -- where the first half alone was planned
  pub front_most : (n m : ℕ) (entries front behind : List Entry) (start now b u : ℕ) → front ≡ take m entries → behind ≡ drop m entries
      → now ≤ start + membered_count front * b + length (entries_touches bindings h side n front) * (u + 1) → now ≤ start + membered_count entries * b + length (entries_touches bindings h side n entries) * (u + 1)
  front_most n m entries front behind start now b u a b' first = (both_most n m entries front behind start now now b u a b' first).0

  pub halves_most : (n m : ℕ) (entries front behind : List Entry) (start now end b u : ℕ) → front ≡ take m entries → behind ≡ drop m entries
      → now ≤ start + membered_count front * b + length (entries_touches bindings h side n front) * (u + 1) → end ≤ now + membered_count behind * b + length (entries_touches bindings h side (n + m) behind) * (u + 1)
      → end ≤ start + membered_count entries * b + length (entries_touches bindings h side n entries) * (u + 1)
  halves_most n m entries front behind start now end b u a b' first second = (both_most n m entries front behind start now end b u a b' first).1 second

  -- all entries of the side
  pub side_touches : (entries : List Entry) → entries ≡ entries_of side h.1.policy → entries_touches bindings h side 1 entries ≡ side_policy_touches bindings h.0 h.1 side
  unfolding entries_touches side_policy_touches
  side_touches entries is = ap (λ (es : List Entry). flat_map (entry_touches bindings h.0 h.1 side) (numbered 1 es)) is

  pub side_most : (entries : List Entry) (start end b u : ℕ) → entries ≡ entries_of side h.1.policy
      → end ≤ start + membered_count entries * b + length (entries_touches bindings h side 1 entries) * (u + 1) → end ≤ start + membered_count (entries_of side h.1.policy) * b + length (side_policy_touches bindings h.0 h.1 side) * (u + 1)
  side_most entries start end b u is most =
      subst (λ (xs : List Entry). end ≤ start + membered_count xs * b + length (side_policy_touches bindings h.0 h.1 side) * (u + 1)) is
      (subst (λ (keys : List RowKey). end ≤ start + membered_count entries * b + length keys * (u + 1)) (side_touches entries is) most)

-- ---- Their rows

module _ (slots : Slots) (bindings : List Binding) where
  all_sorted : (new : Slots) (keys : List RowKey) (s : Fresh) → AreSorted s → AreSorted (more_fresh slots bindings new keys s)
  unfolding more_fresh
  all_sorted new [] s up = up
  all_sorted new (key ∷ keys) s up = all_sorted new keys (one_fresh slots bindings new key s) (one_sorted slots bindings new key s up)

  both_in : (new : Slots) (xs ys : List RowKey) (first more fresh : Fresh) → first ≡ more_fresh slots bindings new xs (fresh_of [] []) → more ≡ more_fresh slots bindings new ys (fresh_of [] []) → fresh ≡ joined more first
      → fresh ≡ more_fresh slots bindings new (xs ++ ys) (fresh_of [] [])
  both_in new xs ys first more fresh is is' put =
      put
      ∙ ap (joined more) is
      ∙ planned_alone slots bindings new ys more (more_fresh slots bindings new xs (fresh_of [] [])) is' (all_sorted new xs (fresh_of [] []) (record { edits = tt; rows = tt }))
      ∙ sym (more_fresh-append slots bindings new xs ys (fresh_of [] []))

  module _ (h : Holder) where
    both_planned : (xs ys : List RowKey) (first more fresh : Fresh) → ArePlanned slots bindings h xs first → ArePlanned slots bindings h ys more → fresh ≡ joined more first → ArePlanned slots bindings h (xs ++ ys) fresh
    both_planned xs ys first more fresh is is' put new holds = both_in new xs ys first more fresh (is new holds) (is' new holds) put

    pub none_planned : (side : Direction) (n : ℕ) (entries : List Entry) → entries ≡ [] → ArePlanned slots bindings h (entries_touches bindings h side n entries) (fresh_of [] [])
    unfolding more_fresh
    none_planned side n entries is new holds = ap (λ (keys : List RowKey). more_fresh slots bindings new keys (fresh_of [] [])) (sym (no_touches bindings h side n entries is))

    pub one_planned : (side : Direction) (n : ℕ) (entries : List Entry) (e : Entry) (fresh : Fresh) → entries ≡ e ∷ [] → ArePlanned slots bindings h (entry_touches bindings h.0 h.1 side (n, e)) fresh → ArePlanned slots bindings h (entries_touches bindings h side n entries) fresh
    one_planned side n entries e fresh is planned = subst (λ (keys : List RowKey). ArePlanned slots bindings h keys fresh) (sym (one_touches bindings h side n entries e is)) planned

    pub halves_planned : (side : Direction) (n m : ℕ) (entries front behind : List Entry) (first more fresh : Fresh) → front ≡ take m entries → behind ≡ drop m entries
        → ArePlanned slots bindings h (entries_touches bindings h side n front) first → ArePlanned slots bindings h (entries_touches bindings h side (n + m) behind) more → fresh ≡ joined more first
        → ArePlanned slots bindings h (entries_touches bindings h side n entries) fresh
    halves_planned side n m entries front behind first more fresh a b is is' put =
        subst (λ (keys : List RowKey). ArePlanned slots bindings h keys fresh) (sym (touches-halves bindings h side n m entries front behind a b))
        (both_planned (entries_touches bindings h side n front) (entries_touches bindings h side (n + m) behind) first more fresh is is' put)

    pub side_planned : (side : Direction) (entries : List Entry) (fresh : Fresh) → entries ≡ entries_of side h.1.policy → ArePlanned slots bindings h (entries_touches bindings h side 1 entries) fresh → ArePlanned slots bindings h (side_policy_touches bindings h.0 h.1 side) fresh
    side_planned side entries fresh is planned = subst (λ (keys : List RowKey). ArePlanned slots bindings h keys fresh) (side_touches bindings h side entries is) planned

    pub sides_planned : (first more fresh : Fresh) → ArePlanned slots bindings h (side_policy_touches bindings h.0 h.1 From) first → ArePlanned slots bindings h (side_policy_touches bindings h.0 h.1 To) more → fresh ≡ joined more first
        → ArePlanned slots bindings h (new_touches bindings h.0 (Some h.1)) fresh
    unfolding new_touches
    sides_planned first more fresh is is' put = both_planned (side_policy_touches bindings h.0 h.1 From) (side_policy_touches bindings h.0 h.1 To) first more fresh is is' put
