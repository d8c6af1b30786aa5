-- How the entries of a key grow as selectors and entries are read.
use Rattle.std.proofs.Common.{◌≡◌, ℕ, suc, ◌+◌, ◌<◌, ◌≤◌, Bool, true, false, cond, ◌&&◌, ◌||◌, not, List, [], ◌∷◌, ◌++◌, length, take, drop, get_or, Option, Some, None, Result, Ok, Err, OnOk, refl, sym, ap, ◌∙◌, arith, append_assoc, append-nil}
use Rattle.std.specs.Prelude.{flat_map}
use Rattle.std.specs.List.{list_any}
use Rattle.std.specs.Option.{option_map, option_map_or}
use Rattle.std.proofs.Math.Seq.{drop-cons}
use Rattle.std.proofs.lemmas.List.{drop_all, take_more}
use Rattle.std.proofs.lemmas.List.Folds.{list_any-append}
use Rattle.std.proofs.lemmas.Option.{same_Some, none-some}
use Rattle.std.proofs.Math.Bool.{or-false, and-true}
use Rattle.base_rows.specs.Sortable.{same_sort_key, row_at, set_row, without_row, SortKeysAscend}
use Rattle.base_rows.proofs.SortableLaws.{same_sort_key_exact, row_at-set_row, row_at-without_row}
use Rattle.mud_base.specs.declared.packet.Direction.{Direction}
use Rattle.mud_base.specs.declared.packet.Direction.TheVariants.{From, To}
use Rattle.acl_model.specs.declared.binding.MemberKey.{MemberKey}
use Rattle.acl_model.specs.declared.entry.Selector.{Selector}
use Rattle.acl_model.specs.declared.entry.Entry.{Entry}
use Rattle.acl_model.specs.declared.entry.Policy.{Policy}
use Rattle.acl_model.specs.FirstMatch.{entries_of}
use Rattle.acl_model.specs.Keys.{key_of}
use Rattle.acl_model.specs.SortKeys.{key_kind, key_text, text_sort_key, member_sort_key}
use Rattle.acl_rows.specs.Rows.{numbered}
use Rattle.acl_changes.specs.declared.group.EntrySpot.{EntrySpot}
use Rattle.acl_changes.specs.declared.group.KeyEntries.{KeyEntries}
use Rattle.acl_changes.specs.EntryKeys.{key_parts}
use Rattle.acl_changes.specs.Spots.{is_keyed, spot_if, spot, entry_spots, side_spots, policy_spots, group_sort_key, spots_of, spots_in}

-- what follows where a call succeeds
pub on_ok_then : (A B : Type 0) {T E : Type 0} (r : Result T E) → (A → B) → OnOk r A → OnOk r B
on_ok_then A B (Ok v) f a = f a
on_ok_then A B (Err e) f a = a

-- ---- Keys of selectors

option_keyed : (kind : ℕ) (text p : List ℕ) (o : Option MemberKey) → (let q : Option (ℕ × List ℕ) = Some (kind, text) in q ≡ option_map key_parts o)
    → option_map_or (λ own. same_sort_key (member_sort_key own) p) o false ≡ same_sort_key (text_sort_key kind text) p
unfolding key_parts member_sort_key
option_keyed kind text p None is = absurd (none-some (kind, text) (sym is))
option_keyed kind text p (Some own) is = ap (λ (x : ℕ × List ℕ). same_sort_key (text_sort_key x.0 x.1) p) (sym (same_Some (kind, text) (key_kind own, key_text own) is))

pub keyed_some : (kind : ℕ) (text p url : List ℕ) (s : Selector) → (let q : Option (ℕ × List ℕ) = Some (kind, text) in q ≡ option_map key_parts (key_of url s)) → is_keyed url p s ≡ same_sort_key (text_sort_key kind text) p
unfolding is_keyed
keyed_some kind text p url s is = option_keyed kind text p (key_of url s) is

option_unkeyed : (p : List ℕ) (o : Option MemberKey) → (let q : Option (ℕ × List ℕ) = None in q ≡ option_map key_parts o) → option_map_or (λ own. same_sort_key (member_sort_key own) p) o false ≡ false
option_unkeyed p None is = refl
option_unkeyed p (Some own) is = absurd (none-some (key_parts own) is)

pub keyed_none : (p url : List ℕ) (s : Selector) → (let q : Option (ℕ × List ℕ) = None in q ≡ option_map key_parts (key_of url s)) → is_keyed url p s ≡ false
unfolding is_keyed
keyed_none p url s is = option_unkeyed p (key_of url s) is

-- ---- One more entry of a key

at_key : (q p : List ℕ) (rows : List KeyEntries) (h : KeyEntries) (s : EntrySpot) (b : Bool) → same_sort_key q p ≡ b → h.spots ≡ spots_in rows q ++ s ∷ []
    → spots_of (cond b (Some h) (cond b None (row_at group_sort_key p rows))) ≡ spots_in rows p ++ spot_if b s
unfolding spots_of spots_in spot_if
at_key q p rows h s true same spots = spots ∙ ap (λ (x : List ℕ). spots_in rows x ++ s ∷ []) (same_sort_key_exact q p same)
at_key q p rows h s false same spots = sym (append-nil (spots_in rows p))

pub added : (rows rest new : List KeyEntries) (q : List ℕ) (h : KeyEntries) (s : EntrySpot) → SortKeysAscend group_sort_key rows → group_sort_key h ≡ q → h.spots ≡ spots_in rows q ++ s ∷ []
    → rest ≡ without_row group_sort_key q rows → new ≡ set_row group_sort_key h rest → (p : List ℕ) → spots_in new p ≡ spots_in rows p ++ spot_if (same_sort_key q p) s
unfolding spots_in
added rows rest new q h s up sort_key spots without is p =
    ap (λ (xs : List KeyEntries). spots_of (row_at group_sort_key p xs)) (is ∙ ap (set_row group_sort_key h) without)
    ∙ ap spots_of (row_at-set_row group_sort_key h (without_row group_sort_key q rows) p)
    ∙ ap (λ (x : List ℕ). spots_of (cond (same_sort_key x p) (Some h) (row_at group_sort_key p (without_row group_sort_key q rows)))) sort_key
    ∙ ap (λ (o : Option KeyEntries). spots_of (cond (same_sort_key q p) (Some h) o)) (row_at-without_row group_sort_key q rows p up)
    ∙ at_key q p rows h s (same_sort_key q p) refl spots

-- ---- One more selector of an entry

pub nothing_more : (xs : List EntrySpot) (b c : Bool) (s : EntrySpot) → b ≡ false → xs ≡ xs ++ spot_if (b && not c) s
unfolding spot_if
nothing_more xs b c s is = sym (ap (λ (x : Bool). xs ++ spot_if (x && not c) s) is ∙ append-nil xs)

known_by : (xs : List EntrySpot) (url q p : List ℕ) (earlier : List Selector) (s : EntrySpot) (b : Bool) → same_sort_key q p ≡ b → list_any (is_keyed url q) earlier ≡ true
    → xs ≡ xs ++ spot_if (b && not (list_any (is_keyed url p) earlier)) s
unfolding spot_if
known_by xs url q p earlier s true same there =
    sym (ap (λ (x : Bool). xs ++ spot_if (not x) s) (ap (λ (x : List ℕ). list_any (is_keyed url x) earlier) (sym (same_sort_key_exact q p same)) ∙ there) ∙ append-nil xs)
known_by xs url q p earlier s false same there = sym (append-nil xs)

-- the key of a selector is known from an earlier one
pub known_more : (xs : List EntrySpot) (url q p : List ℕ) (earlier : List Selector) (x : Selector) (s : EntrySpot) → is_keyed url p x ≡ same_sort_key q p → list_any (is_keyed url q) earlier ≡ true
    → xs ≡ xs ++ spot_if (is_keyed url p x && not (list_any (is_keyed url p) earlier)) s
known_more xs url q p earlier x s is there =
    known_by xs url q p earlier s (same_sort_key q p) refl there
    ∙ ap (λ (b : Bool). xs ++ spot_if (b && not (list_any (is_keyed url p) earlier)) s) (sym is)

new_by : (url q p : List ℕ) (earlier : List Selector) (b : Bool) → same_sort_key q p ≡ b → list_any (is_keyed url q) earlier ≡ false → b ≡ (b && not (list_any (is_keyed url p) earlier))
new_by url q p earlier true same none = sym (ap not (ap (λ (x : List ℕ). list_any (is_keyed url x) earlier) (sym (same_sort_key_exact q p same)) ∙ none))
new_by url q p earlier false same none = refl

-- no earlier one has it
pub new_more : (xs : List EntrySpot) (url q p : List ℕ) (earlier : List Selector) (x : Selector) (s : EntrySpot) → is_keyed url p x ≡ same_sort_key q p → list_any (is_keyed url q) earlier ≡ false
    → xs ++ spot_if (same_sort_key q p) s ≡ xs ++ spot_if (is_keyed url p x && not (list_any (is_keyed url p) earlier)) s
new_more xs url q p earlier x s is none =
    ap (λ (b : Bool). xs ++ spot_if b s) (new_by url q p earlier (same_sort_key q p) refl none)
    ∙ ap (λ (b : Bool). xs ++ spot_if (b && not (list_any (is_keyed url p) earlier)) s) (sym is)

both_spots : (xs : List EntrySpot) (a b : Bool) (s : EntrySpot) → (xs ++ spot_if a s) ++ spot_if (b && not a) s ≡ xs ++ spot_if (a || b) s
unfolding spot_if
both_spots xs true true s = append-nil (xs ++ s ∷ [])
both_spots xs true false s = append-nil (xs ++ s ∷ [])
both_spots xs false b s = ap (λ (ys : List EntrySpot). ys ++ spot_if (b && true) s) (append-nil xs) ∙ ap (λ (c : Bool). xs ++ spot_if c s) (and-true b)

any_more : (f : Selector → Bool) (xs : List Selector) (i : ℕ) (x : Selector) → i < length xs → x ≡ get_or xs i x → list_any f (take (i + 1) xs) ≡ (list_any f (take i xs) || f x)
any_more f xs i x lt is =
    ap (list_any f) (take_more xs i x lt ∙ ap (λ (y : Selector). take i xs ++ y ∷ []) (sym is))
    ∙ list_any-append f (take i xs) (x ∷ [])
    ∙ ap (λ (b : Bool). list_any f (take i xs) || b) (or-false (f x))

-- so far as the selectors of an entry are read
pub selector_more : (new old first : List EntrySpot) (url p : List ℕ) (xs earlier : List Selector) (i : ℕ) (x : Selector) (s : EntrySpot) → i < length xs → x ≡ get_or xs i x → earlier ≡ take i xs
    → old ≡ first ++ spot_if (list_any (is_keyed url p) (take i xs)) s → new ≡ old ++ spot_if (is_keyed url p x && not (list_any (is_keyed url p) earlier)) s
    → new ≡ first ++ spot_if (list_any (is_keyed url p) (take (i + 1) xs)) s
selector_more new old first url p xs earlier i x s lt is front so step =
    step
    ∙ ap (λ (ys : List Selector). old ++ spot_if (is_keyed url p x && not (list_any (is_keyed url p) ys)) s) front
    ∙ ap (λ (ys : List EntrySpot). ys ++ spot_if (is_keyed url p x && not (list_any (is_keyed url p) (take i xs))) s) so
    ∙ both_spots first (list_any (is_keyed url p) (take i xs)) (is_keyed url p x) s
    ∙ ap (λ (b : Bool). first ++ spot_if b s) (sym (any_more (is_keyed url p) xs i x lt is))

-- ---- One more entry of a side

next_entry : (f : ℕ × Entry → List EntrySpot) (es : List Entry) (i : ℕ) (e : Entry) → i < length es → e ≡ get_or es i e
    → flat_map f (numbered (i + 1) (drop i es)) ≡ f (i + 1, e) ++ flat_map f (numbered (i + 1 + 1) (drop (i + 1) es))
unfolding numbered
next_entry f es i e lt is =
    ap (λ (xs : List Entry). flat_map f (numbered (i + 1) xs)) (drop-cons es i e lt ∙ (λ j. sym is j ∷ drop (next j) es))
  where
    next : suc i ≡ i + 1
    next = omega arith

-- so far as the entries of a side are read
pub entry_more : (new old all : List EntrySpot) (url p : List ℕ) (side : Direction) (es : List Entry) (i : ℕ) (e : Entry) → i < length es → e ≡ get_or es i e
    → old ++ flat_map (entry_spots url p side) (numbered (i + 1) (drop i es)) ≡ all → new ≡ old ++ entry_spots url p side (i + 1, e)
    → new ++ flat_map (entry_spots url p side) (numbered (i + 1 + 1) (drop (i + 1) es)) ≡ all
entry_more new old all url p side es i e lt is so step =
    ap (λ (ys : List EntrySpot). ys ++ flat_map (entry_spots url p side) (numbered (i + 1 + 1) (drop (i + 1) es))) step
    ∙ append_assoc old (entry_spots url p side (i + 1, e)) (flat_map (entry_spots url p side) (numbered (i + 1 + 1) (drop (i + 1) es)))
    ∙ ap (λ (ys : List EntrySpot). old ++ ys) (sym (next_entry (entry_spots url p side) es i e lt is))
    ∙ so

pub entry_step : (new old : List EntrySpot) (url p : List ℕ) (side : Direction) (n i : ℕ) (e : Entry) (selectors : List Selector) → selectors ≡ e.selectors → n ≡ i
    → new ≡ old ++ spot_if (list_any (is_keyed url p) selectors) (spot side (n + 1)) → new ≡ old ++ entry_spots url p side (i + 1, e)
unfolding entry_spots
entry_step new old url p side n i e selectors has number step = step ∙ (λ j. old ++ spot_if (list_any (is_keyed url p) (has j)) (spot side (number j + 1)))

pub entries_done : (now all : List EntrySpot) (url p : List ℕ) (side : Direction) (es : List Entry) (i : ℕ) → length es ≤ i
    → now ++ flat_map (entry_spots url p side) (numbered (i + 1) (drop i es)) ≡ all → now ≡ all
unfolding numbered
entries_done now all url p side es i past so =
    sym (append-nil now) ∙ ap (λ (xs : List Entry). now ++ flat_map (entry_spots url p side) (numbered (i + 1) xs)) (sym (drop_all i es past)) ∙ so

-- ---- Both sides

pub both_sides : (rows : List KeyEntries) (one two : List EntrySpot) (url p : List ℕ) (policy : Policy) (outgoing incoming : List Entry) → rows ≡ [] → outgoing ≡ policy.outgoing → incoming ≡ policy.incoming
    → one ≡ spots_in rows p ++ side_spots url p From outgoing → two ≡ one ++ side_spots url p To incoming → two ≡ policy_spots url policy p
unfolding policy_spots entries_of spots_in spots_of
both_sides rows one two url p policy outgoing incoming empty out in_are first second =
    second
    ∙ ap (λ (xs : List EntrySpot). xs ++ side_spots url p To incoming) first
    ∙ (λ j. (spots_in (empty j) p ++ side_spots url p From (out j)) ++ side_spots url p To (in_are j))
