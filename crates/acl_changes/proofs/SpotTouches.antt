-- The entries of an index, as the sort keys that a change of bindings touches.
use Rattle.std.proofs.Common.{◌≡◌, ℕ, zero, suc, ◌+◌, ◌<◌, Bool, true, false, cond, List, [], ◌∷◌, ◌++◌, ◌-◌, ◌*◌, ◌≤◌, length, map, drop, get_or, Option, Some, None, slice_get, refl, sym, ap, subst, ◌∙◌, arith}
use Rattle.std.specs.Prelude.{flat_map, is_some}
use Rattle.std.specs.List.{list_any, AllByRecursion}
use Rattle.std.specs.Option.{option_map_or}
use Rattle.std.proofs.Math.Seq.{drop-cons}
use Rattle.std.proofs.lemmas.List.{map-append}
use Rattle.base_rows.specs.Sortable.{same_sort_key}
use Rattle.base_rows.proofs.AscendLaws.{both_ways}
use Rattle.base_rows.proofs.SortableLaws.{same_sort_key_itself, same_sort_key_exact}
use Rattle.base_rows.specs.Addresses.{addr_sort_key}
use Rattle.base_rows.proofs.Lists.{all-append}
use Rattle.mud_base.specs.declared.addr.Addr.{Addr}
use Rattle.mud_base.specs.declared.addr.Addr.TheVariants.{V4}
use Rattle.mud_base.specs.declared.packet.Direction.{Direction}
use Rattle.mud_base.specs.declared.packet.Direction.TheVariants.{From, To}
use Rattle.acl_model.specs.declared.binding.MemberKey.{MemberKey}
use Rattle.acl_model.specs.declared.entry.Selector.{Selector}
use Rattle.acl_model.specs.declared.entry.Entry.{Entry}
use Rattle.acl_model.specs.declared.entry.Policy.{Policy}
use Rattle.acl_model.specs.FirstMatch.{entries_of}
use Rattle.acl_model.specs.Keys.{key_of, same_key, has_key}
use Rattle.acl_model.specs.SortKeys.{member_sort_key, bound_sort_key}
use Rattle.acl_model.specs.Policies.{UrlPolicy}
use Rattle.acl_model.proofs.KeyLaws.{same_key-Decides}
use Rattle.acl_model.proofs.SortKeyLaws.{bound_sort_key_exact}
use Rattle.acl_rows.specs.declared.row.Owner.{Owner}
use Rattle.acl_rows.specs.declared.row.RowKey.{RowKey}
use Rattle.acl_rows.specs.Rows.{numbered, entry_at, member_keys}
use Rattle.acl_rows.proofs.Lists.{all_flat_map}
use Rattle.acl_rows.proofs.Sound.{numbered_sound}
use Rattle.acl_changes.specs.Touched.{row_key, entry_touch, side_touches, holder_touches}
use Rattle.acl_changes.specs.declared.group.EntrySpot.{EntrySpot}
use Rattle.acl_changes.specs.Spots.{is_keyed, spot, spot_if, entry_spots, side_spots, policy_spots}

-- ---- A key and its sort key

some_addr : Addr
some_addr = V4 0

sort_keys_same : (a b : MemberKey) → member_sort_key a ≡ member_sort_key b → a ≡ b
unfolding bound_sort_key
sort_keys_same a b e = (bound_sort_key_exact a b some_addr some_addr (ap (λ (p : List ℕ). p ++ addr_sort_key some_addr) e)).0

key_spot : (a b : MemberKey) → same_sort_key (member_sort_key a) (member_sort_key b) ≡ same_key a b
key_spot a b =
    both_ways (same_sort_key (member_sort_key a) (member_sort_key b)) (same_key a b)
    (λ e. (same_key-Decides a b).1 (sort_keys_same a b (same_sort_key_exact (member_sort_key a) (member_sort_key b) e)))
    (λ e. subst (λ (k : MemberKey). same_sort_key (member_sort_key a) (member_sort_key k) ≡ true) ((same_key-Decides a b).0 e) (same_sort_key_itself (member_sort_key a)))

option_keyed : (key : MemberKey) (o : Option MemberKey) → option_map_or (λ own. same_sort_key (member_sort_key own) (member_sort_key key)) o false ≡ option_map_or (λ own. same_key own key) o false
option_keyed key None = refl
option_keyed key (Some own) = key_spot own key

keyed_is : (url : List ℕ) (key : MemberKey) (s : Selector) → is_keyed url (member_sort_key key) s ≡ has_key url key s
unfolding is_keyed has_key
keyed_is url key s = option_keyed key (key_of url s)

any_keyed : (url : List ℕ) (key : MemberKey) (ss : List Selector) → list_any (is_keyed url (member_sort_key key)) ss ≡ list_any (has_key url key) ss
any_keyed url key ss = (λ i. list_any (λ (s : Selector). keyed_is url key s i) ss)

-- ---- The sort keys of the entries of an index

abbrev pub spot_key : Owner → Addr → EntrySpot → RowKey
spot_key owner a s = row_key owner s.side a s.number

picked : (owner : Owner) (a : Addr) (s : EntrySpot) (b : Bool) → map (spot_key owner a) (spot_if b s) ≡ cond b (spot_key owner a s ∷ []) []
unfolding spot_if
picked owner a s true = refl
picked owner a s false = refl

one_entry : (key : MemberKey) (a : Addr) (owner : Owner) (held : UrlPolicy) (side : Direction) (e : ℕ × Entry) → map (spot_key owner a) (entry_spots held.url (member_sort_key key) side e) ≡ entry_touch key a (owner, held) side e
unfolding entry_spots entry_touch
one_entry key a owner held side e =
    ap (λ (b : Bool). map (spot_key owner a) (spot_if b (spot side e.0))) (any_keyed held.url key e.1.selectors)
    ∙ picked owner a (spot side e.0) (list_any (has_key held.url key) e.1.selectors)

entries_touched : (key : MemberKey) (a : Addr) (owner : Owner) (held : UrlPolicy) (side : Direction) (es : List (ℕ × Entry)) → map (spot_key owner a) (flat_map (entry_spots held.url (member_sort_key key) side) es) ≡ flat_map (entry_touch key a (owner, held) side) es
entries_touched key a owner held side [] = refl
entries_touched key a owner held side (e ∷ es) =
    map-append (spot_key owner a) (entry_spots held.url (member_sort_key key) side e) (flat_map (entry_spots held.url (member_sort_key key) side) es)
    ∙ (λ i. one_entry key a owner held side e i ++ entries_touched key a owner held side es i)

side_touched : (key : MemberKey) (a : Addr) (owner : Owner) (held : UrlPolicy) (side : Direction) → map (spot_key owner a) (side_spots held.url (member_sort_key key) side (entries_of side held.policy)) ≡ side_touches key a (owner, held) side
unfolding side_spots side_touches
side_touched key a owner held side = entries_touched key a owner held side (numbered 1 (entries_of side held.policy))

pub spots_touched : (key : MemberKey) (a : Addr) (owner : Owner) (held : UrlPolicy) → map (spot_key owner a) (policy_spots held.url held.policy (member_sort_key key)) ≡ holder_touches key a (owner, held)
unfolding policy_spots holder_touches
spots_touched key a owner held =
    map-append (spot_key owner a) (side_spots held.url (member_sort_key key) From (entries_of From held.policy)) (side_spots held.url (member_sort_key key) To (entries_of To held.policy))
    ∙ (λ i. side_touched key a owner held From i ++ side_touched key a owner held To i)

-- ---- They stand in the policy

abbrev pub Stands : Policy → EntrySpot → Type 0
Stands policy s = is_some (entry_at s.number (entries_of s.side policy)) ≡ true

spot_stands : (policy : Policy) (s : EntrySpot) (b : Bool) → Stands policy s → AllByRecursion (Stands policy) (spot_if b s)
unfolding spot_if
spot_stands policy s true stands = (stands, tt)
spot_stands policy s false stands = tt

entry_stands : (url p : List ℕ) (policy : Policy) (side : Direction) (e : ℕ × Entry) → entry_at e.0 (entries_of side policy) ≡ Some e.1 → AllByRecursion (Stands policy) (entry_spots url p side e)
unfolding entry_spots
entry_stands url p policy side e is = spot_stands policy (spot side e.0) (list_any (is_keyed url p) e.1.selectors) (ap is_some is)

side_stand : (url p : List ℕ) (policy : Policy) (side : Direction) → AllByRecursion (Stands policy) (side_spots url p side (entries_of side policy))
unfolding side_spots
side_stand url p policy side =
    all_flat_map (Stands policy) (λ (e : ℕ × Entry). entry_at e.0 (entries_of side policy) ≡ Some e.1) (entry_spots url p side) (entry_stands url p policy side) (numbered 1 (entries_of side policy))
    (numbered_sound (entries_of side policy) 1 0 (entries_of side policy) (omega arith) (λ i. ap (slice_get (entries_of side policy)) {x = 0 + i} {y = i} (omega arith)))

all_stand : (url p : List ℕ) (policy : Policy) → AllByRecursion (Stands policy) (policy_spots url policy p)
unfolding policy_spots
all_stand url p policy =
    all-append (Stands policy) (side_spots url p From (entries_of From policy)) (side_spots url p To (entries_of To policy)) (side_stand url p policy From) (side_stand url p policy To)

stands_within : (policy : Policy) (xs : List EntrySpot) (i : ℕ) (x : EntrySpot) → AllByRecursion (Stands policy) xs → i < length xs → x ≡ get_or xs i x → Stands policy x
stands_within policy [] i x all lt is = absurd (omega arith)
stands_within policy (y ∷ ys) zero x all lt is = subst (Stands policy) (sym is) all.0
stands_within policy (y ∷ ys) (suc i) x all lt is = stands_within policy ys i x all.1 (omega arith) is

pub spot_there : (url p : List ℕ) (policy : Policy) (xs : List EntrySpot) (i : ℕ) (x : EntrySpot) → xs ≡ policy_spots url policy p → i < length xs → x ≡ get_or xs i x → Stands policy x
spot_there url p policy xs i x are lt is = stands_within policy xs i x (subst (AllByRecursion (Stands policy)) (sym are) (all_stand url p policy)) lt is

pub entry_within : (n : ℕ) (es : List Entry) → is_some (entry_at n es) ≡ true → 0 < n
unfolding entry_at
entry_within zero es e = cc
entry_within (suc k) es e = omega arith

get_within : (es : List Entry) (k : ℕ) → is_some (slice_get es k) ≡ true → k < length es
get_within [] k e = cc
get_within (x ∷ xs) zero e = omega arith
get_within (x ∷ xs) (suc k) e = (let less : k < length xs = get_within xs k e in omega arith)

pub entry_below : (n : ℕ) (es : List Entry) → is_some (entry_at n es) ≡ true → n - 1 < length es
unfolding entry_at
entry_below zero es e = cc
entry_below (suc k) es e = (let less : k < length es = get_within es k e in omega arith)

pub entry_read : (n : ℕ) (es : List Entry) (x : Entry) → 0 < n → slice_get es (n - 1) ≡ Some x → entry_at n es ≡ Some x
unfolding entry_at
entry_read zero es x low is = absurd (omega arith)
entry_read (suc k) es x low is = subst (λ (m : ℕ). slice_get es m ≡ Some x) {x = suc k - 1} {y = k} (omega arith) is

-- ---- One more entry

abbrev pub spot_read : List EntrySpot → ℕ → EntrySpot
spot_read xs i = get_or xs i (spot From 0)

any_default : (xs : List EntrySpot) (i : ℕ) (d e : EntrySpot) → i < length xs → get_or xs i d ≡ get_or xs i e
any_default [] i d e lt = absurd (omega arith)
any_default (x ∷ xs) zero d e lt = refl
any_default (x ∷ xs) (suc i) d e lt = any_default xs i d e (omega arith)

pub spot_read_is : (xs : List EntrySpot) (i : ℕ) → i < length xs → spot_read xs i ≡ get_or xs i (spot_read xs i)
spot_read_is xs i lt = any_default xs i (spot From 0) (spot_read xs i) lt

pub next_spot : (owner : Owner) (a : Addr) (xs : List EntrySpot) (i : ℕ) (x : EntrySpot) → i < length xs → x ≡ get_or xs i x → map (spot_key owner a) (drop i xs) ≡ spot_key owner a x ∷ map (spot_key owner a) (drop (i + 1) xs)
next_spot owner a xs i x lt is = ap (map (spot_key owner a)) (drop-cons xs i x lt ∙ (λ j. sym is j ∷ drop (next j) xs))
  where
    next : suc i ≡ i + 1
    next = omega arith

pub spot_most : (start middle end b k u : ℕ) (url own : List ℕ) (entry : Entry) → url ≡ own → middle ≤ start + length (member_keys url entry) * b → end ≤ middle + k → length (member_keys own entry) * b + k ≤ u → end ≤ start + u
spot_most start middle end b k u url own entry is first second fit =
    let same : length (member_keys url entry) * b ≡ length (member_keys own entry) * b = ap (λ (x : List ℕ). length (member_keys x entry) * b) is in
    omega (arith, same)
