-- An entry has a live expiry at an address exactly where each of its keys has a live binding there.
use Rattle.std.proofs.Common.{◌≡◌, ℕ, ◌≤◌, ◌<◌, ◌⊎◌, inl, inr, Bool, true, false, cond, ◌&&◌, ◌||◌, min, List, [], ◌∷◌, Option, Some, None, refl, sym, ap, ◌∙◌, arith}
use Rattle.std.specs.Prelude.{find, not, nat_lt}
use Rattle.std.specs.Option.{is_some, option_map, option_map_or, option_and_then}
use Rattle.std.specs.List.{list_any, list_all, filter_map, cons_option}
use Rattle.std.specs.declared.cmp.Ordering.TheVariants.{Less, Equal}
use Rattle.std.proofs.lemmas.Bool.{false≢true, lt-ltb, ltb-true, false_from_ne_true}
use Rattle.std.specs.Cmp.{first_so, second_so}
use Rattle.std.proofs.Math.Bool.{or-false, and-true, and_assoc, and_comm}
use Rattle.base_rows.specs.Sortable.{sort_key_cmp, SortKeysAbove, SortKeysAscend}
use Rattle.base_rows.proofs.SortableLaws.{sort_key_cmp_itself}
use Rattle.base_rows.proofs.AscendLaws.{both_ways}
use Rattle.base_rows.proofs.ListTests.{or_first, or_second}
use Rattle.mud_base.specs.Addresses.{same_addr}
use Rattle.mud_base.specs.declared.addr.Addr.{Addr}
use Rattle.acl_model.specs.declared.entry.Selector.{Selector}
use Rattle.acl_model.specs.declared.entry.Entry.{Entry}
use Rattle.acl_model.specs.declared.binding.MemberKey.{MemberKey}
use Rattle.acl_model.specs.declared.binding.Binding.{Binding}
use Rattle.acl_model.specs.Keys.{key_of, is_member, is_membered, same_key}
use Rattle.acl_model.specs.Match.{is_in_family}
use Rattle.acl_model.proofs.KeyLaws.{same_key-Decides, is_some-key_of}
use Rattle.acl_model.specs.SortKeys.{bound_sort_key, binding_sort_key}
use Rattle.acl_model.specs.Changes.{until_of, is_bound_to, bound_until}
use Rattle.acl_rows.specs.Rows.{for_ever, member_keys, least_expiry, entry_expiry}
use Rattle.acl_model.proofs.BindingLaws.{same_addr-Decides}
use Rattle.table_model.specs.Expiries.{is_live}
use Rattle.table_model.specs.Bindings.{is_met_by, has_live_binding, key_met, selector_met, members_met}
use Rattle.packet_judge.proofs.Least.{le_or_gt}

-- ---- Live expiries

unfoldable pub live_expiry : ℕ → Option ℕ → Bool
live_expiry now o = option_map_or (λ u. is_live u now) o false

pub bound_at : (key : MemberKey) (a : Addr) (b : Binding) → is_bound_to key a b ≡ true → binding_sort_key b ≡ bound_sort_key key a
unfolding is_bound_to binding_sort_key
bound_at key a b e =
    let of_key : b.key ≡ key = sym ((same_key-Decides key b.key).0 (first_so (same_key key b.key) (same_addr a b.addr) e)) in
    let at : b.addr ≡ a = sym ((same_addr-Decides a b.addr).0 (second_so (same_key key b.key) (same_addr a b.addr) e)) in
    λ i. bound_sort_key (of_key i) (at i)

key_turned : (key own : MemberKey) → same_key own key ≡ same_key key own
key_turned key own = both_ways (same_key own key) (same_key key own) (λ e. (same_key-Decides key own).1 (sym ((same_key-Decides own key).0 e))) (λ e. (same_key-Decides own key).1 (sym ((same_key-Decides key own).0 e)))

addr_turned : (a b : Addr) → same_addr b a ≡ same_addr a b
addr_turned a b = both_ways (same_addr b a) (same_addr a b) (λ e. (same_addr-Decides a b).1 (sym ((same_addr-Decides b a).0 e))) (λ e. (same_addr-Decides b a).1 (sym ((same_addr-Decides a b).0 e)))

met_bound : (key : MemberKey) (a : Addr) (now : ℕ) (b : Binding) → is_met_by key a now b ≡ (is_bound_to key a b && is_live b.until now)
unfolding is_met_by is_bound_to
met_bound key a now b =
    (λ i. key_turned key b.key i && (addr_turned a b.addr i && is_live b.until now))
    ∙ sym (and_assoc (same_key key b.key) (same_addr a b.addr) (is_live b.until now))

less≢equal : Less ≡ Equal → ⊥
less≢equal e = cc

-- behind the sort key of a key and address no binding of them stands
none_above : (key : MemberKey) (a : Addr) (now : ℕ) (p : List ℕ) (bs : List Binding) → p ≡ bound_sort_key key a → SortKeysAbove binding_sort_key p bs → list_any (is_met_by key a now) bs ≡ false
none_above key a now p [] is above = refl
none_above key a now p (b ∷ bs) is above =
    let no : is_met_by key a now b ≡ false = false_from_ne_true (is_met_by key a now b) (λ met.
    let bound : is_bound_to key a b ≡ true = first_so (is_bound_to key a b) (is_live b.until now) (sym (met_bound key a now b) ∙ met) in
    less≢equal (sym above.0 ∙ ap (sort_key_cmp p) (bound_at key a b bound ∙ sym is) ∙ sort_key_cmp_itself p)) in
    ap (λ c. c || list_any (is_met_by key a now) bs) no ∙ none_above key a now p bs is above.1

live_by : (key : MemberKey) (a : Addr) (now : ℕ) (b : Binding) (bs : List Binding) → SortKeysAbove binding_sort_key (binding_sort_key b) bs → list_any (is_met_by key a now) bs ≡ live_expiry now (option_map until_of (find (is_bound_to key a) bs))
    → (c : Bool) → is_bound_to key a b ≡ c → (is_met_by key a now b || list_any (is_met_by key a now) bs) ≡ live_expiry now (option_map until_of (cond c (Some b) (find (is_bound_to key a) bs)))
unfolding live_expiry until_of
live_by key a now b bs above rest true e =
    ap (λ t. is_met_by key a now b || t) (none_above key a now (binding_sort_key b) bs (bound_at key a b e) above)
    ∙ or-false (is_met_by key a now b)
    ∙ met_bound key a now b
    ∙ ap (λ t. t && is_live b.until now) e
live_by key a now b bs above rest false e =
    ap (λ t. t || list_any (is_met_by key a now) bs) (met_bound key a now b ∙ ap (λ t. t && is_live b.until now) e) ∙ rest

-- where each key and address has one binding, its expiry tells
pub has_live-end : (bindings : List Binding) (key : MemberKey) (a : Addr) (now : ℕ) → SortKeysAscend binding_sort_key bindings → has_live_binding bindings key a now ≡ live_expiry now (bound_until bindings key a)
unfolding has_live_binding bound_until live_expiry
has_live-end [] key a now ascend = refl
has_live-end (b ∷ bs) key a now ascend = live_by key a now b bs ascend.0 (has_live-end bs key a now ascend.1) (is_bound_to key a b) refl

live_less : (m n now : ℕ) → m ≤ n → is_live m now ≡ (is_live m now && is_live n now)
unfolding is_live
live_less m n now le = by (le_or_gt m now)
  where
    by : (m ≤ now) ⊎ (now < m) → nat_lt now m ≡ (nat_lt now m && nat_lt now n)
    by (inl old) = let no : nat_lt now m ≡ false = false_from_ne_true (nat_lt now m) (λ e. let lt : now < m = ltb-true now m e in absurd (omega arith)) in ap (λ (b : Bool). b) no ∙ ap (λ (b : Bool). b && nat_lt now n) (sym no)
    by (inr live) = lt-ltb now m live ∙ sym (ap (λ (b : Bool). b && nat_lt now n) (lt-ltb now m live) ∙ lt-ltb now n (omega arith))

live-min : (m n now : ℕ) → is_live (min m n) now ≡ (is_live m now && is_live n now)
live-min m n now = by (le_or_gt m n)
  where
    by : (m ≤ n) ⊎ (n < m) → is_live (min m n) now ≡ (is_live m now && is_live n now)
    by (inl le) = let is : min m n ≡ m = omega arith in ap (λ (k : ℕ). is_live k now) is ∙ live_less m n now le
    by (inr lt) = let is : min m n ≡ n = omega arith in ap (λ (k : ℕ). is_live k now) is ∙ live_less n m now (omega arith) ∙ and_comm (is_live n now) (is_live m now)

and_false : (x : Bool) → false ≡ (x && false)
and_false true = refl
and_false false = refl

abbrev has_live : List Binding → Addr → ℕ → MemberKey → Bool
has_live bindings a now key = has_live_binding bindings key a now

least_by : (bindings : List Binding) (a : Addr) (now m : ℕ) (key : MemberKey) (keys : List MemberKey) → ((k : ℕ) → live_expiry now (least_expiry bindings a k keys) ≡ (is_live k now && list_all (has_live bindings a now) keys))
    → (o : Option ℕ) → has_live bindings a now key ≡ live_expiry now o → live_expiry now (option_and_then (λ (end : ℕ). least_expiry bindings a (min m end) keys) o) ≡ (is_live m now && (has_live bindings a now key && list_all (has_live bindings a now) keys))
unfolding live_expiry
least_by bindings a now m key keys rest None e = and_false (is_live m now) ∙ ap (λ (b : Bool). is_live m now && (b && list_all (has_live bindings a now) keys)) (sym e)
least_by bindings a now m key keys rest (Some u) e =
    rest (min m u)
    ∙ ap (λ (b : Bool). b && list_all (has_live bindings a now) keys) (live-min m u now)
    ∙ and_assoc (is_live m now) (is_live u now) (list_all (has_live bindings a now) keys)
    ∙ ap (λ (b : Bool). is_live m now && (b && list_all (has_live bindings a now) keys)) (sym e)

-- the least expiry is live where each is
pub live-least_expiry : (bindings : List Binding) → SortKeysAscend binding_sort_key bindings → (a : Addr) (now m : ℕ) (keys : List MemberKey) → live_expiry now (least_expiry bindings a m keys) ≡ (is_live m now && list_all (has_live bindings a now) keys)
unfolding least_expiry live_expiry
live-least_expiry bindings ascend a now m [] = by (is_live m now)
  where
    by : (b : Bool) → b ≡ (b && true)
    by true = refl
    by false = refl
live-least_expiry bindings ascend a now m (key ∷ keys) =
    least_by bindings a now m key keys (λ k. live-least_expiry bindings ascend a now k keys) (bound_until bindings key a) (has_live-end bindings key a now ascend)

-- ---- Keys and selectors

keys_by : (bindings : List Binding) (a : Addr) (now : ℕ) (keys : List MemberKey) (rest : Bool) → list_all (has_live bindings a now) keys ≡ rest → (o : Option MemberKey) → list_all (has_live bindings a now) (cons_option o keys) ≡ (key_met bindings o a now && rest)
unfolding key_met
keys_by bindings a now keys rest e None = e
keys_by bindings a now keys rest e (Some key) = ap (λ (b : Bool). has_live bindings a now key && b) e

pub keys_met : (bindings : List Binding) (url : List ℕ) (a : Addr) (now : ℕ) (ss : List Selector) → list_all (has_live bindings a now) (filter_map (key_of url) ss) ≡ list_all (selector_met bindings url a now) ss
unfolding selector_met
keys_met bindings url a now [] = refl
keys_met bindings url a now (s ∷ ss) = keys_by bindings a now (filter_map (key_of url) ss) (list_all (selector_met bindings url a now) ss) (keys_met bindings url a now ss) (key_of url s)

wide_by : (bindings : List Binding) (a : Addr) (now : ℕ) (rest : Bool) (o : Option MemberKey) → is_some o ≡ false → rest ≡ true → (key_met bindings o a now && rest) ≡ true
unfolding key_met
wide_by bindings a now rest None none e = e
wide_by bindings a now rest (Some key) none e = absurd (false≢true (sym none))

-- an entry with no member selector asks for no binding
wide_met : (bindings : List Binding) (url : List ℕ) (a : Addr) (now : ℕ) (ss : List Selector) → list_any is_member ss ≡ false → list_all (selector_met bindings url a now) ss ≡ true
unfolding selector_met
wide_met bindings url a now [] none = refl
wide_met bindings url a now (s ∷ ss) none =
    wide_by bindings a now (list_all (selector_met bindings url a now) ss) (key_of url s) (is_some-key_of url s ∙ or_first (is_member s) (list_any is_member ss) none) (wide_met bindings url a now ss (or_second (is_member s) (list_any is_member ss) none))

-- ---- An entry

both_false : (x y z : Bool) → ((x && false) || (y && false)) ≡ (z && false)
both_false true true true = refl
both_false true true false = refl
both_false true false true = refl
both_false true false false = refl
both_false false true true = refl
both_false false true false = refl
both_false false false true = refl
both_false false false false = refl

entry_by : (bindings : List Binding) → SortKeysAscend binding_sort_key bindings → (url : List ℕ) (entry : Entry) (a : Addr) (now : ℕ) → now < for_ever → (p : Bool) → (p ≡ true → is_in_family entry.family a ≡ true) → (q membered : Bool) → p ≡ q → is_membered entry ≡ membered
    → ((live_expiry now (cond (membered && is_in_family entry.family a) (least_expiry bindings a for_ever (member_keys url entry)) None) && q) || (not membered && q)) ≡ (members_met bindings url entry a now && q)
unfolding members_met member_keys is_membered live_expiry is_live
entry_by bindings ascend url entry a now small p family false membered e is = both_false _ (not membered) _
entry_by bindings ascend url entry a now small p family true true e is =
    or-false _ ∙ ap (λ (b : Bool). b && true)
    (ap (λ (b : Bool). live_expiry now (cond b (least_expiry bindings a for_ever (member_keys url entry)) None)) (family e)
    ∙ live-least_expiry bindings ascend a now for_ever (member_keys url entry)
    ∙ ap (λ (b : Bool). b && list_all (has_live bindings a now) (member_keys url entry)) (lt-ltb now for_ever small)
    ∙ keys_met bindings url a now entry.selectors)
entry_by bindings ascend url entry a now small p family true false e is = sym (and-true _ ∙ wide_met bindings url a now entry.selectors is)

-- a live expiry, or no member selector, is what the bindings say, where the other tests ask for the family
pub entry_alike : (bindings : List Binding) → SortKeysAscend binding_sort_key bindings → (url : List ℕ) (entry : Entry) (a : Addr) (now : ℕ) → now < for_ever → (p : Bool) → (p ≡ true → is_in_family entry.family a ≡ true)
    → ((live_expiry now (entry_expiry bindings url entry a) && p) || (not (is_membered entry) && p)) ≡ (members_met bindings url entry a now && p)
unfolding entry_expiry
entry_alike bindings ascend url entry a now small p family = entry_by bindings ascend url entry a now small p family p (is_membered entry) refl refl
