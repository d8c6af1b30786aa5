-- The sort keys of keys, and how those of their bindings begin.
use Rattle.std.proofs.Common.{◌≡◌, ℕ, Bool, true, false, ◌&&◌, List, ◌++◌, length, take, refl, sym, ap, subst, ◌∙◌}
use Rattle.std.specs.Prelude.{nat_eq}
use Rattle.std.specs.Str.{bytes_eq}
use Rattle.std.specs.Ordering.{ordering_then}
use Rattle.std.specs.declared.cmp.Ordering.{Ordering}
use Rattle.std.specs.declared.cmp.Ordering.TheVariants.{Less}
use Rattle.std.proofs.lemmas.Bool.{false≢true, eqb-true}
use Rattle.std.proofs.lemmas.List.{take_at}
use Rattle.base_rows.specs.Sortable.{sort_key_cmp, same_sort_key, is_under}
use Rattle.base_rows.specs.Addresses.{addr_sort_key}
use Rattle.base_rows.proofs.SortableLaws.{same_sort_key_exact, same_sort_key_itself}
use Rattle.mud_base.specs.Addresses.{addr_cmp}
use Rattle.mud_base.specs.declared.addr.Addr.{Addr}
use Rattle.acl_model.specs.declared.binding.MemberKey.{MemberKey}
use Rattle.acl_model.specs.declared.binding.Binding.{Binding}
use Rattle.acl_model.specs.SortKeys.{key_kind, key_text, text_sort_key, member_sort_key, bound_sort_key, binding_sort_key}
use Rattle.acl_model.proofs.SortKeyLaws.{bound_sort_key_cmp, bound_sort_key_exact}

-- ---- Sort keys that differ

pub not_same : (p q : List ℕ) (b : Bool) → same_sort_key q p ≡ b → same_sort_key p q ≡ false → b ≡ false
not_same p q false is other = refl
not_same p q true is other = absurd (false≢true (sym other ∙ subst (λ (r : List ℕ). same_sort_key r q ≡ true) (same_sort_key_exact q p is) (same_sort_key_itself q)))

-- ---- What a binding's sort key begins with

take_front : (u v w : List ℕ) (b : Bool) → nat_eq (length u) (length v) ≡ b → (b && bytes_eq u (take (length u) (v ++ w))) ≡ (b && bytes_eq u v)
take_front u v w true e = ap (bytes_eq u) (ap (λ (n : ℕ). take n (v ++ w)) (eqb-true (length u) (length v) e) ∙ take_at v w _ refl)
take_front u v w false e = refl

-- the sort key of a binding begins with that of a key just where the binding is of the key
pub tells_text : (k : ℕ) (u : List ℕ) (b : Binding) → is_under binding_sort_key (text_sort_key k u) b ≡ same_sort_key (text_sort_key k u) (member_sort_key b.key)
unfolding text_sort_key binding_sort_key bound_sort_key member_sort_key
tells_text k u b = ap (λ (c : Bool). nat_eq k (key_kind b.key) && c) (take_front u (key_text b.key) (addr_sort_key b.addr) (nat_eq (length u) (length (key_text b.key))) refl)

pub member_sort_key_is : (key : MemberKey) → member_sort_key key ≡ text_sort_key (key_kind key) (key_text key)
unfolding member_sort_key
member_sort_key_is key = refl

pub tells_key : (key : MemberKey) (b : Binding) → is_under binding_sort_key (member_sort_key key) b ≡ same_sort_key (member_sort_key key) (member_sort_key b.key)
tells_key key b = subst (λ (t : List ℕ). is_under binding_sort_key t b ≡ same_sort_key t (member_sort_key b.key)) (sym (member_sort_key_is key)) (tells_text (key_kind key) (key_text key) b)

-- what stands at a sort key that begins so, is of the key
pub at_front : (t : List ℕ) (a : Addr) (x : Binding) → same_sort_key (binding_sort_key x) (t ++ addr_sort_key a) ≡ true → is_under binding_sort_key t x ≡ true
at_front t a x e =
    ap (λ (q : List ℕ). bytes_eq t (take (length t) q)) (same_sort_key_exact (binding_sort_key x) (t ++ addr_sort_key a) e)
    ∙ ap (bytes_eq t) (take_at t (addr_sort_key a) _ refl)
    ∙ same_sort_key_itself t

pub binding_sort_key_is : (b : Binding) → binding_sort_key b ≡ member_sort_key b.key ++ addr_sort_key b.addr
unfolding binding_sort_key bound_sort_key
binding_sort_key_is b = refl

-- ---- The order of keys decides

less_first : (k l : ℕ) (t u : List ℕ) (a b : Addr) → sort_key_cmp (text_sort_key k t) (text_sort_key l u) ≡ Less → sort_key_cmp (text_sort_key k t ++ addr_sort_key a) (text_sort_key l u ++ addr_sort_key b) ≡ Less
less_first k l t u a b less = sym (bound_sort_key_cmp k l t u a b) ∙ ap (λ (o : Ordering). ordering_then o (addr_cmp a b)) less

pub key_less : (b c : Binding) → sort_key_cmp (member_sort_key b.key) (member_sort_key c.key) ≡ Less → sort_key_cmp (binding_sort_key b) (binding_sort_key c) ≡ Less
unfolding binding_sort_key bound_sort_key member_sort_key
key_less b c less = less_first (key_kind b.key) (key_kind c.key) (key_text b.key) (key_text c.key) b.addr c.addr less

-- bindings of two keys stand at two sort keys
pub sort_keys_differ : (b c : Binding) → same_sort_key (member_sort_key b.key) (member_sort_key c.key) ≡ false → (d : Bool) → same_sort_key (binding_sort_key b) (binding_sort_key c) ≡ d → d ≡ false
unfolding binding_sort_key
sort_keys_differ b c other false is = refl
sort_keys_differ b c other true is =
    let parts : (b.key ≡ c.key) × (b.addr ≡ c.addr) = bound_sort_key_exact b.key c.key b.addr c.addr (same_sort_key_exact (binding_sort_key b) (binding_sort_key c) is) in
    absurd (false≢true (sym other ∙ ap (λ (k : MemberKey). same_sort_key (member_sort_key b.key) (member_sort_key k)) (sym parts.0) ∙ same_sort_key_itself (member_sort_key b.key)))
