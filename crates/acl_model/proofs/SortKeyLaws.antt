-- How the sort keys of bindings stand to one another, field by field.
use Rattle.std.proofs.Common.{◌≡◌, ℕ, true, false, List, [], ◌∷◌, ◌++◌, length, refl, sym, ap, ◌∙◌, arith}
use Rattle.std.specs.Ordering.{nat_cmp, ordering_then, is_ne}
use Rattle.std.specs.Cmp.Lexicographic.{slice_cmp}
use Rattle.std.specs.declared.cmp.Ordering.{Ordering}
use Rattle.std.specs.declared.cmp.Ordering.TheVariants.{Less, Equal, Greater}
use Rattle.std.proofs.lemmas.Cmp.{ranked}
use Rattle.base_rows.specs.Sortable.{sort_key_cmp, prefix_cmp, same_sort_key, without_row, SortKeysAscend}
use Rattle.base_rows.specs.Addresses.{addr_sort_key}
use Rattle.base_rows.proofs.AddressLaws.{addr_cmp-sort_key, addr_sort_key_exact}
use Rattle.base_rows.proofs.AscendLaws.{both_ways}
use Rattle.base_rows.proofs.SortableLaws.{same_sort_key_exact, same_sort_key_itself, ascend-without_row}
use Rattle.base_rows.proofs.Orders.{then_assoc}
use Rattle.mud_base.specs.Addresses.{addr_cmp}
use Rattle.mud_base.specs.declared.addr.Addr.{Addr}
use Rattle.acl_model.specs.declared.binding.MemberKey.{MemberKey}
use Rattle.acl_model.specs.declared.binding.MemberKey.TheVariants.{Host, Model, Class, Mine, Name}
use Rattle.acl_model.specs.declared.binding.Binding.{Binding}
use Rattle.acl_model.specs.Changes.{same_spot, without_bindings}
use Rattle.acl_model.specs.SortKeys.{key_kind, key_text, text_sort_key, member_sort_key, bound_sort_key, binding_sort_key}
use Rattle.acl_model.proofs.BindingLaws.{IsSameSpot, same_spot_exact, same_spot_of}

-- ---- Orders one after the other

-- lists of one length decide before what follows them
cmp_front : (xs ys us vs : List ℕ) → length xs ≡ length ys → slice_cmp nat_cmp (xs ++ us) (ys ++ vs) ≡ ordering_then (slice_cmp nat_cmp xs ys) (slice_cmp nat_cmp us vs)
cmp_front [] [] us vs long = refl
cmp_front [] (y ∷ ys) us vs long = absurd (omega arith)
cmp_front (x ∷ xs) [] us vs long = absurd (omega arith)
cmp_front (x ∷ xs) (y ∷ ys) us vs long = ap (ordering_then (nat_cmp x y)) (cmp_front xs ys us vs (omega arith)) ∙ sym (then_assoc (nat_cmp x y) (slice_cmp nat_cmp xs ys) (slice_cmp nat_cmp us vs))

-- a list against a beginning as long as itself
prefix_front : (xs ys vs : List ℕ) → length xs ≡ length ys → prefix_cmp xs (ys ++ vs) ≡ slice_cmp nat_cmp xs ys
prefix_front [] [] vs long = refl
prefix_front [] (y ∷ ys) vs long = absurd (omega arith)
prefix_front (x ∷ xs) [] vs long = absurd (omega arith)
prefix_front (x ∷ xs) (y ∷ ys) vs long = ap (ordering_then (nat_cmp x y)) (prefix_front xs ys vs (omega arith))

-- ---- Sort keys

pub text_sort_key_cmp : (k l : ℕ) (t u : List ℕ) → ordering_then (ordering_then (nat_cmp k l) (nat_cmp (length t) (length u))) (slice_cmp nat_cmp t u) ≡ sort_key_cmp (text_sort_key k t) (text_sort_key l u)
unfolding text_sort_key
text_sort_key_cmp k l t u = then_assoc (nat_cmp k l) (nat_cmp (length t) (length u)) (slice_cmp nat_cmp t u)

front_stays : (o r : Ordering) → is_ne o ≡ true → o ≡ ordering_then o r
front_stays Less r e = refl
front_stays Equal r e = cc
front_stays Greater r e = refl

front_passes : (o r : Ordering) → is_ne o ≡ false → r ≡ ordering_then o r
front_passes Less r e = cc
front_passes Equal r e = refl
front_passes Greater r e = cc

-- where the kinds or the lengths differ, they decide
pub front_decides : (k l : ℕ) (t u : List ℕ) (front : Ordering) → front ≡ ordering_then (nat_cmp k l) (nat_cmp (length t) (length u)) → is_ne front ≡ true → front ≡ sort_key_cmp (text_sort_key k t) (text_sort_key l u)
front_decides k l t u front is ne = front_stays front (slice_cmp nat_cmp t u) ne ∙ ap (λ (o : Ordering). ordering_then o (slice_cmp nat_cmp t u)) is ∙ text_sort_key_cmp k l t u

-- else the texts do
pub front_ties : (k l : ℕ) (t u : List ℕ) (front : Ordering) → front ≡ ordering_then (nat_cmp k l) (nat_cmp (length t) (length u)) → is_ne front ≡ false → slice_cmp nat_cmp t u ≡ sort_key_cmp (text_sort_key k t) (text_sort_key l u)
front_ties k l t u front is ties = front_passes front (slice_cmp nat_cmp t u) ties ∙ ap (λ (o : Ordering). ordering_then o (slice_cmp nat_cmp t u)) is ∙ text_sort_key_cmp k l t u

addr_sort_key_cmp : (a b : Addr) → slice_cmp nat_cmp (addr_sort_key a) (addr_sort_key b) ≡ addr_cmp a b
addr_sort_key_cmp a b = sym (addr_cmp-sort_key a b)

by_length : (t u : List ℕ) (a b : Addr) (o : Ordering) → nat_cmp (length t) (length u) ≡ o → ordering_then o (slice_cmp nat_cmp (t ++ addr_sort_key a) (u ++ addr_sort_key b)) ≡ ordering_then o (ordering_then (slice_cmp nat_cmp t u) (addr_cmp a b))
by_length t u a b Less e = refl
by_length t u a b Equal e = cmp_front t u (addr_sort_key a) (addr_sort_key b) (ranked (length t) (length u) Equal (sym e)) ∙ ap (ordering_then (slice_cmp nat_cmp t u)) (addr_sort_key_cmp a b)
by_length t u a b Greater e = refl

-- the key decides before the address
pub bound_sort_key_cmp : (k l : ℕ) (t u : List ℕ) (a b : Addr) → ordering_then (sort_key_cmp (text_sort_key k t) (text_sort_key l u)) (addr_cmp a b) ≡ sort_key_cmp (text_sort_key k t ++ addr_sort_key a) (text_sort_key l u ++ addr_sort_key b)
unfolding text_sort_key
bound_sort_key_cmp k l t u a b =
    then_assoc (nat_cmp k l) (ordering_then (nat_cmp (length t) (length u)) (slice_cmp nat_cmp t u)) (addr_cmp a b)
    ∙ ap (ordering_then (nat_cmp k l)) (then_assoc (nat_cmp (length t) (length u)) (slice_cmp nat_cmp t u) (addr_cmp a b) ∙ sym (by_length t u a b (nat_cmp (length t) (length u)) refl))

prefix_by_length : (t u vs : List ℕ) (o : Ordering) → nat_cmp (length t) (length u) ≡ o → ordering_then o (prefix_cmp t (u ++ vs)) ≡ ordering_then o (slice_cmp nat_cmp t u)
prefix_by_length t u vs Less e = refl
prefix_by_length t u vs Equal e = prefix_front t u vs (ranked (length t) (length u) Equal (sym e))
prefix_by_length t u vs Greater e = refl

-- a key against the sort key of a binding: as its sort key stands to that of the binding's key
pub text_sort_key_prefix : (k l : ℕ) (t u : List ℕ) (a : Addr) → prefix_cmp (text_sort_key k t) (text_sort_key l u ++ addr_sort_key a) ≡ sort_key_cmp (text_sort_key k t) (text_sort_key l u)
unfolding text_sort_key
text_sort_key_prefix k l t u a = ap (ordering_then (nat_cmp k l)) (prefix_by_length t u (addr_sort_key a) (nat_cmp (length t) (length u)) refl)

-- ---- A sort key tells the key and the address

pub record AreSameParts (xs ys us vs : List ℕ) : Type 0 where
  pub first : xs ≡ ys
  pub second : us ≡ vs

same_fronts : (xs ys us vs : List ℕ) → length xs ≡ length ys → xs ++ us ≡ ys ++ vs → AreSameParts xs ys us vs
same_fronts [] [] us vs long e = record { first = refl; second = e }
same_fronts [] (y ∷ ys) us vs long e = absurd (omega arith)
same_fronts (x ∷ xs) [] us vs long e = absurd (omega arith)
same_fronts (x ∷ xs) (y ∷ ys) us vs long e =
    let head : x ≡ y = cc in
    let rest : xs ++ us ≡ ys ++ vs = cc in
    let parts : AreSameParts xs ys us vs = same_fronts xs ys us vs (omega arith) rest in
    record { first = ap (λ z. z ∷ xs) head ∙ ap (λ zs. y ∷ zs) parts.first; second = parts.second }

key_exact : (k l : MemberKey) → key_kind k ≡ key_kind l → key_text k ≡ key_text l → k ≡ l
unfolding key_kind key_text
key_exact (Host a) (Host b) kind text = ap Host text
key_exact (Model a) (Model b) kind text = ap Model text
key_exact (Class a) (Class b) kind text = ap Class text
key_exact (Mine a) (Mine b) kind text = ap Mine text
key_exact (Name a) (Name b) kind text = ap Name text
key_exact _ _ kind text = absurd (omega arith)

pub bound_sort_key_exact : (k l : MemberKey) (a b : Addr) → bound_sort_key k a ≡ bound_sort_key l b → (k ≡ l) × (a ≡ b)
unfolding bound_sort_key member_sort_key text_sort_key
bound_sort_key_exact k l a b e =
    let kind : key_kind k ≡ key_kind l = cc in
    let long : length (key_text k) ≡ length (key_text l) = cc in
    let rest : key_text k ++ addr_sort_key a ≡ key_text l ++ addr_sort_key b = cc in
    let parts : AreSameParts (key_text k) (key_text l) (addr_sort_key a) (addr_sort_key b) = same_fronts (key_text k) (key_text l) (addr_sort_key a) (addr_sort_key b) long rest in
    (key_exact k l kind parts.first, addr_sort_key_exact a b parts.second)

pub binding_sort_key_exact : (b c : Binding) → same_sort_key (binding_sort_key b) (binding_sort_key c) ≡ same_spot b c
unfolding binding_sort_key
binding_sort_key_exact b c = both_ways (same_sort_key (binding_sort_key b) (binding_sort_key c)) (same_spot b c)
    (λ e. let parts : (b.key ≡ c.key) × (b.addr ≡ c.addr) = bound_sort_key_exact b.key c.key b.addr c.addr (same_sort_key_exact (binding_sort_key b) (binding_sort_key c) e) in
    same_spot_of b c (record { key = parts.0; addr = parts.1 }))
    (λ e. let same : IsSameSpot b c = same_spot_exact b c e in
    ap (λ p. same_sort_key (binding_sort_key b) p) (λ i. bound_sort_key (sym same.key i) (sym same.addr i)) ∙ same_sort_key_itself (binding_sort_key b))

-- ---- Bindings that are taken away

pub ascend-without_bindings : (gone bindings : List Binding) → SortKeysAscend binding_sort_key bindings → SortKeysAscend binding_sort_key (without_bindings gone bindings)
unfolding without_bindings
ascend-without_bindings [] bindings up = up
ascend-without_bindings (b ∷ gone) bindings up = ascend-without_bindings gone (without_row binding_sort_key (binding_sort_key b) bindings) (ascend-without_row binding_sort_key (binding_sort_key b) bindings up)
