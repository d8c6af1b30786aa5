-- The least expiry, one selector after the other.
use Rattle.std.proofs.Common.{◌≡◌, ℕ, suc, ◌+◌, ◌*◌, ◌<◌, min, List, length, drop, get_or, Option, Some, None, refl, sym, ap, ◌∙◌, arith}
use Rattle.std.proofs.Math.Seq.{drop-cons}
use Rattle.std.specs.Option.{option_map, option_and_then}
use Rattle.std.specs.List.{filter_map, cons_option}
use Rattle.std.proofs.lemmas.Option.{same_Some, none-some}
use Rattle.mud_base.specs.declared.addr.Addr.{Addr}
use Rattle.acl_model.specs.declared.entry.Selector.{Selector}
use Rattle.acl_model.specs.declared.binding.MemberKey.{MemberKey}
use Rattle.acl_model.specs.declared.binding.Binding.{Binding}
use Rattle.acl_model.specs.Keys.{key_of}
use Rattle.acl_model.specs.SortKeys.{key_kind, key_text, text_sort_key, member_sort_key, bound_sort_key}
use Rattle.acl_changes.specs.EntryKeys.{key_parts}
use Rattle.acl_changes.specs.Keys.{sort_key_of_text}
use Rattle.acl_model.specs.Changes.{until_of, bound_until}
use Rattle.acl_rows.specs.Rows.{least_expiry}
use Rattle.acl_changes.specs.Change.{expiry_in, met_expiry}
use Rattle.acl_changes.specs.Steps.{key_steps}
use Rattle.acl_changes.proofs.Bound.{find-row_at}

-- the expiry at the sort key of a key and an address
pub expiry_in-bound : (bindings : List Binding) (key : MemberKey) (a : Addr) → expiry_in (bound_sort_key key a) bindings ≡ bound_until bindings key a
unfolding bound_until
expiry_in-bound bindings key a = ap (option_map until_of) (sym (find-row_at key a bindings))

pub met_some : (kind : ℕ) (text : List ℕ) (o : Option MemberKey) (bindings : List Binding) (a : Addr) (m : ℕ) (end : Option ℕ) → (let p : Option (ℕ × List ℕ) = Some (kind, text) in p ≡ option_map key_parts o) → end ≡ expiry_in (sort_key_of_text kind text a) bindings → option_map (min m) end ≡ met_expiry bindings a m o
unfolding met_expiry key_parts text_sort_key member_sort_key bound_sort_key
met_some kind text None bindings a m end is e = absurd (none-some (kind, text) (sym is))
met_some kind text (Some key) bindings a m end is e =
    let parts : (kind, text) ≡ (key_kind key, key_text key) = same_Some (kind, text) (key_kind key, key_text key) is in
    ap (option_map (min m)) (e ∙ ap (λ (x : ℕ × List ℕ). expiry_in (sort_key_of_text x.0 x.1 a) bindings) parts ∙ sort_key key ∙ expiry_in-bound bindings key a)
  where
    sort_key : (key : MemberKey) → expiry_in (sort_key_of_text (key_kind key) (key_text key) a) bindings ≡ expiry_in (bound_sort_key key a) bindings
    sort_key key = text_bound key
      where
        text_bound : (key : MemberKey) → expiry_in (sort_key_of_text (key_kind key) (key_text key) a) bindings ≡ expiry_in (bound_sort_key key a) bindings
        text_bound key = refl

pub met_none : (o : Option MemberKey) (bindings : List Binding) (a : Addr) (m : ℕ) → (let p : Option (ℕ × List ℕ) = None in p ≡ option_map key_parts o) → Some m ≡ met_expiry bindings a m o
unfolding met_expiry
met_none None bindings a m is = refl
met_none (Some key) bindings a m is = absurd (none-some (key_parts key) is)

pub some_steps : (kind : ℕ) (text : List ℕ) (o : Option MemberKey) (b : ℕ) → (let p : Option (ℕ × List ℕ) = Some (kind, text) in p ≡ option_map key_parts o) → b ≡ key_steps b o
unfolding key_steps
some_steps kind text None b is = absurd (none-some (kind, text) (sym is))
some_steps kind text (Some key) b is = refl

least_then : (bindings : List Binding) (a : Addr) (m : ℕ) (keys : List MemberKey) (end : Option ℕ) → option_and_then (λ (u : ℕ). least_expiry bindings a (min m u) keys) end ≡ option_and_then (λ (u : ℕ). least_expiry bindings a u keys) (option_map (min m) end)
least_then bindings a m keys None = refl
least_then bindings a m keys (Some u) = refl

pub least-cons : (bindings : List Binding) (a : Addr) (m : ℕ) (keys : List MemberKey) (o : Option MemberKey) → least_expiry bindings a m (cons_option o keys) ≡ option_and_then (λ (u : ℕ). least_expiry bindings a u keys) (met_expiry bindings a m o)
unfolding least_expiry met_expiry
least-cons bindings a m keys None = refl
least-cons bindings a m keys (Some key) = least_then bindings a m keys (bound_until bindings key a)

pub steps-cons : (b : ℕ) (keys : List MemberKey) (o : Option MemberKey) → length (cons_option o keys) * b ≡ key_steps b o + length keys * b
unfolding key_steps
steps-cons b keys None = omega arith
steps-cons b keys (Some key) = omega arith

pub rest_cons : (url : List ℕ) (ss : List Selector) (i : ℕ) (s : Selector) → i < length ss → s ≡ get_or ss i s → filter_map (key_of url) (drop i ss) ≡ cons_option (key_of url s) (filter_map (key_of url) (drop (i + 1) ss))
rest_cons url ss i s lt is =
    ap (filter_map (key_of url)) (drop-cons ss i s lt)
    ∙ (λ j. cons_option (key_of url (sym is j)) (filter_map (key_of url) (drop (next j) ss)))
  where
    next : suc i ≡ i + 1
    next = omega arith
