-- Lists of objects with names, and the index of their names.
use Rattle.std.proofs.Common.{◌≡◌, ℕ, Bool, true, false, ◌||◌, List, [], ◌∷◌, ◌++◌, Option, None, Some, refl, ap, sym, ◌∙◌, length, is_some, option_map, cond, Bor}
use Rattle.std.specs.List.{find}
use Rattle.std.specs.Option.{option_or}
use Rattle.std.proofs.lemmas.List.{length-map, map_push}
use Rattle.std.specs.Str.{bytes_eq}
use Rattle.std.specs.BTreeMap.{BTreeMap, get_by, UpdatesBy}
use Rattle.std.specs.Cmp.Lexicographic.{slice_cmp}
use Rattle.std.specs.Ordering.{nat_cmp}
use Rattle.std.proofs.lemmas.Map.Text.{btree_map_updates_str}
use Rattle.std.proofs.lemmas.List.Folds.{find-append}
use Rattle.std.proofs.lemmas.Slice.Eq.{bytes_eq-Decides}
use Rattle.serde_json.specs.View.{view}
use Rattle.usage_walk.specs.declared.named.Element.{Element}
use Rattle.usage_walk.specs.Named as named
use Rattle.usage_walk.specs.Named.{is_named, element_named, element}
use Rattle.usage_walk.specs.Elements.{element_view, elements_view, has_name, IsIndexOf}

view_if : (b : Bool) (e : Element) (found : Option Element) → cond b (Some (element_view e)) (option_map element_view found) ≡ option_map element_view (cond b (Some e) found)
view_if true e found = refl
view_if false e found = refl

pub find_view : (name : List ℕ) (es : List Element) → find (λ e. bytes_eq e.name name) (elements_view es) ≡ option_map element_view (find (has_name name) es)
find_view name [] = refl
find_view name (e ∷ es) = rw (find_view name es) (view_if (bytes_eq e.name.now name) e (find (has_name name) es))

pub element_named_view : (name : List ℕ) (es : List Element) → element_named name (elements_view es) ≡ option_map element_view (find (has_name name) es)
unfolding element_named
element_named_view name es = find_view name es

any_if : (b c : Bool) (e : Element) (found : Option Element) → c ≡ is_some found → (b || c) ≡ is_some (cond b (Some e) found)
any_if true c e found h = refl
any_if false c e found h = h

pub is_named_view : (name : List ℕ) (es : List Element) → is_named name (elements_view es) ≡ is_some (find (has_name name) es)
unfolding is_named
is_named_view name [] = refl
is_named_view name (e ∷ es) = any_if (bytes_eq e.name.now name) _ e (find (has_name name) es) (is_named_view name es)

abbrev at_that_index : Element → ℕ → named.Element
at_that_index e index = record { index = index; name = e.name.now; value = view e.value.now }

pub elements_push : (es : List Element) (e : Element) → e.index ≡ length es → elements_view (es ++ e ∷ []) ≡ elements_view es ++ element (elements_view es) e.name.now (view e.value.now) ∷ []
unfolding element
elements_push es e index = map_push element_view es e ∙ ap (λ (p : ℕ). elements_view es ++ at_that_index e p ∷ []) (index ∙ sym (length-map es element_view))

or_none : (found : Option Element) → option_or found None ≡ found
or_none None = refl
or_none (Some e) = refl

push_by : (b : Bool) (name : List ℕ) (es : List Element) (e : Element) → bytes_eq e.name.now name ≡ b → find (has_name e.name.now) es ≡ None → option_or (find (has_name name) es) (cond b (Some e) None) ≡ cond b (Some e) (find (has_name name) es)
push_by true name es e same new = rw (rw ((bytes_eq-Decides e.name.now name).0 same) at new) refl
push_by false name es e other new = or_none (find (has_name name) es)

find_push : (name : List ℕ) (es : List Element) (e : Element) → find (has_name e.name.now) es ≡ None → find (has_name name) (es ++ e ∷ []) ≡ cond (bytes_eq e.name.now name) (Some e) (find (has_name name) es)
find_push name es e new = find-append (has_name name) es (e ∷ []) ∙ push_by (bytes_eq e.name.now name) name es e refl new

pub index_push : (m n : BTreeMap (Bor (List ℕ)) Element) (es : List Element) (e : Element) → IsIndexOf m es → find (has_name e.name.now) es ≡ None → UpdatesBy (λ x y. slice_cmp nat_cmp x.now y.now) (λ k. slice_cmp nat_cmp e.name.now k.now) m n (Some e) → IsIndexOf n (es ++ e ∷ [])
index_push m n es e index new updates name = btree_map_updates_str e.name.now m n (Some e) updates name ∙ (ap (λ (found : Option Element). cond (bytes_eq e.name.now name) (Some e) found) (index name) ∙ sym (find_push name es e new))

none_by : (found : Option Element) (b : Bool) → b ≡ is_some found → b ≡ false → found ≡ None
none_by None b h lacks = refl
none_by (Some e) b h lacks = cc

pub index_lacks : (m : BTreeMap (Bor (List ℕ)) Element) (es : List Element) (name : List ℕ) (b : Bool) → IsIndexOf m es → b ≡ is_some (get_by (λ k. slice_cmp nat_cmp name k.now) m) → b ≡ false → find (has_name name) es ≡ None
index_lacks m es name b index h lacks = sym (index name) ∙ none_by _ b h lacks
