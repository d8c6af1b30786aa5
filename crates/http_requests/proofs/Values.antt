-- The values of the fields of one name, one field after the other.
use Rattle.std.proofs.Common.{◌≡◌, ℕ, ◌+◌, ◌<◌, Bool, true, false, cond, List, [], ◌∷◌, ◌++◌, length, get_or, take, map, refl, ap, ◌∙◌, subst, sym, append-nil}
use Rattle.http_requests.specs.declared.fields.Values.{Values}
use Rattle.http_requests.specs.Fields.{is_named, values_of}
use Rattle.http_requests.specs.Values.{AreValues}
use Rattle.http_requests.proofs.Lists.{map_take_more}

pub second_value : (list : List (List ℕ)) (v x : List ℕ) → list ≡ v ∷ [] → (a : List ℕ) × (b : List ℕ) × (more : List (List ℕ)) × (list ++ x ∷ [] ≡ a ∷ b ∷ more)
second_value list v x e = (v, x, [], ap (λ l. l ++ x ∷ []) e)

pub later_value : (list : List (List ℕ)) (x : List ℕ) → (a : List ℕ) × (b : List ℕ) × (more : List (List ℕ)) × (list ≡ a ∷ b ∷ more) → (a : List ℕ) × (b : List ℕ) × (more : List (List ℕ)) × (list ++ x ∷ [] ≡ a ∷ b ∷ more)
later_value list x are = (are.0, are.1, are.2 ++ x ∷ [], ap (λ l. l ++ x ∷ []) are.3)

values_of-append : (name : List ℕ) (fs gs : List (List ℕ × List ℕ)) → values_of name (fs ++ gs) ≡ values_of name fs ++ values_of name gs
values_of-append name [] gs = refl
values_of-append name (f ∷ fs) gs = by_name (values_of-append name fs gs) (is_named name f)
  where
    by_name : values_of name (fs ++ gs) ≡ values_of name fs ++ values_of name gs → (b : Bool) → cond b (f.1 ∷ values_of name (fs ++ gs)) (values_of name (fs ++ gs)) ≡ cond b (f.1 ∷ values_of name fs) (values_of name fs) ++ values_of name gs
    by_name later true = ap (λ (vs : List (List ℕ)). f.1 ∷ vs) later
    by_name later false = later

-- a field of the name adds its value
pub value_more : {X : Type 0} (name : List ℕ) (f : X → List ℕ × List ℕ) (xs : List X) (i : ℕ) (d : X) → i < length xs → is_named name (f (get_or xs i d)) ≡ true
    → values_of name (map f (take (i + 1) xs)) ≡ values_of name (map f (take i xs)) ++ (f (get_or xs i d)).1 ∷ []
value_more name f xs i d here named =
    ap (values_of name) (map_take_more f xs i d here) ∙ values_of-append name (map f (take i xs)) (f (get_or xs i d) ∷ [])
    ∙ ap (λ (b : Bool). values_of name (map f (take i xs)) ++ cond b ((f (get_or xs i d)).1 ∷ []) []) named

-- another field adds none
pub value_same : {X : Type 0} (name : List ℕ) (f : X → List ℕ × List ℕ) (xs : List X) (i : ℕ) (d : X) → i < length xs → is_named name (f (get_or xs i d)) ≡ false
    → values_of name (map f (take (i + 1) xs)) ≡ values_of name (map f (take i xs))
value_same name f xs i d here named =
    ap (values_of name) (map_take_more f xs i d here) ∙ values_of-append name (map f (take i xs)) (f (get_or xs i d) ∷ [])
    ∙ ap (λ (b : Bool). values_of name (map f (take i xs)) ++ cond b ((f (get_or xs i d)).1 ∷ []) []) named
    ∙ append-nil (values_of name (map f (take i xs)))

pub values_with : {X : Type 0} (name : List ℕ) (f : X → List ℕ × List ℕ) (xs : List X) (i : ℕ) (d : X) (x : List ℕ) (now then' next : Values) → i < length xs → is_named name (f (get_or xs i d)) ≡ true
    → x ≡ (f (get_or xs i d)).1 → ((list : List (List ℕ)) → AreValues list now → AreValues (list ++ x ∷ []) then') → next ≡ then'
    → AreValues (values_of name (map f (take i xs))) now → AreValues (values_of name (map f (take (i + 1) xs))) next
values_with name f xs i d x now then' next here named is adds same are =
    let more = value_more name f xs i d here named ∙ ap (λ v. values_of name (map f (take i xs)) ++ v ∷ []) (sym is) in
    subst (AreValues (values_of name (map f (take (i + 1) xs)))) (sym same)
    (subst (λ list. AreValues list then') (sym more) (adds (values_of name (map f (take i xs))) are))

pub values_without : {X : Type 0} (name : List ℕ) (f : X → List ℕ × List ℕ) (xs : List X) (i : ℕ) (d : X) (now next : Values) → i < length xs → is_named name (f (get_or xs i d)) ≡ false
    → next ≡ now → AreValues (values_of name (map f (take i xs))) now → AreValues (values_of name (map f (take (i + 1) xs))) next
values_without name f xs i d now next here other same are =
    subst (AreValues (values_of name (map f (take (i + 1) xs)))) (sym same)
    (subst (λ list. AreValues list now) (sym (value_same name f xs i d here other)) are)
