-- Paths and queries in which each octet may stand.
use Rattle.std.proofs.Common.{◌≡◌, ℕ, ◌+◌, Bool, true, false, cond, eqb, ⊎_elim, List, [], ◌∷◌, Option, Some, None, refl, ◌∙◌}
use Rattle.std.specs.List.{list_all}
use Rattle.std.proofs.lemmas.Bool.{cond_both, and_parts, and_from, or_left, or_right, or_cases}
use Rattle.mud_url.specs.Url.{may_stand, begins_with_hex_pair, path_fault, canonical_path}
use Rattle.mud_url.proofs.Octets.{is_url_octet}
use Rattle.mud_url.proofs.Pieces.{is_path_octet}

path_fault-cons_yes : (at c : ℕ) (more : List ℕ) → may_stand c more ≡ true → path_fault at (c ∷ more) ≡ path_fault (at + 1) more
unfolding path_fault
path_fault-cons_yes at c more e = rw e

path_fault-cons_none : (at c : ℕ) (more : List ℕ) → path_fault at (c ∷ more) ≡ None → (may_stand c more ≡ true) × (path_fault (at + 1) more ≡ None)
unfolding path_fault
path_fault-cons_none at c more = cond_split (may_stand c more) (path_fault (at + 1) more)
  where
    cond_split : (t : Bool) (o : Option ℕ) → cond t o (Some at) ≡ None → (t ≡ true) × (o ≡ None)
    cond_split true o e = (refl, e)
    cond_split false o e = cc

-- where it is counted from doesn't matter
pub path_fault_from : (at from : ℕ) (path : List ℕ) → path_fault at path ≡ None → path_fault from path ≡ None
unfolding path_fault
path_fault_from at from [] e = refl
path_fault_from at from (c ∷ more) e =
    let both = path_fault-cons_none at c more e in
    path_fault-cons_yes from c more both.0 ∙ path_fault_from (at + 1) (from + 1) more both.1

stands : (c : ℕ) (more : List ℕ) → may_stand c more ≡ true → is_url_octet c ≡ true
unfolding may_stand is_url_octet
stands c more e =
    ⊎_elim (λ octet. or_left _ _ octet) (λ triplet. or_right (is_path_octet c) _ (and_parts (eqb c 37) (begins_with_hex_pair more) triplet).0) (or_cases (is_path_octet c) _ e)

pub path_stands : (at : ℕ) (path : List ℕ) → path_fault at path ≡ None → list_all is_url_octet path ≡ true
path_stands at [] e = refl
path_stands at (c ∷ more) e =
    let both = path_fault-cons_none at c more e in
    and_from _ _ (stands c more both.0) (path_stands (at + 1) more both.1)

slash_stands : (more : List ℕ) → may_stand 47 more ≡ true
unfolding may_stand
slash_stands more = refl

pub path_fault-canonical_path : (at : ℕ) (path : List ℕ) → path_fault at path ≡ None → path_fault at (canonical_path path) ≡ None
unfolding canonical_path path_fault
path_fault-canonical_path at [] e = path_fault-cons_yes at 47 [] (slash_stands [])
path_fault-canonical_path at (c ∷ more) e =
    cond_both (eqb c 47) (c ∷ more) (47 ∷ c ∷ more) (λ text. path_fault at text ≡ None) (λ _. e)
    (λ _. path_fault-cons_yes at 47 (c ∷ more) (slash_stands (c ∷ more)) ∙ path_fault_from at (at + 1) (c ∷ more) e)

pub canonical_path-canonical_path : (path : List ℕ) → canonical_path (canonical_path path) ≡ canonical_path path
unfolding canonical_path
canonical_path-canonical_path [] = refl
canonical_path-canonical_path (c ∷ more) = by (eqb c 47) refl
  where
    by : (t : Bool) → eqb c 47 ≡ t → canonical_path (cond t (c ∷ more) (47 ∷ c ∷ more)) ≡ cond t (c ∷ more) (47 ∷ c ∷ more)
    by true e = rw e
    by false e = refl
