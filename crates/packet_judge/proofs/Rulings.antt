-- The ruling of the least number is that of the first entry that matches.
use Rattle.std.proofs.Common.{◌≡◌, ℕ, zero, suc, ◌+◌, ◌-◌, ◌≤◌, Bool, true, false, cond, ◌&&◌, List, [], ◌∷◌, slice_get, Option, Some, None, refl, sym, ap, subst, ◌∙◌, arith}
use Rattle.std.specs.Prelude.{find, not}
use Rattle.std.specs.Option.{option_map_or}
use Rattle.std.proofs.lemmas.Bool.{false≢true}
use Rattle.acl_model.specs.declared.entry.Entry.{Entry}
use Rattle.acl_model.specs.declared.ruling.Ruling.{Ruling}
use Rattle.acl_model.specs.declared.ruling.Ruling.TheVariants.{DropDefault}
use Rattle.acl_model.specs.declared.ruling.Why.TheVariants.{NoMatch}
use Rattle.acl_model.specs.Keys.{is_membered}
use Rattle.acl_model.specs.FirstMatch.{ruled_by}
use Rattle.acl_rows.specs.Rows.{entry_at}
use Rattle.acl_rows.specs.View.{wide_from}
use Rattle.packet_judge.specs.ByRows.{ruling_at}
use Rattle.packet_judge.proofs.Least.{IsLeastFrom, least_first, least_later, least_sooner, least_here}
use Rattle.acl_model.proofs.Parts.{first_ruling}

-- an entry of this number passes the test
unfoldable pub at_number : (Entry → Bool) → List Entry → ℕ → Bool
at_number m es n = option_map_or m (entry_at n es) false

-- the rest of the entries, from a number on
abbrev pub IsRest : List Entry → ℕ → List Entry → Type 0
IsRest all n es = (k : ℕ) × (n ≡ suc k) × ((i : ℕ) → slice_get all (k + i) ≡ slice_get es i)

pub all_rest : (all : List Entry) → IsRest all 1 all
all_rest all = (0, omega arith, λ i. ap (slice_get all) {x = 0 + i} {y = i} (omega arith))

pub rest_next : (all : List Entry) (n : ℕ) (e : Entry) (es : List Entry) → IsRest all n (e ∷ es) → IsRest all (n + 1) es
rest_next all n e es rest = let k = rest.0 in let is : n ≡ suc k = rest.1 in (k + 1, omega arith, λ i. subst (λ m. slice_get all m ≡ slice_get es i) {x = k + suc i} {y = (k + 1) + i} (omega arith) (rest.2 (suc i)))

pub rest_first : (all : List Entry) (n : ℕ) (e : Entry) (es : List Entry) → IsRest all n (e ∷ es) → entry_at n all ≡ Some e
unfolding entry_at
rest_first all n e es rest = let k = rest.0 in subst (λ m. entry_at m all ≡ Some e) (sym rest.1) (subst (λ m. slice_get all m ≡ Some e) {x = k + 0} {y = k} (omega arith) (rest.2 0))

pub rest_none : (all : List Entry) (n m : ℕ) → IsRest all n [] → n ≤ m → entry_at m all ≡ None
unfolding entry_at
rest_none all n zero rest le = let k = rest.0 in let is : n ≡ suc k = rest.1 in absurd (omega arith)
rest_none all n (suc j) rest le =
    let k = rest.0 in
    let is : n ≡ suc k = rest.1 in
    subst (λ i. slice_get all i ≡ None) {x = k + (j - k)} {y = j} (omega arith) (rest.2 (j - k))

first_by : (m : Entry → Bool) (all : List Entry) (n : ℕ) (e : Entry) (es : List Entry) (otherwise : Ruling) (o : Option ℕ) → entry_at n all ≡ Some e → IsLeastFrom n (at_number m all) o
    → (IsLeastFrom (n + 1) (at_number m all) o → first_ruling m (n + 1) es otherwise ≡ ruling_at all otherwise o) → (b : Bool) → m e ≡ b → cond b (ruled_by n e.action) (first_ruling m (n + 1) es otherwise) ≡ ruling_at all otherwise o
unfolding ruling_at at_number
first_by m all n e es otherwise o is least rest true passes =
    let here : at_number m all n ≡ true = ap (λ (x : Option Entry). option_map_or m x false) is ∙ passes in
    sym (ap (ruling_at all otherwise) (least_first n (at_number m all) o here least) ∙ ap (λ (x : Option Entry). option_map_or (λ entry. ruled_by n entry.action) x (DropDefault NoMatch)) is)
first_by m all n e es otherwise o is least rest false passes =
    let here : at_number m all n ≡ false = ap (λ (x : Option Entry). option_map_or m x false) is ∙ passes in
    rest (least_later n (at_number m all) o here least)

none_left : (m : Entry → Bool) (all : List Entry) (n : ℕ) (otherwise : Ruling) (o : Option ℕ) → IsRest all n [] → IsLeastFrom n (at_number m all) o → otherwise ≡ ruling_at all otherwise o
unfolding ruling_at at_number
none_left m all n otherwise None rest least = refl
none_left m all n otherwise (Some k) rest least = absurd (false≢true (sym (ap (λ (x : Option Entry). option_map_or m x false) (rest_none all n k rest least.0)) ∙ least.1))

-- the first match is at the least number
pub first_ruling-least : (m : Entry → Bool) (all : List Entry) (n : ℕ) (es : List Entry) (otherwise : Ruling) (o : Option ℕ) → IsRest all n es → IsLeastFrom n (at_number m all) o → first_ruling m n es otherwise ≡ ruling_at all otherwise o
first_ruling-least m all n [] otherwise o rest least = none_left m all n otherwise o rest least
first_ruling-least m all n (e ∷ es) otherwise o rest least =
    first_by m all n e es otherwise o (rest_first all n e es rest) least (first_ruling-least m all (n + 1) es otherwise o (rest_next all n e es rest)) (m e) refl

-- ---- The first wide entry

wide_by : (m : Entry → Bool) (all : List Entry) (n : ℕ) (e : Entry) (es : List Entry) → entry_at n all ≡ Some e → IsLeastFrom (n + 1) (at_number (λ x. not (is_membered x) && m x) all) (find (at_number m all) (wide_from (n + 1) es))
    → (b c : Bool) → is_membered e ≡ b → m e ≡ c → IsLeastFrom n (at_number (λ x. not (is_membered x) && m x) all) (find (at_number m all) (cond b (wide_from (n + 1) es) (n ∷ wide_from (n + 1) es)))
unfolding at_number
wide_by m all n e es is rest true c wide passes =
    let test : Entry → Bool = λ x. not (is_membered x) && m x in
    least_sooner n (at_number test all) (find (at_number m all) (wide_from (n + 1) es)) (ap (λ (x : Option Entry). option_map_or test x false) is ∙ ap (λ b. not b && m e) wide) rest
wide_by m all n e es is rest false true wide passes =
    let test : Entry → Bool = λ x. not (is_membered x) && m x in
    let here : at_number m all n ≡ true = ap (λ (x : Option Entry). option_map_or m x false) is ∙ passes in
    subst (λ b. IsLeastFrom n (at_number test all) (cond b (Some n) (find (at_number m all) (wide_from (n + 1) es)))) (sym here)
    (least_here n (at_number test all) (ap (λ (x : Option Entry). option_map_or test x false) is ∙ ap (λ b. not b && m e) wide ∙ passes))
wide_by m all n e es is rest false false wide passes =
    let test : Entry → Bool = λ x. not (is_membered x) && m x in
    let here : at_number m all n ≡ false = ap (λ (x : Option Entry). option_map_or m x false) is ∙ passes in
    subst (λ b. IsLeastFrom n (at_number test all) (cond b (Some n) (find (at_number m all) (wide_from (n + 1) es)))) (sym here)
    (least_sooner n (at_number test all) (find (at_number m all) (wide_from (n + 1) es)) (ap (λ (x : Option Entry). option_map_or test x false) is ∙ ap (λ b. not b && m e) wide ∙ passes) rest)

pub wide-least : (m : Entry → Bool) (all : List Entry) (n : ℕ) (es : List Entry) → IsRest all n es → IsLeastFrom n (at_number (λ x. not (is_membered x) && m x) all) (find (at_number m all) (wide_from n es))
unfolding wide_from at_number
wide-least m all n [] rest = λ k le. ap (λ (x : Option Entry). option_map_or (λ x. not (is_membered x) && m x) x false) (rest_none all n k rest le)
wide-least m all n (e ∷ es) rest =
    wide_by m all n e es (rest_first all n e es rest) (wide-least m all (n + 1) es (rest_next all n e es rest)) (is_membered e) (m e) refl refl
