-- What framing makes of the fields of a head.
use Rattle.std.proofs.Common.{◌≡◌, ℕ, List, [], ◌∷◌, Some, None, Result, Ok, Err, sym, ap, ◌∙◌}
use Rattle.std.specs.Prelude.{IfOk, IfErr}
use Rattle.http_requests.specs.declared.fault.FramingFault.{FramingFault}
use Rattle.http_requests.specs.declared.fields.Values.{Values}
use Rattle.http_requests.specs.Framing.{length_by}
use Rattle.http_requests.specs.Values.{AreValues, length_refusal}

-- what one value gives, where the list of values is that one
pub one_length : (r : Result ℕ FramingFault) (method text : List ℕ) (lengths : Values) → ((list : List (List ℕ)) → AreValues list lengths → list ≡ text ∷ [])
    → IfOk r (λ len. (m : List ℕ) → (len ≡ length_by (text ∷ [])) × (length_refusal m (text ∷ []) ≡ None))
    → IfOk r (λ len. (list : List (List ℕ)) → AreValues list lengths → (len ≡ length_by list) × (length_refusal method list ≡ None))
one_length (Ok len) method text lengths one ok = λ list are.
    let e = one list are in
    ((ok method).0 ∙ ap length_by (sym e), ap (length_refusal method) e ∙ (ok method).1)
one_length (Err fault) method text lengths one ok = ok

pub one_refusal : (r : Result ℕ FramingFault) (method text : List ℕ) (lengths : Values) → ((list : List (List ℕ)) → AreValues list lengths → list ≡ text ∷ [])
    → IfErr r (λ fault. (m : List ℕ) → length_refusal m (text ∷ []) ≡ Some fault)
    → IfErr r (λ fault. (list : List (List ℕ)) → AreValues list lengths → length_refusal method list ≡ Some fault)
one_refusal (Ok len) method text lengths one err = err
one_refusal (Err fault) method text lengths one err = λ list are. ap (length_refusal method) (one list are) ∙ err method
