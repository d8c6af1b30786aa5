-- What is said of an answer that is Ok, and of one that is Err; the element of an index, whatever stands for one that isn't there.
use Rattle.std.proofs.Common.{◌≡◌, ℕ, zero, suc, ◌<◌, List, [], ◌∷◌, length, get_or, refl, Result, Ok, Err, OnOk, OnErr, arith}

pub ok_then : {A E : Type 0} (r : Result A E) {P Q : Type 0} → OnOk r P → (P → Q) → OnOk r Q
ok_then (Ok a) fact more = more fact
ok_then (Err e) fact more = tt

pub err_then : {A E : Type 0} (r : Result A E) {P Q : Type 0} → OnErr r P → (P → Q) → OnErr r Q
err_then (Ok a) fact more = tt
err_then (Err e) fact more = more fact

pub one_there : {A : Type 0} (xs : List A) (i : ℕ) (d : A) → i < length xs → get_or xs i d ≡ get_or xs i (get_or xs i d)
one_there [] i d within = absurd (omega (arith, within))
one_there (x ∷ xs) zero d within = refl
one_there (x ∷ xs) (suc i) d within = one_there xs i d (omega (arith, within))
