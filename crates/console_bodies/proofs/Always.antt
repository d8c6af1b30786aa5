-- What holds of each meaning that a reading can answer.
use Rattle.std.proofs.Common.{◌≡◌, Bool, true, false, Option, Some, None, Ok, Err, Result, refl, sym, subst, ◌∙◌}
use Rattle.std.specs.Prelude.{if◌then◌else◌}
use Rattle.mud_base.specs.Readings.{Reading, answer, and_then, done, ◌>>=◌, wanted}
use Rattle.mud_base.proofs.Readings.{answer_bind, answer_done, answer_wanted, answer_unwanted}

abbrev pub Always : {F A : Type 0} → (A → Type 0) → Reading F A → Type 0
Always P r = (a : _) → answer r ≡ Ok a → P a

pub then_ok : {F A B : Type 0} (x : Result A F) (f : A → Result B F) (b : B) → and_then x f ≡ Ok b → (a : A) × (x ≡ Ok a) × (f a ≡ Ok b)
then_ok (Ok a) f b e = (a, refl, e)
then_ok (Err fault) f b e = absurd cc

pub always_bind : {F A B : Type 0} (P : A → Type 0) (Q : B → Type 0) (r : Reading F A) (f : A → Reading F B) → Always P r → ((a : A) → P a → Always Q (f a)) → Always Q (r >>= f)
always_bind P Q r f first more b e =
    let found = then_ok (answer r) (λ a. answer (f a)) b (sym (answer_bind r f) ∙ e) in
    more found.0 (first found.0 found.1) b found.2

-- where nothing is asked of the first part
pub always_after : {F A B : Type 0} (Q : B → Type 0) (r : Reading F A) (f : A → Reading F B) → ((a : A) → Always Q (f a)) → Always Q (r >>= f)
always_after Q r f more = always_bind (λ _. Unit {0}) Q r f (λ _ _. tt) (λ a _. more a)

ok_is : {F A : Type 0} (x : Result A F) (a b : A) → x ≡ Ok a → x ≡ Ok b → a ≡ b
ok_is x a b left right = cc

pub always_done : {F A : Type 0} (P : A → Type 0) (a : A) → P a → Always {F = F} P (done a)
always_done P a holds b e = subst P (ok_is (answer (done a)) a b (answer_done a) e) holds

pub always_wanted : {F A : Type 0} (P : A → Type 0) (default : A) (fault : F) (found : Option A) → ((a : A) → found ≡ Some a → P a) → Always P (wanted default fault found)
always_wanted P default fault (Some a) holds b e = subst P (ok_is (answer (wanted default fault (Some a))) a b (answer_wanted default a fault) e) (holds a refl)
always_wanted P default fault None holds b e = let refused = answer_unwanted default fault in absurd cc

-- one of two readings
pub always_either : {F A : Type 0} (P : A → Type 0) (b : Bool) (r s : Reading F A) → Always P r → Always P s → Always P (if b then r else s)
always_either P true r s first second = first
always_either P false r s first second = second

pub chosen_some : {A : Type 0} (b : Bool) (a x : A) → (if b then Some a else None) ≡ Some x → (b ≡ true) × (a ≡ x)
chosen_some true a x e = (refl, cc)
chosen_some false a x e = absurd cc
