-- What holds of each meaning that a reading can answer.
use Rattle.std.proofs.Common.{◌≡◌, Bool, true, false, List, [], ◌∷◌, Option, Some, None, Ok, Err, Result, refl, sym, subst, ◌∙◌}
use Rattle.usage_walk.specs.declared.fault.Broken.{Broken}
use Rattle.usage_walk.specs.Reading.{Reading}
use Rattle.mud_base.specs.Readings.{answer, and_then, done, ◌>>=◌, refused_where, where_there, over}
use Rattle.mud_base.proofs.Readings.{answer_bind, answer_done, answer_refused}

abbrev pub Always : {A : Type 0} → (A → Type 0) → Reading A → Type 0
Always P r = (a : _) → answer r ≡ Ok a → P a

abbrev pub Anything : {A : Type 0} → A → Type 0
Anything a = Unit {0}

pub always_anything : {A : Type 0} (r : Reading A) → Always Anything r
always_anything r a e = tt

pub then_ok : {A B : Type 0} (x : Result A Broken) (f : A → Result B Broken) (b : B) → and_then x f ≡ Ok b → (a : A) × (x ≡ Ok a) × (f a ≡ Ok b)
then_ok (Ok a) f b e = (a, refl, e)
then_ok (Err fault) f b e = absurd cc

pub always_bind : {A B : Type 0} (P : A → Type 0) (Q : B → Type 0) (r : Reading A) (f : A → Reading B) → Always P r → ((a : A) → P a → Always Q (f a)) → Always Q (r >>= f)
always_bind P Q r f first more b e =
    let found = then_ok (answer r) (λ a. answer (f a)) b (sym (answer_bind r f) ∙ e) in
    more found.0 (first found.0 found.1) b found.2

-- where nothing is asked of the first part
pub always_after : {A B : Type 0} (Q : B → Type 0) (r : Reading A) (f : A → Reading B) → ((a : A) → Always Q (f a)) → Always Q (r >>= f)
always_after Q r f more = always_bind Anything Q r f (always_anything r) (λ a _. more a)

ok_is : {A : Type 0} (x : Result A Broken) (a b : A) → x ≡ Ok a → x ≡ Ok b → a ≡ b
ok_is x a b left right = cc

pub always_done : {A : Type 0} (P : A → Type 0) (a : A) → P a → Always P (done a)
always_done P a holds b e = subst P (ok_is (answer (done a)) a b (answer_done a) e) holds

-- a check that is passed
pub always_passed : (fails : Bool) (fault : Broken) → Always (λ _. fails ≡ false) (refused_where fails fault)
always_passed false fault a e = refl
always_passed true fault a e = let refused = answer_refused fault in absurd cc

abbrev pub WhereThere : {A : Type 0} → (A → Type 0) → Option A → Type 0
WhereThere P None = Unit {0}
WhereThere P (Some a) = P a

pub always_there : {A B : Type 0} (P : B → Type 0) (read : A → Reading B) → ((a : A) → Always P (read a)) → (found : Option A) → Always (WhereThere P) (where_there read found)
unfolding where_there
always_there P read each None = always_done (WhereThere P) None tt
always_there P read each (Some a) = always_bind P (WhereThere P) (read a) (λ b. done (Some b)) (each a) (λ b holds. always_done (WhereThere P) (Some b) holds)

-- what each step keeps
pub always_over : {A B : Type 0} (P : A → Type 0) (read : A → B → Reading A) → ((so_far : A) (b : B) → P so_far → Always P (read so_far b)) → (so_far : A) (bs : List B) → P so_far → Always P (over read so_far bs)
unfolding over
always_over P read each so_far [] holds = always_done P so_far holds
always_over P read each so_far (b ∷ bs) holds = always_bind P P (read so_far b) (λ next. over read next bs) (each so_far b holds) (λ next next_holds. always_over P read each next bs next_holds)
