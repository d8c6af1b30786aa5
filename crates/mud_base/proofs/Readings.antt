-- The answer of a reading is that of its first part, and then that of what follows.
use Rattle.std.proofs.Common.{◌≡◌, true, false, List, [], ◌∷◌, ◌++◌, Option, None, Some, Ok, Err, refl, ◌∙◌, map, ℕ, suc, ◌+◌, ◌<◌, ◌≤◌, length, get_or, drop, drop-cons, add-one}
use Rattle.std.proofs.lemmas.List.{drop_all}
use Rattle.mud_base.specs.Faults.{unless}
use Rattle.mud_base.specs.Readings.{Reading, answer, done, ◌>>=◌, and_then, refused_where, wanted, where_there, over}

bind_on : {F A B : Type 0} (checks : List (Option F)) (a : A) (f : A → Reading F B) → unless (checks ++ (f a).checks) (Ok (f a).value) ≡ and_then (unless checks (Ok a)) (λ b. unless (f b).checks (Ok (f b).value))
bind_on [] a f = refl
bind_on (None ∷ checks) a f = bind_on checks a f
bind_on (Some fault ∷ checks) a f = refl

pub answer_bind : {F A B : Type 0} (r : Reading F A) (f : A → Reading F B) → answer (r >>= f) ≡ and_then (answer r) (λ a. answer (f a))
unfolding answer ◌>>=◌
answer_bind r f = bind_on r.checks r.value f

pub answer_done : {F A : Type 0} (a : A) → answer {F = F} (done a) ≡ Ok a
unfolding answer done
answer_done a = refl

pub answer_wanted : {F A : Type 0} (default a : A) (fault : F) → answer (wanted default fault (Some a)) ≡ Ok a
unfolding answer wanted
answer_wanted default a fault = refl

pub answer_unwanted : {F A : Type 0} (default : A) (fault : F) → answer (wanted default fault None) ≡ Err fault
unfolding answer wanted
answer_unwanted default fault = refl

pub answer_passed : {F : Type 0} (fault : F) → answer (refused_where false fault) ≡ Ok tt
unfolding answer refused_where
answer_passed fault = refl

pub answer_refused : {F : Type 0} (fault : F) → answer (refused_where true fault) ≡ Err fault
unfolding answer refused_where
answer_refused fault = refl

pub answer_absent : {F A B : Type 0} (read : A → Reading F B) → answer (where_there read None) ≡ Ok None
unfolding answer where_there done
answer_absent read = refl

pub answer_there : {F A B : Type 0} (read : A → Reading F B) (a : A) → answer (where_there read (Some a)) ≡ and_then (answer (read a)) (λ b. Ok (Some b))
unfolding where_there answer done
answer_there read a = answer_bind (read a) (λ b. done (Some b))

-- ---- Lists

pub over_done : {F A B : Type 0} (read : A → B → Reading F A) (so_far : A) → answer (over read so_far []) ≡ Ok so_far
unfolding answer over done
over_done read so_far = refl

pub over_next : {F A B : Type 0} (read : A → B → Reading F A) (so_far : A) (b : B) (bs : List B) → answer (over read so_far (b ∷ bs)) ≡ and_then (answer (read so_far b)) (λ next. answer (over read next bs))
unfolding over
over_next read so_far b bs = answer_bind (read so_far b) (λ next. over read next bs)

-- over the values of a slice from an index on, each seen through a view: the value there is read, or refused
over_from : {F A V B : Type 0} (view : V → B) (read : A → B → Reading F A) (so_far : A) (values : List V) (i : ℕ) (v : V) → i < length values → v ≡ get_or values i v → answer (over read so_far (map view (drop i values))) ≡ and_then (answer (read so_far (view v))) (λ next. answer (over read next (map view (drop (i + 1) values))))
over_from view read so_far values i v within is = rw (drop-cons values i v within, ← is, add-one) (over_next read so_far (view v) (map view (drop (suc i) values)))

pub over_taken : {F A V B : Type 0} (view : V → B) (read : A → B → Reading F A) (so_far next : A) (values : List V) (i : ℕ) (v : V) → i < length values → v ≡ get_or values i v → answer (read so_far (view v)) ≡ Ok next → answer (over read so_far (map view (drop i values))) ≡ answer (over read next (map view (drop (i + 1) values)))
over_taken view read so_far next values i v within is taken = over_from view read so_far values i v within is ∙ rw taken refl

pub over_refused : {F A V B : Type 0} (view : V → B) (read : A → B → Reading F A) (so_far : A) (fault : F) (values : List V) (i : ℕ) (v : V) → i < length values → v ≡ get_or values i v → answer (read so_far (view v)) ≡ Err fault → answer (over read so_far (map view (drop i values))) ≡ Err fault
over_refused view read so_far fault values i v within is refused = over_from view read so_far values i v within is ∙ rw refused refl

pub over_past : {F A V B : Type 0} (view : V → B) (read : A → B → Reading F A) (so_far : A) (values : List V) (i : ℕ) → length values ≤ i → answer (over read so_far (map view (drop i values))) ≡ Ok so_far
over_past view read so_far values i past = rw (drop_all i values past) (over_done read so_far)

-- over the elements of a slice themselves
same_from : {F A B : Type 0} (read : A → B → Reading F A) (so_far : A) (bs : List B) (i : ℕ) (b : B) → i < length bs → b ≡ get_or bs i b → answer (over read so_far (drop i bs)) ≡ and_then (answer (read so_far b)) (λ next. answer (over read next (drop (i + 1) bs)))
same_from read so_far bs i b within is = rw (drop-cons bs i b within, ← is, add-one) (over_next read so_far b (drop (suc i) bs))

pub each_taken : {F A B : Type 0} (read : A → B → Reading F A) (so_far next : A) (bs : List B) (i : ℕ) (b : B) → i < length bs → b ≡ get_or bs i b → answer (read so_far b) ≡ Ok next → answer (over read so_far (drop i bs)) ≡ answer (over read next (drop (i + 1) bs))
each_taken read so_far next bs i b within is taken = same_from read so_far bs i b within is ∙ rw taken refl

pub each_refused : {F A B : Type 0} (read : A → B → Reading F A) (so_far : A) (fault : F) (bs : List B) (i : ℕ) (b : B) → i < length bs → b ≡ get_or bs i b → answer (read so_far b) ≡ Err fault → answer (over read so_far (drop i bs)) ≡ Err fault
each_refused read so_far fault bs i b within is refused = same_from read so_far bs i b within is ∙ rw refused refl

pub each_past : {F A B : Type 0} (read : A → B → Reading F A) (so_far : A) (bs : List B) (i : ℕ) → length bs ≤ i → answer (over read so_far (drop i bs)) ≡ Ok so_far
each_past read so_far bs i past = rw (drop_all i bs past) (over_done read so_far)
