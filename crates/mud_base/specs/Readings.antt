-- How a value that was taken apart is read, as a usage file or the body of a request. A reading is the
-- list of all its checks, in the order in which they are made, and what the value means. The answer is
-- the first check that fails, or the meaning. Where a check fails, the meaning has a default in place of
-- what couldn't be read; no answer shows it. F says which check failed.
use Rattle.std.specs.Prelude.{◌≡◌, Bool, List, [], ◌∷◌, ◌++◌, Option, Some, None, is_none, unwrap_or, Result, Ok, Err}
use Rattle.mud_base.specs.Faults.{row, unless}
use Rattle.mud_base.specs.declared.refusal.Refusal.{Refusal}
use Rattle.mud_base.specs.declared.refusal.Refusal.TheVariants.{Memory, Broken}

-- a check is None where it holds, and else what is broken
pub record Reading (F A : Type 0) : Type 0 where
  pub checks : List (Option F)
  pub value : A

-- the first check that fails, or the meaning
unfoldable pub answer : {F A : Type 0} → Reading F A → Result A F
answer r = unless r.checks (Ok r.value)

-- nothing is checked
unfoldable pub done : {F A : Type 0} → A → Reading F A
done a = record { checks = []; value = a }

-- one reading behind another, which it may use
infixl 10 ◌>>=◌
unfoldable pub ◌>>=◌ : {F A B : Type 0} → Reading F A → (A → Reading F B) → Reading F B
r >>= f = record { checks = r.checks ++ (f r.value).checks; value = (f r.value).value }

-- one check
unfoldable pub refused_where : {F : Type 0} → Bool → F → Reading F (Unit {0})
refused_where fails fault = record { checks = row fails fault ∷ []; value = tt }

-- the check that there is a value
unfoldable pub wanted : {F A : Type 0} → A → F → Option A → Reading F A
wanted default fault found = record { checks = row (is_none found) fault ∷ []; value = unwrap_or found default }

-- what may be absent is read where it is there
unfoldable pub where_there : {F A B : Type 0} → (A → Reading F B) → Option A → Reading F (Option B)
where_there read None = done None
where_there read (Some a) = do
  b ← read a
  done (Some b)

-- the elements of a list one after the other, each read behind what came of those before it
unfoldable pub over : {F A B : Type 0} → (A → B → Reading F A) → A → List B → Reading F A
over read so_far [] = done so_far
over read so_far (b ∷ bs) = do
  next ← read so_far b
  over read next bs

-- an answer, and then that of what follows, where there is no fault
abbrev pub and_then : {F A B : Type 0} → Result A F → (A → Result B F) → Result B F
and_then (Ok a) more = more a
and_then (Err fault) more = Err fault

-- ---- What a function answers: want of memory, or the answer of the reading

abbrev pub Refuses : {F : Type 0} → Refusal F → F → Type 0
Refuses Memory broken = Unit {0}
Refuses (Broken fault) broken = fault ≡ broken

abbrev pub Fails : {F Y : Type 0} → Refusal F → Result Y F → Type 0
Fails Memory answered = Unit {0}
Fails (Broken fault) answered = answered ≡ Err fault

abbrev pub Answers : {F X Y : Type 0} → (X → Y) → Result X (Refusal F) → Result Y F → Type 0
Answers view (Ok x) answered = answered ≡ Ok (view x)
Answers view (Err refusal) answered = Fails refusal answered

abbrev pub Gives : {F X Y : Type 0} → (X → Y) → Result X (Refusal F) → Reading F Y → Type 0
Gives view result reading = Answers view result (answer reading)
