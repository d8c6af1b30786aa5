-- Runs of edits, each of which is made at once. Only the contracts of functions that are not public cite these.
use Rattle.std.specs.Prelude.{◌≡◌, ℕ, suc, Bool, true, false, Result, Ok, Err, List, [], ◌∷◌, ◌++◌}
use Rattle.base_rows.specs.declared.edit.Edit.{Edit}
use Rattle.base_rows.specs.Edits.{edited}

-- the index that the next edit of a run has: rows that come belong at one index, and rows that go stand side by side
abbrev pub found_next : Result ℕ ℕ → Result ℕ ℕ
found_next (Ok i) = Ok (suc i)
found_next (Err i) = Err i

-- whether a row comes where an edit of this index changes something: where none stands one comes, and else it goes
abbrev pub comes_at : Result ℕ ℕ → Bool
comes_at (Ok i) = false
comes_at (Err i) = true

-- the second edit goes on with the run of the first, which changes something
pub record GoesOn {R : Type 0} (edit next : Edit R) : Type 0 where
  pub changes : edit.comes ≡ comes_at edit.found
  pub comes : next.comes ≡ edit.comes
  pub found : next.found ≡ found_next edit.found

-- the first of these edits, where there is one, goes on with the run of an edit
abbrev pub GoOn : {R : Type 0} → Edit R → List (Edit R) → Type 0
GoOn edit [] = Unit {0}
GoOn edit (next ∷ edits) = GoesOn edit next

-- each edit goes on with the run of the one before
abbrev pub AreRun : {R : Type 0} → List (Edit R) → Type 0
AreRun [] = Unit {0}
AreRun (edit ∷ edits) = GoOn edit edits × AreRun edits

-- of some edits the last ones are made, and the others are left
pub record AreMade {R : Type 0} (sort_key : R → List ℕ) (edits left : List (Edit R)) (old new : List R) : Type 0 where
  pub made : List (Edit R)
  pub split : edits ≡ left ++ made
  pub rows : new ≡ edited sort_key made old
