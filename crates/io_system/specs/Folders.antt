-- What is listed of the entries of a folder.
use Rattle.std.specs.Prelude.{◌≡◌, ◌++◌, ⊤, ℕ, List, [], ◌∷◌, Option, Some, None, Result, Ok, Err}
use Rattle.std.specs.Iterator.{Yields}
use Rattle.std.specs.Fs.{dir_entry_name}
use Rattle.std.specs.declared.fs.dir.DirEntry.{DirEntry}
use Rattle.std.specs.declared.io.Error.{Error}
use Rattle.io_system.specs.declared.spool.Trouble.{Trouble}
use Rattle.io_system.specs.Errors.{name_trouble_of}

-- an entry as the folder gives it
abbrev pub Given : (R A F D : Type 0) → Type 0
Given R A F D = Result (DirEntry R A F D) Error

-- the names of those that have one, in their order
abbrev pub names_of : {R A F D : Type 0} → List (Given R A F D) → List (List ℕ)
names_of [] = []
names_of (Ok entry ∷ rest) = dir_entry_name entry ∷ names_of rest
names_of (Err error ∷ rest) = names_of rest

-- Each was read, or has no name in UTF-8.
abbrev pub ArePassed : {R A F D : Type 0} → List (Given R A F D) → Type 0
ArePassed [] = ⊤
ArePassed (Ok entry ∷ rest) = ArePassed rest
ArePassed (Err error ∷ rest) = (name_trouble_of error ≡ None) × ArePassed rest

-- It can't be passed over, for this trouble.
abbrev pub HasTrouble : {R A F D : Type 0} → Given R A F D → Trouble → Type 0
HasTrouble (Ok entry) trouble = ⊥
HasTrouble (Err error) trouble = name_trouble_of error ≡ Some trouble

-- Behind entries that all passed came one that has this trouble.
abbrev pub StopsAt : {R A F D S : Type 0} → (S → Option (Given R A F D) → S → Type 0) → S → Trouble → Type 0
StopsAt {R} {A} {F} {D} {S} steps entries trouble =
    (taken : List (Given R A F D)) × (last : Given R A F D) × (left : S) × Yields steps entries (taken ++ last ∷ []) left
    × ArePassed taken × HasTrouble last trouble
