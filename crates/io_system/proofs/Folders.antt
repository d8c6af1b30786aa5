-- The entries of a folder, one after the other.
use Rattle.std.proofs.Common.{◌≡◌, ℕ, ◌⊎◌, inl, inr, ◌++◌, List, [], ◌∷◌, Option, Some, Ok, Err, refl, ap, sym, ◌∙◌}
use Rattle.std.specs.Iterator.{Yields}
use Rattle.std.proofs.iter.Next.{Yields-more}
use Rattle.std.specs.Fs.{dir_entry_name}
use Rattle.io_system.specs.Folders.{names_of, ArePassed, Given, HasTrouble, StopsAt}
use Rattle.io_system.specs.declared.spool.Trouble.{Trouble}
use Rattle.io_system.specs.declared.spool.Trouble.TheVariants.{Memory}

pub names_of-push : {R A F D : Type 0} (taken : List (Given R A F D)) (last : Given R A F D) → names_of (taken ++ last ∷ []) ≡ names_of taken ++ names_of (last ∷ [])
names_of-push [] last = refl
names_of-push (Ok entry ∷ rest) last = ap (λ names. dir_entry_name entry ∷ names) (names_of-push rest last)
names_of-push (Err error ∷ rest) last = names_of-push rest last

pub passed-push : {R A F D : Type 0} (taken : List (Given R A F D)) (last : Given R A F D) → ArePassed taken → ArePassed (last ∷ []) → ArePassed (taken ++ last ∷ [])
passed-push [] last passed also = also
passed-push (Ok entry ∷ rest) last passed also = passed-push rest last passed also
passed-push (Err error ∷ rest) last passed also = (passed.0, passed-push rest last passed.1 also)

-- the names that a turn makes
pub names-after : {R A F D : Type 0} (taken : List (Given R A F D)) (last : Given R A F D) (old new : List (List ℕ)) → old ≡ names_of taken
    → new ≡ old ++ names_of (last ∷ []) → new ≡ names_of (taken ++ last ∷ [])
names-after taken last old new was added = added ∙ ap (λ names. names ++ names_of (last ∷ [])) was ∙ sym (names_of-push taken last)

-- why a turn ends it
pub stops-behind : {R A F D S : Type 0} (steps : S → Option (Given R A F D) → S → Type 0) (entries : S) (taken : List (Given R A F D)) (at : S)
    (last : Given R A F D) (left : S) (trouble : Trouble) → Yields steps entries taken at → steps at (Some last) left
    → ArePassed taken → (trouble ≡ Memory) ⊎ HasTrouble last trouble → (trouble ≡ Memory) ⊎ StopsAt steps entries trouble
stops-behind steps entries taken at last left trouble yielded came passed (inl wanted) = inl wanted
stops-behind steps entries taken at last left trouble yielded came passed (inr has) =
    inr (taken, last, left, Yields-more steps entries taken at last left yielded came, passed, has)
