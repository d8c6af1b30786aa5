-- What a writer adds that finds no memory, by what the writers that it calls add.
use Rattle.std.proofs.Common.{◌≡◌, ℕ, List, ◌++◌, Result, Ok, Err, OnErr, sym, ap, ◌∙◌, append_assoc}
use Rattle.text_values.specs.Added.{AddedPart}
use Rattle.std.specs.Prelude.{List, flat_map, ℕ}
use Rattle.text_values.specs.Paths.{shown}

-- the front was added, and a part of the piece behind it
pub part_behind : (text front piece more old mid new : List ℕ) → text ≡ front ++ (piece ++ more) → mid ≡ old ++ front → AddedPart piece mid new → AddedPart text old new
part_behind text front piece more old mid new is whole part = record {
  added = front ++ part.added;
  rest = part.rest ++ more;
  split = is
      ∙ ap (λ (behind : List ℕ). front ++ behind) (ap (λ (shown : List ℕ). shown ++ more) part.split ∙ append_assoc part.added part.rest more)
      ∙ sym (append_assoc front part.added (part.rest ++ more));
  grown = part.grown ∙ ap (λ (line : List ℕ). line ++ part.added) whole ∙ append_assoc old front part.added;
}

-- what holds anyhow holds after an error
pub always_on_err : {T E P : Type 0} (r : Result T E) → P → OnErr r P
always_on_err (Ok a) holds = tt
always_on_err (Err e) holds = holds

-- one text behind another
pub behind_both : (s a b t u : List ℕ) → t ≡ s ++ a → u ≡ t ++ b → u ≡ s ++ (a ++ b)
behind_both s a b t u first next = next ∙ ap (λ (x : List ℕ). x ++ b) first ∙ append_assoc s a b

abbrev pub path_text : List ℕ → List ℕ
path_text path = flat_map shown path
