-- The first octets of what a file has.
use Rattle.std.proofs.Common.{◌≡◌, ℕ, ◌≤◌, List, ◌++◌, length, take, Option, Some, None, sym, ap, ◌∙◌, append-nil}
use Rattle.std.specs.Prelude.{IfSome}
use Rattle.std.specs.Io.KnownBytes.{Consumes, IsAtEnd}
use Rattle.std.proofs.lemmas.List.{take_all, take_at}

-- a file that was read to its end, where it has at most so many
pub all_read : (most : ℕ) (before now : Option (List ℕ)) (text : List ℕ) → Consumes before now text → IsAtEnd now → length text ≤ most
    → IfSome before (λ content. text ≡ take most content)
all_read most None now text read ended within = tt
all_read most (Some content) None text read ended within = absurd read
all_read most (Some content) (Some left) text read ended within =
    let whole : content ≡ text = read ∙ ap (λ (rest : List ℕ). text ++ rest) ended ∙ append-nil text in
    sym (ap (take most) whole ∙ take_all most text within)

-- a file of which so many were read
pub most_read : (most : ℕ) (before now : Option (List ℕ)) (text : List ℕ) → Consumes before now text → length text ≡ most
    → IfSome before (λ content. text ≡ take most content)
most_read most None now text read full = tt
most_read most (Some content) None text read full = absurd read
most_read most (Some content) (Some left) text read full = sym (ap (take most) read ∙ take_at text left most full)
