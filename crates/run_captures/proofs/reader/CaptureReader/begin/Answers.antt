use Rattle.std.proofs.Common.{◌≡◌, List, ℕ, true, false, sym, ◌∙◌, ap}
use Rattle.std.specs.Str.{bytes_eq}
use Rattle.run_captures.proofs.Begins.{begun_next, begun_classic}
use Rattle.run_captures.proofs.reader.CaptureReader.begin.Goals as goal
use Rattle.run_captures.proofs.Parts.{next_first}

pub returns-then-is_next-clause-begun : goal.returns-then-is_next-clause-begun
returns-then-is_next-clause-begun g c = λ t.
    let first = c.in_ok-first.first in
    let is : bytes_eq first next_first ≡ true = ap (λ (octets : List ℕ). bytes_eq octets next_first) (sym c.octets.ensures.value) ∙ sym c.is_next.ensures ∙ c.if-is_next.true in
    rw (c.in_ok-reader.ensures, c.octets-then-is_next.ensures.value) (begun_next first _ _ (c.in_ok-first.ensures.first t) is)

pub returns-clause-begun : goal.returns-clause-begun
returns-clause-begun g c = λ t.
    let first = c.in_ok-first.first in
    let is : bytes_eq first next_first ≡ false = ap (λ (octets : List ℕ). bytes_eq octets next_first) (sym c.octets.ensures.value) ∙ sym c.is_next.ensures ∙ c.if-is_next.false in
    rw (c.in_ok-reader-2.ensures, c.octets-2.ensures.value) (begun_classic first _ _ (c.in_ok-first.ensures.first t) is)
