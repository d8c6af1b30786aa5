use Rattle.std.proofs.Common.{◌≡◌, ℕ, ◌+◌, List, [], ◌∷◌, ◌++◌, length, take, drop, refl, sym, ap, subst, ◌∙◌, arith}
use Rattle.drop_ledger.specs.Counted.{count_rows}
use Rattle.drop_ledger.specs.Seen.{rulings}
use Rattle.drop_ledger.specs.Ledger.{StandsFor, counts_of, hour_in}
use Rattle.drop_ledger.specs.contracts.tally.Tally.{the_view}
use Rattle.drop_ledger.proofs.tally.Tally.close_hour.Goals as goal

all_dropped : {A : Type 0} (xs : List A) → drop (length xs) xs ≡ []
all_dropped [] = refl
all_dropped (x ∷ xs) = all_dropped xs

dropped : {A : Type 0} (n : ℕ) (xs : List A) → n ≡ length xs → take 0 xs ++ drop (0 + n) xs ≡ []
dropped n xs is = let e : 0 + n ≡ length xs = omega arith in ap (λ m. drop m xs) e ∙ all_dropped xs

pub returns-clause-stands : goal.returns-clause-stands
unfolding counts_of count_rows rulings hour_in
returns-clause-stands c = λ all latest stands.
    let same : StandsFor all latest (the_view c.self.inside) = subst (StandsFor all latest) (sym c.self.view_is) stands in
    record {
      totals = same.totals;
      hour = refl;
      counts = c.take_run_at.ensures.rows ∙ dropped c.len-len.result c.self.inside.counts.rows c.len-len.ensures;
      denied = same.denied;
      few = omega arith;
    }
