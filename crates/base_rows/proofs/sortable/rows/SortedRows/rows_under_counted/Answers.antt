use Rattle.std.proofs.Common.{◌≡◌, ◌-◌, length, ap, ◌∙◌, arith}
use Rattle.base_rows.proofs.Digits.{few_digits}
use Rattle.base_rows.proofs.sortable.rows.SortedRows.rows_under_counted.Goals as goal

pub returns-clause-digits : goal.returns-clause-digits
returns-clause-digits g c = λ b few.
    let long : length c.as_slice.result.now ≡ length c.args.self.now.rows = ap length (c.as_slice.ensures.value ∙ ap (λ s. s.rows) c.self.view_is) in
    omega (arith, few_digits (c.stretch_under.new.steps - c.args.steps.now - length c.stretch_under.result.now) (length c.as_slice.result.now) b c.stretch_under.ensures.most (omega (arith, long, few)))
