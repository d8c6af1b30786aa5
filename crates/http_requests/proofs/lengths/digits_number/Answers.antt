use Rattle.std.proofs.Common.{◌≡◌, ◌+◌, ◌-◌, ◌*◌, ◌<◌, arith, sym, true, get_or, ap, ◌∙◌}
use Rattle.std.specs.Char.{is_ascii_digit}
use Rattle.std.proofs.lemmas.List.Folds.{list_all_more}
use Rattle.std.proofs.lemmas.Bool.{and_from}
use Rattle.http_requests.proofs.Digits.{digits_step, power_step}
use Rattle.http_requests.proofs.lengths.digits_number.Goals as goal

pub loop-digit-preserved : goal.loop-digit-preserved
loop-digit-preserved c =
    let text = c.args.text.now in
    let i = c.loop-digit.digit-index in
    let digit : is_ascii_digit (get_or text i 0) ≡ true = sym c.if-not-is_ascii_digit.ensures.value in
    let few : get_or text i 0 - 48 < 10 = grind arith in
    let value : c.from.result ≡ get_or text i 0 - 48 = c.from.ensures in
    record {
      value = ap (λ d. c.loop-digit.number * 10 + d) value ∙ digits_step text i c.loop-digit.number c.loop-digit-test.true digit c.loop-digit.invariant.value;
      digits = list_all_more is_ascii_digit text i 0 c.loop-digit-test.true ∙ and_from _ _ c.loop-digit.invariant.digits digit;
      small = power_step c.loop-digit.number c.from.result i c.loop-digit.invariant.small (omega arith);
    }
