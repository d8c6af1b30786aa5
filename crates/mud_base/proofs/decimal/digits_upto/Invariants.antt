use Rattle.std.proofs.Common.{◌≡◌, ◌≤◌, drop}
use Rattle.mud_base.specs.Decimal as spec
use Rattle.mud_base.proofs.decimal.digits_upto.Given as goal

abbrev pub invariant-loop-digit : goal.invariant-loop-digit
invariant-loop-digit l = record {
  within : l.number ≤ l.most;
  same : spec.digits_upto l.most l.number (drop l.digit-index l.text) ≡ spec.digits_upto l.most 0 l.text;
}
