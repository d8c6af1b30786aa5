use Rattle.std.proofs.Common.{◌-◌, ◌≤◌, length}
use Rattle.json.specs.Written.{PlainBetween}
use Rattle.console_answers.proofs.plain.is_long_plain.Given as goal

abbrev pub invariant-text : goal.invariant-text
invariant-text l = (l.at ≤ length l.text) × PlainBetween l.text 0 l.at

abbrev pub decreases-text : goal.decreases-text
decreases-text l = length l.text - l.at
