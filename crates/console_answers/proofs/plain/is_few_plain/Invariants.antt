use Rattle.json.specs.Written.{PlainBetween}
use Rattle.console_answers.proofs.plain.is_few_plain.Given as goal

abbrev pub invariant-text : goal.invariant-text
invariant-text l = PlainBetween l.text 0 l.octet-index
