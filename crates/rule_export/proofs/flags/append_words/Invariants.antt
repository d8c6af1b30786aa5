use Rattle.std.proofs.Common.{◌≡◌, ◌++◌, drop, true}
use Rattle.rule_export.specs.Flags.{words_text}
use Rattle.rule_export.proofs.flags.append_words.Given as goal

abbrev pub invariant-flags : goal.invariant-flags
invariant-flags l = l.line ++ words_text l.first l.octet (drop l.flag-index l.flags) ≡ l.initial.line ++ words_text true l.octet l.flags
