use Rattle.std.proofs.Common.{map, take}
use Rattle.clap.specs.Words.{new_app}
use Rattle.std.specs.Prelude.{fold}
use Rattle.run_words.specs.Parser.{IsLine, with_operand}
use Rattle.run_words.proofs.parser.subcommand.Given as goal

-- the words so far are wanted
abbrev pub invariant-loop-name : goal.invariant-loop-name
invariant-loop-name l = IsLine (fold with_operand (new_app l.line.name.now) (map (λ operand. operand.now) (take l.name-index l.operands))) l.subcommand
