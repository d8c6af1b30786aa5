use Rattle.std.proofs.Common.{◌≡◌, map, take}
use Rattle.std.specs.Prelude.{fold}
use Rattle.clap.specs.Words.{app_of}
use Rattle.run_words.specs.Parser.{shown, bare_program, with_line}
use Rattle.run_words.proofs.parser.program.Given as goal

-- the lines so far are told
abbrev pub invariant-loop-line : goal.invariant-loop-line
invariant-loop-line l = app_of l.program ≡ fold with_line bare_program (map shown (take l.line-index l.lines))
