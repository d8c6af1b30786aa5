-- The lines as `clap` is told of them: a subcommand for the first word of each, and a positional argument for each word behind it.
use Rattle.std.specs.Prelude.{◌≡◌, ◌≢◌, true, false, ℕ, List, [], ◌∷◌, codes, fold, map}
use Rattle.clap.specs.Words.{App, Rule, app_of, fault_of, new_app, new_rule, with_rule, with_subcommand}
use Rattle.clap.specs.declared.builder.command.Command.{Command}
use Rattle.clap.specs.declared.builder.command.Command.TheViews.{out-Command}
use Rattle.run_words.specs.declared.parser.Line.{Line}

-- the name of a line's command, and the names of the words behind it
abbrev pub Words : Type 0
Words = List ℕ × List (List ℕ)

abbrev pub shown : Line → Words
shown line = (line.name.now, map (λ operand. operand.now) line.operands.now)

-- the lines of the usage text
abbrev pub lines : List Words
lines =
    (codes "hear", codes "MESSAGE" ∷ []) ∷ (codes "check", []) ∷ (codes "frames", []) ∷ (codes "judge", codes "STORE" ∷ [])
    ∷ (codes "snoop", codes "STORE" ∷ []) ∷ (codes "tally", codes "STORE" ∷ []) ∷ (codes "import", codes "STORE" ∷ codes "FOLDER" ∷ [])
    ∷ (codes "report", codes "STORE" ∷ codes "KIND" ∷ []) ∷ (codes "export", codes "STORE" ∷ codes "MAC" ∷ []) ∷ (codes "replay", codes "STORE" ∷ [])
    ∷ (codes "serve", codes "STORE" ∷ codes "PORT" ∷ codes "COUNT" ∷ []) ∷ (codes "drill", codes "N" ∷ []) ∷ []

-- a line wants each of its words
abbrev pub operand_rule : List ℕ → Rule
operand_rule name = record (new_rule name) { required = true }

abbrev pub with_operand : App → List ℕ → App
with_operand line name = with_rule line (operand_rule name)

abbrev pub line_of : Words → App
line_of words = fold with_operand (new_app words.0) words.1

abbrev pub with_line : App → Words → App
with_line program words = with_subcommand program (line_of words).top

-- the command is this line
pub record IsLine (line : App) (command : Command) : Type 0 where
  pub app : app_of command ≡ line
  pub local : (out-Command command).has_globals ≡ false

-- a program without lines: it has neither `--help` nor `help`
abbrev pub bare_program : App
bare_program = record (new_app (codes "mud")) {
  top = record (new_app (codes "mud")).top {
    no_binary_name = true;
    disable_help_flag = true;
    disable_help_subcommand = true;
    subcommand_required = true;
  };
}

abbrev pub program : App
program = fold with_line bare_program lines

-- `clap` refuses the words
pub record IsRefused (words : List (List ℕ)) : Type 0 where
  pub faulty : fault_of program words ≢ []
