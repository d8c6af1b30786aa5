-- Lines that are written out, and the commands that they are.
use Rattle.std.specs.Prelude.{◌≡◌, ⊤, [], ◌∷◌, codes, Some, None, refl}
use Rattle.mud_base.specs.Decimal.{digits_upto, number_upto}
use Rattle.mud_base.proofs.OnLiterals.{texts_on_literals}
use Rattle.run_words.specs.declared.command.Command.TheVariants.{Hear, Check, Frames, Judge, Tally, Snoop, Import, Replay, Serve, Report, Export, Drill}
use Rattle.run_words.specs.declared.command.Message.TheVariants.{Dhcp, Lldp}
use Rattle.run_words.specs.declared.command.ReportKind.TheVariants.{Things, Files, Classes, Locals, Names, Due}
use Rattle.run_words.specs.Words.{begins_with_dash, is_path, count_in, kind_in, line_in, command_in}

-- what a proof unfolds to compute with lines that are written out
unfoldable lines_on_literals : ⊤
unfolding texts_on_literals digits_upto number_upto begins_with_dash is_path count_in kind_in line_in command_in
lines_on_literals = tt

-- ---- each line

hear_dhcp : command_in (codes "hear" ∷ codes "dhcp" ∷ []) ≡ Some (Hear Dhcp)
unfolding lines_on_literals
hear_dhcp = refl

hear_lldp : command_in (codes "hear" ∷ codes "lldp" ∷ []) ≡ Some (Hear Lldp)
unfolding lines_on_literals
hear_lldp = refl

check : command_in (codes "check" ∷ []) ≡ Some Check
unfolding lines_on_literals
check = refl

frames : command_in (codes "frames" ∷ []) ≡ Some Frames
unfolding lines_on_literals
frames = refl

judge : command_in (codes "judge" ∷ codes "desk.db" ∷ []) ≡ Some Judge
unfolding lines_on_literals
judge = refl

snoop : command_in (codes "snoop" ∷ codes "desk.db" ∷ []) ≡ Some Snoop
unfolding lines_on_literals
snoop = refl

tally : command_in (codes "tally" ∷ codes "desk.db" ∷ []) ≡ Some Tally
unfolding lines_on_literals
tally = refl

import_folder : command_in (codes "import" ∷ codes ":memory:" ∷ codes "folder" ∷ []) ≡ Some Import
unfolding lines_on_literals
import_folder = refl

replay : command_in (codes "replay" ∷ codes "check" ∷ []) ≡ Some Replay
unfolding lines_on_literals
replay = refl

serve : command_in (codes "serve" ∷ codes ":memory:" ∷ codes "8080" ∷ codes "2" ∷ []) ≡ Some (Serve 8080 2)
unfolding lines_on_literals
serve = refl

serve_least : command_in (codes "serve" ∷ codes "a" ∷ codes "1" ∷ codes "1" ∷ []) ≡ Some (Serve 1 1)
unfolding lines_on_literals
serve_least = refl

serve_most : command_in (codes "serve" ∷ codes "a" ∷ codes "65535" ∷ codes "1000000" ∷ []) ≡ Some (Serve 65535 1000000)
unfolding lines_on_literals
serve_most = refl

report_things : command_in (codes "report" ∷ codes "a" ∷ codes "things" ∷ []) ≡ Some (Report Things)
unfolding lines_on_literals
report_things = refl

report_files : command_in (codes "report" ∷ codes "a" ∷ codes "files" ∷ []) ≡ Some (Report Files)
unfolding lines_on_literals
report_files = refl

report_classes : command_in (codes "report" ∷ codes "a" ∷ codes "classes" ∷ []) ≡ Some (Report Classes)
unfolding lines_on_literals
report_classes = refl

report_locals : command_in (codes "report" ∷ codes "a" ∷ codes "locals" ∷ []) ≡ Some (Report Locals)
unfolding lines_on_literals
report_locals = refl

report_names : command_in (codes "report" ∷ codes "a" ∷ codes "names" ∷ []) ≡ Some (Report Names)
unfolding lines_on_literals
report_names = refl

export_of_a_thing : command_in (codes "export" ∷ codes "a" ∷ codes "02:00:00:00:00:0A" ∷ []) ≡ Some (Export (record { 0 = 2 ∷ 0 ∷ 0 ∷ 0 ∷ 0 ∷ 10 ∷ [] }))
unfolding lines_on_literals
export_of_a_thing = refl

export_of_no_address : command_in (codes "export" ∷ codes "a" ∷ codes "02:00:00:00:00" ∷ []) ≡ None
unfolding lines_on_literals
export_of_no_address = refl

report_due : command_in (codes "report" ∷ codes "a" ∷ codes "due" ∷ []) ≡ Some (Report Due)
unfolding lines_on_literals
report_due = refl

drill : command_in (codes "drill" ∷ codes "5" ∷ []) ≡ Some (Drill 5)
unfolding lines_on_literals
drill = refl

drill_most : command_in (codes "drill" ∷ codes "100000" ∷ []) ≡ Some (Drill 100000)
unfolding lines_on_literals
drill_most = refl

-- ---- what isn't listed

no_words : command_in [] ≡ None
unfolding lines_on_literals
no_words = refl

help : command_in (codes "--help" ∷ []) ≡ None
unfolding lines_on_literals
help = refl

version : command_in (codes "--version" ∷ []) ≡ None
unfolding lines_on_literals
version = refl

upper_case : command_in (codes "Check" ∷ []) ≡ None
unfolding lines_on_literals
upper_case = refl

word_too_many : command_in (codes "check" ∷ codes "" ∷ []) ≡ None
unfolding lines_on_literals
word_too_many = refl

word_missing : command_in (codes "judge" ∷ []) ≡ None
unfolding lines_on_literals
word_missing = refl

no_message : command_in (codes "hear" ∷ codes "dhcp6" ∷ []) ≡ None
unfolding lines_on_literals
no_message = refl

empty_store : command_in (codes "judge" ∷ codes "" ∷ []) ≡ None
unfolding lines_on_literals
empty_store = refl

dashed_store : command_in (codes "judge" ∷ codes "-" ∷ []) ≡ None
unfolding lines_on_literals
dashed_store = refl

empty_folder : command_in (codes "import" ∷ codes "a" ∷ codes "" ∷ []) ≡ None
unfolding lines_on_literals
empty_folder = refl

dashed_folder : command_in (codes "import" ∷ codes "a" ∷ codes "-b" ∷ []) ≡ None
unfolding lines_on_literals
dashed_folder = refl

no_kind : command_in (codes "report" ∷ codes "a" ∷ codes "thing" ∷ []) ≡ None
unfolding lines_on_literals
no_kind = refl

port_zero : command_in (codes "serve" ∷ codes "a" ∷ codes "0" ∷ codes "1" ∷ []) ≡ None
unfolding lines_on_literals
port_zero = refl

port_above : command_in (codes "serve" ∷ codes "a" ∷ codes "65536" ∷ codes "1" ∷ []) ≡ None
unfolding lines_on_literals
port_above = refl

leading_zero : command_in (codes "serve" ∷ codes "a" ∷ codes "080" ∷ codes "1" ∷ []) ≡ None
unfolding lines_on_literals
leading_zero = refl

count_above : command_in (codes "serve" ∷ codes "a" ∷ codes "80" ∷ codes "1000001" ∷ []) ≡ None
unfolding lines_on_literals
count_above = refl

count_empty : command_in (codes "serve" ∷ codes "a" ∷ codes "80" ∷ codes "" ∷ []) ≡ None
unfolding lines_on_literals
count_empty = refl

drill_zero : command_in (codes "drill" ∷ codes "0" ∷ []) ≡ None
unfolding lines_on_literals
drill_zero = refl

drill_leading_zero : command_in (codes "drill" ∷ codes "08" ∷ []) ≡ None
unfolding lines_on_literals
drill_leading_zero = refl

drill_signed : command_in (codes "drill" ∷ codes "+8" ∷ []) ≡ None
unfolding lines_on_literals
drill_signed = refl

drill_above : command_in (codes "drill" ∷ codes "100001" ∷ []) ≡ None
unfolding lines_on_literals
drill_above = refl
