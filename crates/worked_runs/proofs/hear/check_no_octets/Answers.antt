use Rattle.std.proofs.Common.{◌≡◌, ◌∙◌, codes, [], ◌∷◌, ap, refl, subst, sym}
use Rattle.run_words.specs.declared.command.Command.TheVariants.{Check}
use Rattle.mud_cli.specs.Answers.{output_of_input}
use Rattle.mud_cli.specs.declared.answer.Input.TheVariants as input
use Rattle.worked_runs.proofs.Ends.{first_of, named, promised_ends}
use Rattle.worked_runs.proofs.Examples.{check, no_octets}
use Rattle.worked_runs.proofs.hear.check_no_octets.Goals as goal

pub returns : goal.returns
returns c =
    let given = c.given_alone-given.ensures in
    let ran = c.in_ok-ended.ensures in
    promised_ends (output_of_input input.UsageFile) [] (codes "fault Json\n") 3
    (first_of [] (given.pieces_are ∙ c.new.ensures) ran.door_is.state) ran.door_is.reads ran.door_is.writes no_octets (ran.does Check (named (codes "check" ∷ []) Check (given.words_are ∙ c.in_ok-words.ensures) check)).writes
