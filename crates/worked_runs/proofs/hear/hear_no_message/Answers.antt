use Rattle.std.proofs.Common.{◌≡◌, ◌∙◌, codes, [], ◌∷◌, ap, refl, subst, sym}
use Rattle.run_words.specs.declared.command.Command.TheVariants.{Hear}
use Rattle.run_words.specs.declared.command.Message.TheVariants.{Dhcp}
use Rattle.mud_cli.specs.Answers.{output_of_input}
use Rattle.mud_cli.specs.declared.answer.Input.TheVariants as input
use Rattle.worked_runs.proofs.Ends.{first_of, named, promised_ends}
use Rattle.worked_runs.proofs.Examples.{hear_dhcp, no_message}
use Rattle.worked_runs.proofs.hear.hear_no_message.Goals as goal

pub returns : goal.returns
returns c =
    let given = c.given_alone-given.ensures in
    let ran = c.in_ok-ended.ensures in
    promised_ends (output_of_input (input.Message Dhcp)) [] (codes "fault Cut 0\n") 3
    (first_of [] (given.pieces_are ∙ c.new.ensures) ran.door_is.state) ran.door_is.reads ran.door_is.writes no_message (ran.does (Hear Dhcp) (named (codes "hear" ∷ codes "dhcp" ∷ []) (Hear Dhcp) (given.words_are ∙ c.in_ok-words.ensures) hear_dhcp)).writes
