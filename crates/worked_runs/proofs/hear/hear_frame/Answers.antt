use Rattle.std.proofs.Common.{◌≡◌, ◌∙◌, codes, [], ◌∷◌, ap, refl, subst, sym}
use Rattle.run_words.specs.declared.command.Command.TheVariants.{Hear}
use Rattle.run_words.specs.declared.command.Message.TheVariants.{Lldp}
use Rattle.worked_runs.specs.Inputs.{bare_frame}
use Rattle.mud_cli.specs.Answers.{output_of_input}
use Rattle.mud_cli.specs.declared.answer.Input.TheVariants as input
use Rattle.worked_runs.proofs.Ends.{first_of, named, promised_ends}
use Rattle.worked_runs.proofs.Examples.{hear_lldp, bare}
use Rattle.worked_runs.proofs.hear.hear_frame.Goals as goal

pub returns : goal.returns
returns c =
    let given = c.given_alone-given.ensures in
    let ran = c.in_ok-ended.ensures in
    promised_ends (output_of_input (input.Message Lldp)) bare_frame (codes "nothing\n") 0
    (first_of bare_frame (given.pieces_are ∙ c.in_ok-pieces.ensures) ran.door_is.state) ran.door_is.reads ran.door_is.writes bare (ran.does (Hear Lldp) (named (codes "hear" ∷ codes "lldp" ∷ []) (Hear Lldp) (given.words_are ∙ c.in_ok-words.ensures) hear_lldp)).writes
