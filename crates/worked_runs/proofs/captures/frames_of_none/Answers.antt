use Rattle.std.proofs.Common.{◌≡◌, ◌∙◌, codes, [], ◌∷◌, ap, refl, subst, sym}
use Rattle.run_words.specs.declared.command.Command.TheVariants.{Frames}
use Rattle.worked_runs.specs.Inputs.{empty_capture}
use Rattle.worked_runs.proofs.Ends.{first_of, named, promised_ends}
use Rattle.worked_runs.proofs.Examples.{frames, frames_output, no_frames}
use Rattle.worked_runs.proofs.captures.frames_of_none.Goals as goal

pub returns : goal.returns
returns c =
    let given = c.given_alone-given.ensures in
    let ran = c.in_ok-ended.ensures in
    promised_ends frames_output empty_capture [] 0
    (first_of empty_capture (given.pieces_are ∙ c.in_ok-pieces.ensures) ran.door_is.state) ran.door_is.reads ran.door_is.writes no_frames (ran.does Frames (named (codes "frames" ∷ []) Frames (given.words_are ∙ c.in_ok-words.ensures) frames)).writes
