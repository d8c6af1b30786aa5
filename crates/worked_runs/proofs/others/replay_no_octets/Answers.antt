use Rattle.std.proofs.Common.{◌≡◌, ◌∙◌, codes, [], ◌∷◌, ap, refl, subst, sym}
use Rattle.std.specs.List.{AllByRecursion}
use Rattle.mud_base.specs.Numbers.{IsOctets}
use Rattle.mud_world.specs.declared.item.Item.{Item}
use Rattle.desk_model.specs.DeskTables.{empty_desk}
use Rattle.desk_model.specs.Items.{tables_in}
use Rattle.run_words.specs.declared.command.Command.TheVariants.{Replay}
use Rattle.worked_runs.proofs.Ends.{first_of, named}
use Rattle.worked_runs.proofs.Replays.{replays_end}
use Rattle.worked_runs.proofs.Examples.{replay, no_items}
use Rattle.worked_runs.proofs.others.replay_no_octets.Goals as goal

pub returns : goal.returns
returns c =
    let given = c.given_alone-given.ensures in
    let ran = c.in_ok-ended.ensures in
    let none : ran.kept.items.rows ≡ [] = ran.keeper_is.given ∙ given.items_are in
    replays_end _ ran.kept c.in_ok-ended.ended.keeper empty_desk (ap tables_in none ∙ no_items) (subst (AllByRecursion (λ item. IsOctets item.body)) (sym none) tt) tt tt ran.keeper_is.count
    (first_of [] (given.pieces_are ∙ c.new.ensures) ran.door_is.state) ran.door_is.reads ran.door_is.writes
    (ran.does Replay (named (codes "replay" ∷ codes "store.db" ∷ []) Replay (given.words_are ∙ c.in_ok-words.ensures) replay))
