use Rattle.std.proofs.Common.{◌≡◌, ◌∙◌, codes, [], ◌∷◌, ap, refl, subst, sym}
use Rattle.std.specs.List.{AllByRecursion}
use Rattle.mud_base.specs.Numbers.{IsOctets}
use Rattle.mud_world.specs.declared.item.Item.{Item}
use Rattle.desk_model.specs.DeskTables.{empty_desk}
use Rattle.desk_model.specs.Items.{tables_in}
use Rattle.run_words.specs.declared.command.Command.TheVariants.{Snoop}
use Rattle.worked_runs.specs.Inputs.{empty_capture}
use Rattle.worked_runs.proofs.Ends.{first_of, named}
use Rattle.worked_runs.proofs.Changes.{snoops_end}
use Rattle.worked_runs.proofs.Examples.{snoop, no_packets, no_items}
use Rattle.worked_runs.proofs.captures.snoop_none.Goals as goal

pub returns : goal.returns
returns c =
    let given = c.given_alone-given.ensures in
    let ran = c.in_ok-ended.ensures in
    let none : ran.kept.items.rows ≡ [] = ran.keeper_is.given ∙ given.items_are in
    snoops_end _ ran.kept c.in_ok-ended.ended.keeper empty_desk (ap tables_in none ∙ no_items) (subst (AllByRecursion (λ item. IsOctets item.body)) (sym none) tt) tt tt ran.keeper_is.count
    empty_capture (first_of empty_capture (given.pieces_are ∙ c.in_ok-pieces.ensures) ran.door_is.state) ran.door_is.reads ran.door_is.writes no_packets
    (ran.does Snoop (named (codes "snoop" ∷ codes "store.db" ∷ []) Snoop (given.words_are ∙ c.in_ok-words.ensures) snoop))
