use Rattle.std.proofs.Common.{◌≡◌, ◌∙◌, codes, [], ◌∷◌, ap, refl, subst, sym}
use Rattle.std.specs.List.{AllByRecursion}
use Rattle.mud_base.specs.Numbers.{IsOctets}
use Rattle.mud_world.specs.declared.item.Item.{Item}
use Rattle.desk_model.specs.DeskTables.{empty_desk}
use Rattle.desk_model.specs.Items.{tables_in}
use Rattle.run_words.specs.declared.command.Command.TheVariants.{Export}
use Rattle.worked_runs.proofs.Ends.{first_of, named}
use Rattle.worked_runs.proofs.Stores.{exports_end}
use Rattle.worked_runs.proofs.Examples.{export_thing, no_thing, thing, no_items}
use Rattle.worked_runs.proofs.report.export_no_thing.Goals as goal

pub returns : goal.returns
returns c =
    let given = c.given_alone-given.ensures in
    let ran = c.in_ok-ended.ensures in
    let none : ran.kept.items.rows ≡ [] = ran.keeper_is.given ∙ given.items_are in
    exports_end _ ran.kept c.in_ok-ended.ended.keeper empty_desk (ap tables_in none ∙ no_items) (subst (AllByRecursion (λ item. IsOctets item.body)) (sym none) tt) tt tt ran.keeper_is.count
    thing [] (codes "fault NoThing\n") 3 (first_of [] (given.pieces_are ∙ c.new.ensures) ran.door_is.state) ran.door_is.writes no_thing
    (ran.does (Export thing) (named (codes "export" ∷ codes "store.db" ∷ codes "02:00:00:00:00:01" ∷ []) (Export thing) (given.words_are ∙ c.in_ok-words.ensures) export_thing)).0
