use Rattle.std.proofs.Common.{◌≡◌, ◌∙◌, codes, [], ◌∷◌, ap, refl, subst, sym}
use Rattle.std.specs.List.{AllByRecursion}
use Rattle.mud_base.specs.Numbers.{IsOctets}
use Rattle.mud_world.specs.declared.item.Item.{Item}
use Rattle.desk_model.specs.DeskTables.{empty_desk}
use Rattle.desk_model.specs.Items.{tables_in}
use Rattle.run_words.specs.declared.command.Command.TheVariants.{Import}
use Rattle.worked_runs.proofs.Ends.{first_of, named}
use Rattle.worked_runs.proofs.Changes.{imports_end}
use Rattle.worked_runs.proofs.Examples.{import_folder, no_items}
use Rattle.worked_runs.proofs.import.import_no_file.Goals as goal

pub returns : goal.returns
returns c =
    let given = c.given_alone-given.ensures in
    let ran = c.in_ok-ended.ensures in
    let none : ran.kept.items.rows ≡ [] = ran.keeper_is.given ∙ given.items_are in
    imports_end _ ran.kept c.in_ok-ended.ended.keeper empty_desk (ap tables_in none ∙ no_items) (subst (AllByRecursion (λ item. IsOctets item.body)) (sym none) tt) tt tt ran.keeper_is.count
    [] (first_of [] (given.pieces_are ∙ c.new.ensures) ran.door_is.state) ran.door_is.writes ran.spool_is.count (ran.spool_is.given ∙ given.no_files)
    (ran.does Import (named (codes "import" ∷ codes "store.db" ∷ codes "folder" ∷ []) Import (given.words_are ∙ c.in_ok-words.ensures) import_folder))
