use Rattle.std.proofs.Common.{◌≡◌, ◌∙◌, codes, [], ◌∷◌, ap, refl, subst, sym, lit≤}
use Rattle.std.specs.List.{AllByRecursion}
use Rattle.mud_base.specs.Numbers.{IsOctets}
use Rattle.mud_world.specs.declared.item.Item.{Item}
use Rattle.worked_runs.specs.Inputs.{unknown_item}
use Rattle.desk_model.specs.Items.{tables_in}
use Rattle.run_words.specs.declared.command.Command.TheVariants.{Report}
use Rattle.run_words.specs.declared.command.ReportKind.TheVariants.{Things}
use Rattle.worked_runs.proofs.Ends.{first_of, named}
use Rattle.worked_runs.proofs.Stores.{reports_item}
use Rattle.worked_runs.proofs.Examples.{report_things, item_line, no_record}
use Rattle.worked_runs.proofs.report.report_bad_item.Goals as goal

pub returns : goal.returns
returns c =
    let given = c.given_over-given.ensures in
    let ran = c.in_ok-ended.ensures in
    let none : ran.kept.items.rows ≡ unknown_item ∷ [] = ran.keeper_is.given ∙ (given.items_are ∙ c.in_ok-items.ensures) in
    reports_item _ ran.kept c.in_ok-ended.ended.keeper unknown_item (ap tables_in none ∙ no_record) (subst (AllByRecursion (λ item. IsOctets item.body)) (sym none) (λ i. lit≤ tt, tt)) tt tt ran.keeper_is.count
    Things (unknown_item ∷ []) [] (codes "fault item 9\n") none (first_of [] (given.pieces_are ∙ c.new.ensures) ran.door_is.state) ran.door_is.writes item_line
    (ran.does (Report Things) (named (codes "report" ∷ codes "store.db" ∷ codes "things" ∷ []) (Report Things) (given.words_are ∙ c.in_ok-words.ensures) report_things)).0
