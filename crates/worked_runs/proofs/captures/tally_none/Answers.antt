use Rattle.std.proofs.Common.{◌≡◌, ◌∙◌, codes, [], ◌∷◌, ap, refl, subst, sym}
use Rattle.std.specs.List.{AllByRecursion}
use Rattle.mud_base.specs.Numbers.{IsOctets}
use Rattle.mud_world.specs.declared.item.Item.{Item}
use Rattle.desk_model.specs.DeskTables.{empty_desk}
use Rattle.desk_model.specs.Items.{tables_in}
use Rattle.run_words.specs.declared.command.Command.TheVariants.{Tally}
use Rattle.desk_model.specs.Sessions.{opened}
use Rattle.run_packets.specs.Tally.Store.{output_of_tally}
use Rattle.worked_runs.specs.Inputs.{empty_capture}
use Rattle.worked_runs.proofs.Ends.{first_of, named}
use Rattle.worked_runs.proofs.Stores.{reads_end}
use Rattle.worked_runs.proofs.Examples.{tally, no_totals, no_items}
use Rattle.worked_runs.proofs.captures.tally_none.Goals as goal

pub returns : goal.returns
returns c =
    let given = c.given_alone-given.ensures in
    let ran = c.in_ok-ended.ensures in
    let none : ran.kept.items.rows ≡ [] = ran.keeper_is.given ∙ given.items_are in
    reads_end _ ran.kept c.in_ok-ended.ended.keeper empty_desk (ap tables_in none ∙ no_items) (subst (AllByRecursion (λ item. IsOctets item.body)) (sym none) tt) tt tt ran.keeper_is.count
    (λ tables. output_of_tally (opened tables)) empty_capture (codes "packets 0 unmanaged 0 link 0 unreadable 0 pass 0 drop 0 both 0\n") 0 (first_of empty_capture (given.pieces_are ∙ c.in_ok-pieces.ensures) ran.door_is.state) ran.door_is.reads ran.door_is.writes no_totals
    (ran.does Tally (named (codes "tally" ∷ codes "store.db" ∷ []) Tally (given.words_are ∙ c.in_ok-words.ensures) tally))
