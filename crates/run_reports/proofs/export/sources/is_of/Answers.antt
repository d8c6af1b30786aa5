use Rattle.std.proofs.Common.{true, false, refl, sym, ◌∙◌}
use Rattle.std.specs.declared.cmp.Ordering.TheVariants.{Less, Equal, Greater}
use Rattle.run_reports.proofs.ExportLaws.Things.{told_same}
use Rattle.run_reports.proofs.export.sources.is_of.Goals as goal

pub returns-in-Less : goal.returns-in-Less
returns-in-Less c = told_same c.args.mac c.args.thing.now Less false (sym c.in-Less.is ∙ c.order_to.ensures) refl

pub returns-in-Equal : goal.returns-in-Equal
returns-in-Equal c = told_same c.args.mac c.args.thing.now Equal true (sym c.in-Equal.is ∙ c.order_to.ensures) refl

pub returns-in-Greater : goal.returns-in-Greater
returns-in-Greater c = told_same c.args.mac c.args.thing.now Greater false (sym c.in-Greater.is ∙ c.order_to.ensures) refl
