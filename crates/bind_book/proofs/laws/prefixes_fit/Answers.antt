use Rattle.std.proofs.Common.{List, take, subst, sym}
use Rattle.std.specs.List.{AllByRecursion}
use Rattle.std.proofs.lemmas.List.{take_all}
use Rattle.mud_base.specs.declared.prefix.Prefix.{Prefix}
use Rattle.table_model.specs.Binds.{IsKeptNetwork}
use Rattle.bind_book.proofs.SoFar.{take_one}
use Rattle.bind_book.proofs.laws.prefixes_fit.Goals as goal
use Rattle.base_rows.proofs.Lists.{all_push}

pub loop-prefix-preserved : goal.loop-prefix-preserved
loop-prefix-preserved c =
    let prefixes : List Prefix = c.args.prefixes.now in
    subst (AllByRecursion IsKeptNetwork) (sym (take_one prefixes c.loop-prefix.prefix-index c.prefix-item.result c.loop-prefix-test.true c.prefix-item.is))
    (all_push IsKeptNetwork (take c.loop-prefix.prefix-index prefixes) c.prefix-item.result c.loop-prefix.invariant c.prefix_fits.ensures)

pub returns : goal.returns
returns c = subst (AllByRecursion IsKeptNetwork) (take_all c.loop-prefix.prefix-index c.args.prefixes.now c.loop-prefix-test.false) c.loop-prefix.invariant
