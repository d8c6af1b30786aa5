use Rattle.std.proofs.Common.{subst}
use Rattle.mud_base.specs.Numbers.{IsOctets}
use Rattle.mud_desk.proofs.ItemsLaws.Anew.{octets_more, octets_all}
use Rattle.mud_desk.proofs.items.opening.bodies_fit.Goals as goal

pub loop-item-preserved : goal.loop-item-preserved
loop-item-preserved c = octets_more c.args.items.now c.loop-item.item-index c.item-item.result c.loop-item-test.true c.item-item.is c.loop-item.invariant (subst IsOctets c.octets.ensures c.octets_fit.ensures)

pub returns : goal.returns
returns c = octets_all c.args.items.now c.loop-item.item-index c.loop-item-test.false c.loop-item.invariant
