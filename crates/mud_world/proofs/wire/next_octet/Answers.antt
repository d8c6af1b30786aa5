use Rattle.std.proofs.Common.{◌∙◌}
use Rattle.mud_world.proofs.Wires.{left_on, rest_on}
use Rattle.mud_world.proofs.wire.next_octet.Goals as goal

pub pieces-preserved : goal.pieces-preserved
pieces-preserved c = record {
  left = left_on c.args.pieces.now c.pieces.at c.pieces.behind _ _ c.pieces-test.true c.index-pieces-at.is c.len-len.ensures c.if-behind-len.false ∙ c.pieces.invariant.left;
  rest = rest_on c.args.pieces.now c.pieces.at c.pieces.behind _ _ c.pieces-test.true c.index-pieces-at.is c.len-len.ensures c.if-behind-len.false ∙ c.pieces.invariant.rest;
}
