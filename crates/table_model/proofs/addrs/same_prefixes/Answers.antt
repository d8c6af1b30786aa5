use Rattle.std.proofs.Common.{◌-◌, sym, ◌∙◌, arith}
use Rattle.table_model.proofs.SamePrefixes.{at_end, others_there, same_from}
use Rattle.table_model.proofs.addrs.same_prefixes.Goals as goal

pub loop-at-init : goal.loop-at-init
loop-at-init c = (omega arith, at_end c.args.first.now c.args.second.now (omega arith))

pub returns-then-not-same_prefix : goal.returns-then-not-same_prefix
returns-then-not-same_prefix c =
    sym (others_there c.args.first.now c.args.second.now (c.loop-at.at - 1) c.index-first-at.result c.index-second-at.result (omega arith) (omega arith) c.index-first-at.is c.index-second-at.is (sym c.same_prefix.ensures ∙ c.if-not-same_prefix.true))

pub loop-at-preserved : goal.loop-at-preserved
loop-at-preserved c = (
  omega arith,
  same_from c.args.first.now c.args.second.now (c.loop-at.at - 1) c.loop-at.at c.index-first-at.result c.index-second-at.result (omega arith) (omega arith) (omega arith) c.index-first-at.is c.index-second-at.is (sym c.same_prefix.ensures ∙ c.if-not-same_prefix.false) c.loop-at.invariant.1,
)
