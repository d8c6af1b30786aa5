use Rattle.std.proofs.Common.{sym, ap}
use Rattle.desk_model.specs.Items.{KeptDesk}
use Rattle.mud_desk.specs.Items.Loaded.{kept_of}
use Rattle.mud_desk.proofs.ItemsLaws.Reading.{first_bad, all_read}
use Rattle.mud_desk.proofs.items.loaded.take_into.Goals as goal
use Rattle.desk_model.proofs.Parts.{kept_in}

pub loop-index-init : goal.loop-index-init
loop-index-init c = ap (λ (k : KeptDesk). kept_in k c.args.items.now) (sym c.requires)

pub returns-then-not-branch : goal.returns-then-not-branch
returns-then-not-branch c = first_bad c.args.items.now c.loop-index.index c.index-items-index.result (kept_of c.loop-index.loaded) (kept_of c.take.new.self) c.in_ok-take.field-0 c.loop-index-test.true c.index-items-index.is c.loop-index.invariant c.in_ok-take.ensures.loaded c.if-not-branch.true

pub returns : goal.returns
returns c = all_read c.args.items.now c.loop-index.index (kept_of c.loop-index.loaded) c.loop-index-test.false c.loop-index.invariant
