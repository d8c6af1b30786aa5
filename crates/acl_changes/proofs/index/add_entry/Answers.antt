use Rattle.std.proofs.Common.{List, ℕ, take, append-nil, ap, sym, arith}
use Rattle.acl_changes.specs.Spots.{spot_if, spots_in}
use Rattle.acl_changes.proofs.SpotLaws.{selector_more}
use Rattle.acl_changes.proofs.index.add_entry.Goals as goal

pub loop-index-init : goal.loop-index-init
unfolding spot_if
loop-index-init c = λ (p : List ℕ). sym (append-nil (spots_in c.args.groups.now.rows p))

pub loop-index-preserved : goal.loop-index-preserved
loop-index-preserved c = λ (p : List ℕ).
    selector_more (spots_in c.add_selector.new.groups.rows p) (spots_in c.loop-index.groups.rows p) (spots_in c.args.groups.now.rows p) c.args.url.now p c.args.selectors.now _
    c.loop-index.index c.index-selectors-index.result c.args.spot (omega arith) c.index-selectors-index.is
    (ap (λ (n : ℕ). take n c.args.selectors.now) (omega arith)) (c.loop-index.invariant p) (c.in_ok-add_selector.ensures p)
