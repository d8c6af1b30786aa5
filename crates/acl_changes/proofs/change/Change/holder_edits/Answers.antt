use Rattle.std.proofs.Common.{◌+◌, ◌*◌, List, ◌∷◌, [], length, map, drop, sym, ap, ◌∙◌, arith}
use Rattle.std.proofs.lemmas.List.{drop_all}
use Rattle.acl_model.specs.SortKeys.{member_sort_key}
use Rattle.acl_rows.specs.declared.row.RowKey.{RowKey}
use Rattle.acl_changes.specs.Touched.{with_edits}
use Rattle.acl_changes.specs.declared.group.EntrySpot.{EntrySpot}
use Rattle.acl_changes.specs.Change.{more_edits}
use Rattle.acl_changes.specs.Steps.{least_steps}
use Rattle.acl_changes.proofs.Loops.{more_edits-append, least_steps-cons}
use Rattle.acl_changes.proofs.SpotTouches.{spot_key, spots_touched, spot_there, next_spot, spot_read, spot_read_is}
use Rattle.acl_changes.proofs.change.Change.holder_edits.Goals as goal

pub spot_edit-requires-clause-stands : goal.spot_edit-requires-clause-stands
spot_edit-requires-clause-stands g c =
    spot_there c.args.holding.now.1.url (member_sort_key c.args.key.now) c.args.holding.now.1.policy c.spots-spots.result.now c.loop-spot.spot-index (spot_read c.spots-spots.result.now c.loop-spot.spot-index) c.spots-spots.ensures (omega arith) (spot_read_is c.spots-spots.result.now c.loop-spot.spot-index (omega arith))

pub returns-in_err-spot_edit-clause-most : goal.returns-in_err-spot_edit-clause-most
returns-in_err-spot_edit-clause-most g c = λ b k u few rows fit.
    let f : EntrySpot → RowKey = spot_key c.args.holding.now.0 c.args.addr in
    let touched = ap (map f) c.spots-spots.ensures ∙ spots_touched c.args.key.now c.args.addr c.args.holding.now.0 c.args.holding.now.1 in
    let all = ap (λ (ts : List RowKey). length ts * u) touched in
    let count = ap (λ (ts : List RowKey). length ts * u) (next_spot c.args.holding.now.0 c.args.addr c.spots-spots.result.now c.loop-spot.spot-index (spot_read c.spots-spots.result.now c.loop-spot.spot-index) (omega arith) (spot_read_is c.spots-spots.result.now c.loop-spot.spot-index (omega arith))) in
    omega (arith, c.loop-spot.invariant.most b k u few rows fit, c.spot_edit.ensures.most b k u few rows fit, all, count)

pub loop-spot-preserved : goal.loop-spot-preserved
loop-spot-preserved g c =
    let f : EntrySpot → RowKey = spot_key c.args.holding.now.0 c.args.addr in
    let rest : List RowKey = map f (drop (c.loop-spot.spot-index + 1) c.spots-spots.result.now) in
    let next = next_spot c.args.holding.now.0 c.args.addr c.spots-spots.result.now c.loop-spot.spot-index (spot_read c.spots-spots.result.now c.loop-spot.spot-index) (omega arith) (spot_read_is c.spots-spots.result.now c.loop-spot.spot-index (omega arith)) in
    record {
      edits =
          ap (more_edits c.args.self.now rest) c.in_ok-spot_edit.ensures.ok
          ∙ sym (more_edits-append c.args.self.now (f (spot_read c.spots-spots.result.now c.loop-spot.spot-index) ∷ []) rest c.loop-spot.edits.rows)
          ∙ ap (λ (ts : List RowKey). more_edits c.args.self.now ts c.loop-spot.edits.rows) (sym next)
          ∙ c.loop-spot.invariant.edits;
      read =
          (let count = ap (least_steps c.args.self.now.rows) next ∙ least_steps-cons c.args.self.now.rows (f (spot_read c.spots-spots.result.now c.loop-spot.spot-index)) rest in
          omega (arith, c.loop-spot.invariant.read, c.spot_edit.ensures.least, count));
      up = omega (arith, c.loop-spot.invariant.up, c.spot_edit.ensures.least);
      most = λ b k u few rows fit.
          let count = ap (λ (ts : List RowKey). length ts * u) next in
          omega (arith, c.loop-spot.invariant.most b k u few rows fit, c.spot_edit.ensures.most b k u few rows fit, count);
    }

pub returns-clause-ok : goal.returns-clause-ok
unfolding more_edits with_edits
returns-clause-ok g c =
    let f : EntrySpot → RowKey = spot_key c.args.holding.now.0 c.args.addr in
    let touched = ap (map f) c.spots-spots.ensures ∙ spots_touched c.args.key.now c.args.addr c.args.holding.now.0 c.args.holding.now.1 in
    sym (ap (λ (xs : List EntrySpot). more_edits c.args.self.now (map f xs) c.loop-spot.edits.rows) (drop_all c.loop-spot.spot-index c.spots-spots.result.now (omega arith)))
    ∙ c.loop-spot.invariant.edits
    ∙ ap (λ (ts : List RowKey). more_edits c.args.self.now ts c.args.edits.now.rows) touched

pub returns-clause-most : goal.returns-clause-most
returns-clause-most g c = λ b k u few rows fit.
    let f : EntrySpot → RowKey = spot_key c.args.holding.now.0 c.args.addr in
    let touched = ap (map f) c.spots-spots.ensures ∙ spots_touched c.args.key.now c.args.addr c.args.holding.now.0 c.args.holding.now.1 in
    let all = ap (λ (ts : List RowKey). length ts * u) touched in
    omega (arith, c.loop-spot.invariant.most b k u few rows fit, all)

pub returns-clause-read : goal.returns-clause-read
unfolding least_steps
returns-clause-read g c =
    let f : EntrySpot → RowKey = spot_key c.args.holding.now.0 c.args.addr in
    let touched = ap (map f) c.spots-spots.ensures ∙ spots_touched c.args.key.now c.args.addr c.args.holding.now.0 c.args.holding.now.1 in
    let all = ap (least_steps c.args.self.now.rows) touched in
    let none = ap (λ (xs : List EntrySpot). least_steps c.args.self.now.rows (map f xs)) (drop_all c.loop-spot.spot-index c.spots-spots.result.now (omega arith)) in
    omega (arith, c.loop-spot.invariant.read, all, none)
