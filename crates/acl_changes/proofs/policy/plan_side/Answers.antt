use Rattle.std.proofs.Common.{◌≡◌, ◌∷◌, List, refl, ap, sym, subst, ◌∙◌}
use Rattle.std.specs.List.{AllByRecursion}
use Rattle.std.specs.Map.{values_of}
use Rattle.base_rows.specs.Sortable.{RowsAndRoom}
use Rattle.acl_rows.specs.declared.row.Row.{Row}
use Rattle.acl_rows.specs.View.{rows_of_side}
use Rattle.acl_changes.specs.Fresh.{AreOfPeer, left_edits}
use Rattle.acl_changes.proofs.Groups.{rows_in, groups_peers, groups_all, one_group}
use Rattle.acl_changes.proofs.policy.plan_side.Goals as goal

pub loop-group-init : goal.loop-group-init
loop-group-init g c =
    let all : List Row = c.args.rows.now.rows in
    let bucket : List Row = rows_of_side c.args.owner c.args.side all in
    let first : c.into_iter-group-iterator.result ≡ values_of c.all_rows-groups.result.now.entries = c.into_iter-group-iterator.ensures.into_iter_gives ∙ c.values-group-items.ensures.rest in
    let rows = ap rows_in first ∙ groups_all c.args.owner c.args.side all bucket refl c.all_rows-groups.result.now.entries c.all_rows-groups.ensures.groups in
    record {
      rows = (λ i. c.args.fresh.now.rows);
      peers =
          subst (AllByRecursion (λ (x : RowsAndRoom Row). AreOfPeer x.rows all)) (sym first)
          (groups_peers c.args.owner c.args.side all bucket refl c.all_rows-groups.result.now.entries c.all_rows-groups.ensures.groups);
      edits = ap (λ (rs : List Row). left_edits all c.args.fresh.now.rows rs c.args.fresh.now.edits) (sym rows);
    }

pub loop-group-preserved : goal.loop-group-preserved
loop-group-preserved g c =
    let all : List Row = c.args.rows.now.rows in
    let new : List Row = c.args.fresh.now.rows in
    let first : c.loop-group.group-iterator ≡ c.in-Some.group.now ∷ c.next.new.self = c.in-Some.ensures.steps in
    let peers = subst (AllByRecursion (λ (x : RowsAndRoom Row). AreOfPeer x.rows all)) first c.loop-group.invariant.peers in
    record {
      rows = c.plan_left.ensures.rows ∙ c.loop-group.invariant.rows;
      peers = peers.1;
      edits =
          c.loop-group.invariant.edits
          ∙ ap (λ (gs : List (RowsAndRoom Row)). left_edits all new (rows_in gs) c.loop-group.fresh.edits) first
          ∙ one_group all new c.in-Some.group.now c.next.new.self c.rows.result.now c.loop-group.fresh.edits c.plan_left.new.fresh.edits c.rows.ensures.rows peers
          (λ peer. c.in_ok-plan_left.ensures.ok all peer ∙ ap (λ (rows : List Row). left_edits all rows c.rows.result.now c.loop-group.fresh.edits) c.loop-group.invariant.rows);
    }

pub returns-clause-ok : goal.returns-clause-ok
unfolding left_edits
returns-clause-ok g c =
    sym (c.loop-group.invariant.edits ∙ ap (λ (gs : List (RowsAndRoom Row)). left_edits c.args.rows.now.rows c.args.fresh.now.rows (rows_in gs) c.loop-group.fresh.edits) c.in-None.ensures.steps.0)
