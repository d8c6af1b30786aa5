use Rattle.std.proofs.Common.{rules, refl, ◌∙◌}
use Rattle.run_common.specs.Status.{status_number}
use Rattle.mud_desk.proofs.Stays.{stays_further}
use Rattle.run_changes.proofs.ImportLaws.Folders.{all_at, part_at, counts_seven, at_most_seven, worse_of}
use Rattle.run_changes.proofs.import.folder.import_names.Goals as goal
use Rattle.base_rows.proofs.Results.{always_on_err}

pub returns-in_err-one-clause-part : goal.returns-in_err-one-clause-part
returns-in_err-one-clause-part g c = λ d p k. always_on_err c.from_residual.result
    (part_at (g.P.Spool.view c.args.spool.now).files (g.P.Spool.view c.loop-name.spool).files c.args.names.now c.loop-name.name-index c.name-item.result c.octets.result.now (c.loop-name.invariant.same p) c.loop-name-test.true c.name-item.is c.octets.ensures
    _ _ _ _ (c.loop-name.invariant.all d p k) (c.in_err-one.ensures.part d p k))

pub loop-name-preserved : goal.loop-name-preserved
loop-name-preserved g c =
    let before = status_number c.loop-name.status in
    let one = status_number c.in_ok-one.one in
    let after = status_number c.worse-status.result in
    let steady = c.in_ok-one.ensures.steady refl in
    record {
      stays = stays_further g.K.Keeper c.loop-name.invariant.stays c.in_ok-one.ensures.stays;
      history = c.in_ok-one.ensures.history ∙ c.loop-name.invariant.history;
      all = λ d p k.
          all_at (g.P.Spool.view c.args.spool.now).files (g.P.Spool.view c.loop-name.spool).files c.args.names.now c.loop-name.name-index c.name-item.result c.octets.result.now (c.loop-name.invariant.same p) c.loop-name-test.true c.name-item.is c.octets.ensures
          _ _ _ before one after (c.loop-name.invariant.all d p k) (c.in_ok-one.ensures.all d p k) c.worse-status.ensures;
      statuses = worse_of before one after c.worse-status.ensures c.loop-name.invariant.statuses c.in_ok-one.ensures.statuses;
      keeper = counts_seven before one after c.worse-status.ensures (at_most_seven before c.loop-name.invariant.statuses) (at_most_seven one c.in_ok-one.ensures.statuses)
          _ _ _ c.loop-name.invariant.keeper c.in_ok-one.ensures.keeper;
      writes = steady.0 ∙ c.loop-name.invariant.writes;
      faults = steady.1 ∙ c.loop-name.invariant.faults;
      same = λ p. c.in_ok-one.ensures.same p ∙ c.loop-name.invariant.same p;
      turns = search rules;
      reads = search rules;
    }

pub returns-in_err-one-clause-stays : goal.returns-in_err-one-clause-stays
returns-in_err-one-clause-stays g c = stays_further g.K.Keeper c.loop-name.invariant.stays c.in_err-one.ensures.stays
