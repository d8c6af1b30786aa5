use Rattle.std.proofs.Common.{◌<◌, ap, arith, length, get_or, List, ℕ}
use Rattle.mud_base.specs.declared.addr.Addr.{Addr}
use Rattle.mud_base.specs.declared.addr.Addr.TheVariants.{V4}
use Rattle.mud_world.specs.Kept.{faults_of}
use Rattle.mud_desk.specs.DeskState.{session_of}
use Rattle.mud_desk.proofs.Stays.{stays_further}
use Rattle.run_packets.proofs.SnoopLaws.LearntRows.{learns_at, first_at, counts_either}
use Rattle.run_packets.proofs.snoop.observing.learn_rows.Goals as goal
use Rattle.base_rows.proofs.Results.{always_on_err}

pub learn_row-requires-clause-asked : goal.learn_row-requires-clause-asked
learn_row-requires-clause-asked g c =
    let within : c.loop-row.row-index < length c.args.answers.now.rows = omega (arith, c.loop-row-test.true, ap length c.as_slice-row-items.ensures) in
    rw (c.octets.ensures, c.as_slice-row-items.ensures) (c.requires.asked c.loop-row.row-index (V4 0, 0) within)

pub returns-in_err-one-clause-part : goal.returns-in_err-one-clause-part
returns-in_err-one-clause-part g c =
    let within : c.loop-row.row-index < length c.args.answers.now.rows = omega (arith, c.loop-row-test.true, ap length c.as_slice-row-items.ensures) in
    always_on_err c.from_residual.result
    (first_at c.args.now c.args.answers.now.name c.octets.result.now c.args.answers.now.rows c.loop-row.row-index
    (get_or c.as_slice-row-items.result.now c.loop-row.row-index (V4 0, 0)) (V4 0, 0) within
    (ap (λ (rows : List (Addr × ℕ)). get_or rows c.loop-row.row-index (V4 0, 0)) c.as_slice-row-items.ensures) c.octets.ensures
    (session_of c.args.desk.now.state) (session_of c.loop-row.desk.state) (session_of c.learn_row.new.desk.state) c.args.lines.now c.loop-row.lines
    (faults_of g.K.Keeper c.args.desk.now.keeper) (faults_of g.K.Keeper c.loop-row.desk.keeper) (faults_of g.K.Keeper c.learn_row.new.desk.keeper)
    c.loop-row.failed c.loop-row.invariant.all c.in_err-one.ensures.part)

pub loop-row-preserved : goal.loop-row-preserved
loop-row-preserved g c =
    let within : c.loop-row.row-index < length c.args.answers.now.rows = omega (arith, c.loop-row-test.true, ap length c.as_slice-row-items.ensures) in
    record {
      stays = stays_further g.K.Keeper c.loop-row.invariant.stays c.in_ok-one.ensures.stays;
      all =
          learns_at c.args.now c.args.answers.now.name c.octets.result.now c.args.answers.now.rows c.loop-row.row-index
          (get_or c.as_slice-row-items.result.now c.loop-row.row-index (V4 0, 0)) (V4 0, 0) within
          (ap (λ (rows : List (Addr × ℕ)). get_or rows c.loop-row.row-index (V4 0, 0)) c.as_slice-row-items.ensures) c.octets.ensures
          (session_of c.args.desk.now.state) (session_of c.loop-row.desk.state) (session_of c.learn_row.new.desk.state) c.args.lines.now c.loop-row.lines c.learn_row.new.lines
          (faults_of g.K.Keeper c.args.desk.now.keeper) (faults_of g.K.Keeper c.loop-row.desk.keeper) (faults_of g.K.Keeper c.learn_row.new.desk.keeper)
          c.loop-row.failed c.in_ok-one.one c.either-failed.result c.loop-row.invariant.all c.in_ok-one.ensures.all c.either-failed.ensures;
      keeper = counts_either c.loop-row.failed c.in_ok-one.one c.either-failed.result c.either-failed.ensures
          (faults_of g.K.Keeper c.args.desk.now.keeper) (faults_of g.K.Keeper c.loop-row.desk.keeper) (faults_of g.K.Keeper c.learn_row.new.desk.keeper)
          c.loop-row.invariant.keeper c.in_ok-one.ensures.keeper;
    }

pub returns-in_err-one-clause-stays : goal.returns-in_err-one-clause-stays
returns-in_err-one-clause-stays g c = stays_further g.K.Keeper c.loop-row.invariant.stays c.in_err-one.ensures.stays
