use Rattle.std.proofs.Common.{arith}
use Rattle.sqlite.specs.State.{HasCleanDisk}
use Rattle.sqlite.specs.Held.{state}
use Rattle.keep_sqlite.proofs.Selects.{selects_ids, selects_ids_in_order, select_ids_leaves}
use Rattle.keep_sqlite.proofs.Readings.{shown_open, failed_stays, unchanged_stays}
use Rattle.keep_sqlite.proofs.listing.select_rowids.Goals as goal

pub returns-clause-ok : goal.returns-clause-ok
returns-clause-ok g c clean =
    let old = state g.S.Store c.args.connection.now in
    let new = state g.S.Store c.query_all.new.self in
    let early : HasCleanDisk old = omega (arith, c.query_all.ensures.survives.clean) in
    let shown = c.in_ok-rows.ensures.ok clean in
    let was_open = shown_open _ _ old new _ shown in
    let all = selects_ids old new c.in_ok-rows.rows.items (c.requires (early, was_open)) shown in
    (all.1, all.0)

pub returns-clause-ordered : goal.returns-clause-ordered
returns-clause-ordered g c clean =
    let old = state g.S.Store c.args.connection.now in
    let new = state g.S.Store c.query_all.new.self in
    let early : HasCleanDisk old = omega (arith, c.query_all.ensures.survives.clean) in
    let shown = c.in_ok-rows.ensures.ok clean in
    selects_ids_in_order old new c.in_ok-rows.rows.items (c.requires (early, shown_open _ _ old new _ shown)) shown

pub returns-clause-same : goal.returns-clause-same
returns-clause-same g c clean = unchanged_stays _ _ (returns-clause-ok g c clean).0

pub returns-clause-crash : goal.returns-clause-crash
returns-clause-crash g c has = select_ids_leaves _ _ has c.query_all.ensures.survives

pub returns-in_err-rows-clause-same : goal.returns-in_err-rows-clause-same
returns-in_err-rows-clause-same g c clean = failed_stays _ _ _ _ _ (c.in_err-rows.ensures.err clean)

pub returns-in_err-rows-clause-crash : goal.returns-in_err-rows-clause-crash
returns-in_err-rows-clause-crash g c has = select_ids_leaves _ _ has c.query_all.ensures.survives
