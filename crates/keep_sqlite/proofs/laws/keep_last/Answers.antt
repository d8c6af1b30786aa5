use Rattle.std.proofs.Common.{inl, inr, subst}
use Rattle.mud_world.specs.Items.{put_all}
use Rattle.sqlite.specs.Files.{over_files}
use Rattle.keep_sqlite.specs.Rows.{items_of}
use Rattle.keep_sqlite.specs.Telling.{database, told, Leaves}
use Rattle.keep_sqlite.proofs.Reopens.{clean_before, on_ok_then}
use Rattle.keep_sqlite.proofs.laws.keep_last.Goals as goal

pub returns-clause-either : goal.returns-clause-either
returns-clause-either g c clean leaves =
    let was = items_of (database over_files c.args.keeper) in
    let now_clean = clean_before _ _ c.leave.ensures.clean clean in
    c.leave.ensures.either clean was (put_all was c.args.batch.now) (λ trees may.
    elim (c.keep-answer.ensures.crash.crash now_clean trees may) [ inl before ↦ inl (leaves trees before) | inr put ↦ inr put.1 ])

pub returns-clause-kept : goal.returns-clause-kept
returns-clause-kept g c clean =
    let e = c.keep-answer.ensures in
    let now_clean = clean_before _ _ c.leave.ensures.clean clean in
    on_ok_then c.keep-answer.result (e.tells now_clean) e.ok e.after (λ put leaves.
    c.leave.ensures.found clean (put_all (told over_files c.args.keeper) c.args.batch.now) (subst (Leaves over_files c.keep-answer.new.self) put leaves))
