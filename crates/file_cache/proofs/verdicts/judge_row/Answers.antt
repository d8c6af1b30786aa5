use Rattle.std.proofs.Common.{sym}
use Rattle.file_cache.proofs.VerdictLaws.{ruled_already, not_ruled}
use Rattle.file_cache.proofs.StepLaws.{goes_on}
use Rattle.file_cache.proofs.verdicts.judge_row.Goals as goal

pub returns-then-is_ruled : goal.returns-then-is_ruled
returns-then-is_ruled c =
    ruled_already c.args.row.now.url c.args.files.now.rows c.args.row.now c.args.digest.now c.args.verdict c.none.result c.requires.sound.ascend (sym c.if-is_ruled.ensures) c.none.ensures

pub returns-else-is_ruled : goal.returns-else-is_ruled
returns-else-is_ruled c =
    goes_on _ _ c.args.files.now.rows c.judge_candidate.result (not_ruled c.args.row.now.url c.args.files.now.rows c.args.row.now c.args.digest.now c.args.verdict (sym c.if-is_ruled.ensures)) c.judge_candidate.ensures
