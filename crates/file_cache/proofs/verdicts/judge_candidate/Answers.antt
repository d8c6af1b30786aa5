use Rattle.std.proofs.Common.{sym}
use Rattle.file_cache.proofs.VerdictLaws.{digest_met, digest_missed, no_candidate}
use Rattle.file_cache.proofs.StepLaws.{goes_on}
use Rattle.file_cache.proofs.verdicts.judge_candidate.Goals as goal

pub returns-then-eq : goal.returns-then-eq
returns-then-eq c =
    let same = rw c.digest.ensures at c.if-eq.ensures in
    goes_on _ _ c.args.files.now.rows c.rule.result (digest_met c.args.row.now.url c.args.files.now.rows c.args.row.now c.args.digest.now c.args.verdict c.in-Some.candidate c.in-Some.is (sym same)) c.rule.ensures

pub returns-else-eq : goal.returns-else-eq
returns-else-eq c _ =
    let other = rw c.digest.ensures at c.if-eq.ensures in
    digest_missed c.args.row.now.url c.args.files.now.rows c.args.row.now c.args.digest.now c.args.verdict c.in-Some.candidate c.in-Some.is (sym other)

pub returns-in-None : goal.returns-in-None
returns-in-None c _ = no_candidate c.args.row.now.url c.args.files.now.rows c.args.row.now c.args.digest.now c.args.verdict c.in-None.is
