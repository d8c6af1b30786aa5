use Rattle.std.proofs.Common.{sym}
use Rattle.file_cache.proofs.VerdictLaws.{verified, unsigned, waived, failed}
use Rattle.file_cache.proofs.StepLaws.{goes_on}
use Rattle.file_cache.proofs.verdicts.rule.Goals as goal

pub returns-then-is_signed : goal.returns-then-is_signed
returns-then-is_signed c = goes_on _ _ c.args.files.now.rows c.approve.result (verified c.args.row.now.url c.args.files.now.rows c.args.row.now c.args.candidate.now c.args.verdict c.in-Verified.is (sym c.if-is_signed.ensures)) c.approve.ensures

pub returns-else-is_signed : goal.returns-else-is_signed
returns-else-is_signed c _ = unsigned c.args.row.now.url c.args.files.now.rows c.args.row.now c.args.candidate.now c.args.verdict c.in-Verified.is (sym c.if-is_signed.ensures)

pub returns-in-Waived : goal.returns-in-Waived
returns-in-Waived c = goes_on _ _ c.args.files.now.rows c.approve-in-Waived.result (waived c.args.row.now.url c.args.files.now.rows c.args.row.now c.args.candidate.now c.args.verdict c.in-Waived.is) c.approve-in-Waived.ensures

pub returns-in-Failed : goal.returns-in-Failed
returns-in-Failed c =
    goes_on _ _ c.args.files.now.rows c.reject.result (failed c.args.row.now.url c.args.files.now.rows c.args.row.now c.args.candidate.now c.args.verdict c.in-Failed.is) (c.reject.ensures c.args.files.now.rows c.requires.found)
