use Rattle.std.specs.Prelude.{◌++◌}
use Rattle.console_answers.proofs.KeptLemmas.{kept_then}
use Rattle.console_answers.specs.Heads.{allow_line, line_end, head_of}
use Rattle.console_answers.proofs.Parts.{status_line, type_line, length_line, close_line}
use Rattle.console_answers.proofs.head.put_head.Goals as goal

pub returns : goal.returns
unfolding head_of
returns c =
    let status = status_line c.args.status in
    let allow = allow_line c.args.allow in
    let octets = length_line c.args.length in
    let close = close_line c.args.closes in
    let one = kept_then _ status type_line _ _ c.put_status_line.ensures c.put.ensures in
    let two = kept_then _ (status ++ type_line) allow _ _ one c.put_allow_line.ensures in
    let three = kept_then _ (status ++ type_line ++ allow) octets _ _ two c.put_length_line.ensures in
    let four = kept_then _ (status ++ type_line ++ allow ++ octets) close _ _ three c.put_close_line.ensures in
    kept_then _ (status ++ type_line ++ allow ++ octets ++ close) line_end _ _ four c.put-2.ensures
