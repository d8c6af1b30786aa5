use Rattle.std.proofs.Common.{subst}
use Rattle.http_requests.specs.Values.{AreValues}
use Rattle.http_requests.proofs.Values.{second_value, later_value}
use Rattle.http_requests.proofs.fields.with_value.Goals as goal

pub returns-in-One : goal.returns-in-One
returns-in-One c = λ list are. second_value list _ c.args.value.now (subst (AreValues list) c.in-One.is are)

pub returns-in-Several : goal.returns-in-Several
returns-in-Several c = λ list are. later_value list c.args.value.now (subst (AreValues list) c.in-Several.is are)
