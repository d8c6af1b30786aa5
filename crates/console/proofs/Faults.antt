-- The rules of faults are short.
use Rattle.std.proofs.Common.{◌≤◌, length, lit≤}
use Rattle.http_requests.specs.declared.fault.FramingFault.{FramingFault}
use Rattle.http_requests.specs.declared.fault.FramingFault.TheVariants.{Head, Coding, Length, Long, NoLength, Moment, Cut}
use Rattle.http_requests.specs.Framing.{rule_of}

pub short_rule : (fault : FramingFault) → length (rule_of fault) ≤ 100
short_rule Head = lit≤ tt
short_rule Coding = lit≤ tt
short_rule Length = lit≤ tt
short_rule Long = lit≤ tt
short_rule NoLength = lit≤ tt
short_rule Moment = lit≤ tt
short_rule Cut = lit≤ tt
