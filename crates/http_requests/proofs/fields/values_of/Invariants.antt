use Rattle.std.proofs.Common.{map, take}
use Rattle.httparse.specs.Spans.{header_bytes}
use Rattle.http_requests.specs.Fields as spec
use Rattle.http_requests.specs.Values.{AreValues}
use Rattle.http_requests.proofs.fields.values_of.Given as goal

abbrev pub invariant-loop-field : goal.invariant-loop-field
invariant-loop-field l = AreValues (spec.values_of l.name (map (header_bytes l.octets) (take l.field-index l.fields))) l.values
