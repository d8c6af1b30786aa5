use Rattle.std.proofs.Common.{◌≡◌, ◌^◌, ◌<◌, drop}
use Rattle.item_codec.specs.Reading as spec
use Rattle.item_codec.proofs.fields.number_of.Given as goal

abbrev pub invariant-loop-octet : goal.invariant-loop-octet
invariant-loop-octet l = record {
  range : l.number < 256 ^ l.octet-index;
  same : spec.number_behind l.number (drop l.octet-index l.octets) ≡ spec.number_of l.octets;
}
