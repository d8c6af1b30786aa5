use Rattle.std.proofs.Common.{◌≡◌, ◌+◌, ◌++◌, length, take, map}
use Rattle.std.specs.Char.{to_ascii_lowercase}
use Rattle.dns_snoop.proofs.label.add_label.Given as goal

abbrev pub invariant-octets : goal.invariant-octets
invariant-octets l = record {
  text : l.text ≡ l.initial.text ++ map to_ascii_lowercase (take l.octet-index l.label);
  size : length l.text ≡ length l.initial.text + l.octet-index;
}
