use Rattle.std.proofs.Common.{◌≡◌, take, map}
use Rattle.std.specs.Char.{to_ascii_lowercase}
use Rattle.mud_url.proofs.host.lowered.Given as goal

abbrev pub invariant-loop-octet : goal.invariant-loop-octet
invariant-loop-octet l = l.copy ≡ map to_ascii_lowercase (take l.octet-index l.text)
