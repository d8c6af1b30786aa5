use Rattle.std.proofs.Common.{◌≡◌, ◌++◌, take}
use Rattle.mud_url.proofs.canonical.append.Given as goal

abbrev pub invariant-loop-octet : goal.invariant-loop-octet
invariant-loop-octet l = l.text ≡ l.initial.text ++ take l.octet-index l.octets
