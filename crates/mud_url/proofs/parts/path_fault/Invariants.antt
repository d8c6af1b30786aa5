use Rattle.std.proofs.Common.{◌≡◌, ◌+◌, ◌<◌, ◌^◌, length}
use Rattle.mud_url.specs.Url as spec
use Rattle.mud_url.proofs.parts.path_fault.Given as goal

abbrev pub invariant-loop-rest : goal.invariant-loop-rest
invariant-loop-rest l = record { fits : l.at + length l.rest < 2 ^ 64; same : spec.path_fault l.at l.rest ≡ spec.path_fault l.start l.text }

abbrev pub decreases-loop-rest : goal.decreases-loop-rest
decreases-loop-rest l = length l.rest
