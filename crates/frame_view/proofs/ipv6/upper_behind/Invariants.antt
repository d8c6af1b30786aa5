use Rattle.std.proofs.Common.{◌≡◌}
use Rattle.frame_view.specs.Ipv6 as spec
use Rattle.frame_view.proofs.ipv6.upper_behind.Given as goal

abbrev pub invariant-extensions : goal.invariant-extensions
invariant-extensions l = spec.upper_behind l.left l.number l.rest ≡ spec.upper_behind 8 l.first l.octets

abbrev pub decreases-extensions : goal.decreases-extensions
decreases-extensions l = l.left
