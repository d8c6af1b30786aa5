use Rattle.std.proofs.Common.{◌≡◌, take}
use Rattle.bind_book.proofs.read.prefixes_of.Given as goal

abbrev pub invariant-loop-network : goal.invariant-loop-network
invariant-loop-network l = l.prefixes ≡ take l.network-index l.networks
