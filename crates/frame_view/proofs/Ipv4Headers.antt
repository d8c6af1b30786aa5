-- A whole IPv4 header.
use Rattle.std.proofs.Common.{◌≡◌, ℕ, ◌<◌, ◌≤◌, false, IsTrue, List, length, arith}
use Rattle.std.proofs.lemmas.List.{length-take}
use Rattle.std.proofs.lemmas.Bool.Decides.{nat_tests}
use Rattle.frame_view.specs.Ipv4.{has_header, header_len, counted}

pub counted_within : (packet : List ℕ) → length (counted packet) ≤ length packet
unfolding counted
counted_within packet = omega (arith, length-take {A = ℕ})

pub header_within : (packet : List ℕ) → IsTrue (has_header packet) → (header_len packet ≤ length (counted packet)) × (20 ≤ header_len packet)
unfolding has_header
header_within packet whole = grind (arith, nat_tests)

pub packet_long : (packet : List ℕ) → IsTrue (has_header packet) → 20 ≤ length packet
packet_long packet whole = omega (arith, header_within packet whole, counted_within packet)

pub header_cut : (packet : List ℕ) → length packet < 20 → has_header packet ≡ false
unfolding has_header
header_cut packet short = grind (arith, nat_tests, counted_within packet)
