use Rattle.std.proofs.Common.{◌≡◌, ◌+◌, ◌≤◌, length}
use Rattle.dhcp_lldp.specs.Tlvs.{listing}
use Rattle.dhcp_lldp.specs.TlvStep.{nothing_seen}
use Rattle.dhcp_lldp.specs.Lldp.{tlvs_of}
use Rattle.dhcp_lldp.proofs.TlvWalk.{walked}
use Rattle.dhcp_lldp.proofs.tlvs.seen_tlvs.Given as goal

abbrev pub invariant-tlvs : goal.invariant-tlvs
invariant-tlvs l = record {
  same : walked l.seen (listing 0 l.offset l.rest) ≡ walked nothing_seen (tlvs_of l.frame);
  room : l.offset + length l.rest ≤ length l.frame;
  count : l.seen.count ≤ l.offset;
}

abbrev pub decreases-tlvs : goal.decreases-tlvs
decreases-tlvs l = length l.rest
