use Rattle.std.proofs.Common.{◌≡◌, ◌+◌, length}
use Rattle.dhcp_lldp.specs.Options.{listing}
use Rattle.dhcp_lldp.specs.OptionStep.{nothing_yet}
use Rattle.dhcp_lldp.specs.Dhcp.{options_of}
use Rattle.dhcp_lldp.proofs.OptionWalk.{walked}
use Rattle.dhcp_lldp.proofs.options.contents.Given as goal

abbrev pub invariant-options : goal.invariant-options
invariant-options l = record {
  same : walked l.contents (listing 0 l.offset l.rest) ≡ walked nothing_yet (options_of l.message);
  room : l.offset + length l.rest ≡ length l.message;
}

abbrev pub decreases-options : goal.decreases-options
decreases-options l = length l.rest
