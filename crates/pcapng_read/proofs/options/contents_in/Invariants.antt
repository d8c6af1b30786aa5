use Rattle.std.proofs.Common.{◌≡◌, length}
use Rattle.pcapng_read.specs.Options.{options_from}
use Rattle.pcapng_read.specs.OptionStep.{nothing_yet, contents_behind}
use Rattle.pcapng_read.proofs.options.contents_in.Given as goal

abbrev pub invariant-options : goal.invariant-options
invariant-options l = contents_behind l.contents (options_from l.order 0 l.rest) ≡ contents_behind nothing_yet (options_from l.order 0 l.octets)

abbrev pub decreases-options : goal.decreases-options
decreases-options l = length l.rest
