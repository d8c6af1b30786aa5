use Rattle.std.proofs.Common.{subst}
use Rattle.mud_base.specs.Numbers.{IsOctets}
use Rattle.thing_book.proofs.Taking.{kept_read}
use Rattle.thing_book.proofs.reading.kept_thing.Goals as goal

pub returns-clause-kept : goal.returns-clause-kept
returns-clause-kept c = kept_read c.args.item.now c.thing_of_item.result (subst IsOctets c.octets.ensures c.all_are_octets.ensures) c.thing_of_item.ensures
