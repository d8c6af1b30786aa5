-- What unfolds where fields of literal octets are computed.
use Rattle.mud_base.specs.Offsets.{mac_at, is_group_at}
use Rattle.mud_base.specs.Numbers.{big_16, big_32, big_128, number_16, number_32}

unfoldable pub fields_on_literals : Unit {0}
unfolding mac_at is_group_at big_16 big_32 big_128 number_16 number_32
fields_on_literals = tt
