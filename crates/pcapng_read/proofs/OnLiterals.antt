-- What unfolds where the definitions are computed on literal octets.
use Rattle.mud_base.proofs.FieldsOnLiterals.{fields_on_literals}
use Rattle.pcapng_read.specs.Blocks.{order_in, own_order, kind_of, head_of, least_of, is_read, seconds_of, captured_len, body_rows, standing_behind, blocks_from, ng_packets_of}
use Rattle.pcapng_read.specs.Options.{options_from, units_of}

unfoldable pub blocks_on_literals : Unit {0}
unfolding fields_on_literals order_in own_order kind_of head_of least_of is_read seconds_of captured_len body_rows standing_behind blocks_from ng_packets_of options_from units_of
blocks_on_literals = tt
