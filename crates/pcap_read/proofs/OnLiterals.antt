-- What unfolds where the definitions are computed on literal octets.
use Rattle.mud_base.proofs.FieldsOnLiterals.{fields_on_literals}
use Rattle.pcap_read.specs.Packets.{has_magic, header_of, captured_len, packets_from, packets_of}

unfoldable pub captures_on_literals : Unit {0}
unfolding fields_on_literals has_magic header_of captured_len packets_from packets_of
captures_on_literals = tt
