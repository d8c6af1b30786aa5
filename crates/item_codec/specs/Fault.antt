-- The numbers of the faults.
use Rattle.std.specs.Prelude.{ℕ}
use Rattle.item_codec.specs.declared.fault.CodecFault.{CodecFault}
use Rattle.item_codec.specs.declared.fault.CodecFault.TheVariants.{Short, Version, Tail}

unfoldable pub number_of_fault : CodecFault → ℕ
number_of_fault Short = 1
number_of_fault Version = 2
number_of_fault Tail = 3
