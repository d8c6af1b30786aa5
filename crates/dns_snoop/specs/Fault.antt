-- The numbers, names and offsets of the faults of a DNS message.
use Rattle.std.specs.Prelude.{ℕ, List, codes, Option, Some, None}
use Rattle.dns_snoop.specs.declared.fault.DnsFault.{DnsFault}
use Rattle.dns_snoop.specs.declared.fault.DnsFault.TheVariants.{Memory, Cut, NotAnswer, Label, Pointer, NameLong}

unfoldable pub number_of : DnsFault → ℕ
number_of Memory = 0
number_of (Cut at) = 1
number_of NotAnswer = 2
number_of (Label at) = 3
number_of (Pointer at) = 4
number_of (NameLong at) = 5

unfoldable pub name_of : DnsFault → List ℕ
name_of Memory = codes "Memory"
name_of (Cut at) = codes "Cut"
name_of NotAnswer = codes "NotAnswer"
name_of (Label at) = codes "Label"
name_of (Pointer at) = codes "Pointer"
name_of (NameLong at) = codes "NameLong"

-- the offset in the message, of a fault that has one
unfoldable pub offset_of : DnsFault → Option ℕ
offset_of Memory = None
offset_of (Cut at) = Some at
offset_of NotAnswer = None
offset_of (Label at) = Some at
offset_of (Pointer at) = Some at
offset_of (NameLong at) = Some at
