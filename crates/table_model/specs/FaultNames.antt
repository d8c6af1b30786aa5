-- The numbers and names of the refusals.
use Rattle.std.specs.Prelude.{ℕ, List, codes}
use Rattle.table_model.specs.declared.thing_fault.ThingFault.{ThingFault}
use Rattle.table_model.specs.declared.thing_fault.ThingFault.TheVariants as thing
use Rattle.table_model.specs.declared.bind_fault.BindFault.{BindFault}
use Rattle.table_model.specs.declared.bind_fault.BindFault.TheVariants as bind

-- want of memory has no number of its own
unfoldable pub number_of_thing_fault : ThingFault → ℕ
number_of_thing_fault thing.Memory = 0
number_of_thing_fault thing.ThingsFull = 1
number_of_thing_fault thing.NoThing = 2
number_of_thing_fault thing.NoPending = 3
number_of_thing_fault thing.LeasesFull = 4
number_of_thing_fault thing.NoLease = 5

unfoldable pub name_of_thing_fault : ThingFault → List ℕ
name_of_thing_fault thing.Memory = codes "Memory"
name_of_thing_fault thing.ThingsFull = codes "ThingsFull"
name_of_thing_fault thing.NoThing = codes "NoThing"
name_of_thing_fault thing.NoPending = codes "NoPending"
name_of_thing_fault thing.LeasesFull = codes "LeasesFull"
name_of_thing_fault thing.NoLease = codes "NoLease"

unfoldable pub number_of_bind_fault : BindFault → ℕ
number_of_bind_fault bind.Memory = 0
number_of_bind_fault bind.ClassesFull = 1
number_of_bind_fault bind.ClassFull = 2
number_of_bind_fault bind.NotBound = 3
number_of_bind_fault bind.LocalsFull = 4
number_of_bind_fault bind.NamesFull = 5
number_of_bind_fault bind.NameFull = 6

unfoldable pub name_of_bind_fault : BindFault → List ℕ
name_of_bind_fault bind.Memory = codes "Memory"
name_of_bind_fault bind.ClassesFull = codes "ClassesFull"
name_of_bind_fault bind.ClassFull = codes "ClassFull"
name_of_bind_fault bind.NotBound = codes "NotBound"
name_of_bind_fault bind.LocalsFull = codes "LocalsFull"
name_of_bind_fault bind.NamesFull = codes "NamesFull"
name_of_bind_fault bind.NameFull = codes "NameFull"
