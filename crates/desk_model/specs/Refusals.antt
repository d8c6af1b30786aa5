-- The refusals of commands: their numbers and names, and which of them is want of memory.
use Rattle.std.specs.Prelude.{ℕ, Bool, true, false, List, if◌then◌else◌}
use Rattle.table_model.specs.declared.thing_fault.ThingFault.{ThingFault}
use Rattle.table_model.specs.declared.thing_fault.ThingFault.TheVariants as thing
use Rattle.table_model.specs.declared.bind_fault.BindFault.{BindFault}
use Rattle.table_model.specs.declared.bind_fault.BindFault.TheVariants as bind
use Rattle.table_model.specs.FaultNames.{number_of_thing_fault, name_of_thing_fault, number_of_bind_fault, name_of_bind_fault}
use Rattle.usage_tables.specs.declared.cache_fault.CacheFault.{CacheFault}
use Rattle.usage_tables.specs.declared.cache_fault.CacheFault.TheVariants as file
use Rattle.usage_tables.specs.FaultNames.{number_of_cache_fault, name_of_cache_fault}
use Rattle.desk_model.specs.declared.reply.Refusal.{Refusal}
use Rattle.desk_model.specs.declared.reply.Refusal.TheVariants.{Things, Files, Binds}
use Rattle.desk_model.specs.declared.reply.Reply.{Reply}
use Rattle.desk_model.specs.declared.reply.Reply.TheVariants.{Refused, Memory}

-- each book numbers its own refusals
unfoldable pub number_of_refusal : Refusal → ℕ
number_of_refusal (Things fault) = number_of_thing_fault fault
number_of_refusal (Files fault) = number_of_cache_fault fault
number_of_refusal (Binds fault) = number_of_bind_fault fault

unfoldable pub name_of_refusal : Refusal → List ℕ
name_of_refusal (Things fault) = name_of_thing_fault fault
name_of_refusal (Files fault) = name_of_cache_fault fault
name_of_refusal (Binds fault) = name_of_bind_fault fault

-- memory was wanted, which says nothing of the command
abbrev pub is_thing_memory : ThingFault → Bool
is_thing_memory thing.Memory = true
is_thing_memory _ = false

abbrev pub is_file_memory : CacheFault → Bool
is_file_memory file.Memory = true
is_file_memory _ = false

abbrev pub is_bind_memory : BindFault → Bool
is_bind_memory bind.Memory = true
is_bind_memory _ = false

unfoldable pub is_want_of_memory : Refusal → Bool
is_want_of_memory (Things fault) = is_thing_memory fault
is_want_of_memory (Files fault) = is_file_memory fault
is_want_of_memory (Binds fault) = is_bind_memory fault

unfoldable pub reply_of : Refusal → Reply
reply_of refusal = if is_want_of_memory refusal then Memory else Refused refusal
