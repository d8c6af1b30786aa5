-- Access lists as the code keeps them.
use Rattle.mud_file.specs.declared.entries.AccessList.{AccessList}
use Rattle.mud_file.specs.Entries.{ListHead}

abbrev pub list_head : AccessList → ListHead
list_head list = record { type = list.list_type; side = list.side; path = list.path.now; name = list.name.now; room = list.room }
