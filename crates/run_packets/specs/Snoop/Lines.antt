-- The lines of what is learnt. Each ends with a line feed.
use Rattle.std.specs.Prelude.{ℕ, List, ◌++◌, codes}
use Rattle.mud_base.specs.declared.addr.Addr.{Addr}
use Rattle.mud_base.specs.Texts.{addr_text}
use Rattle.text_values.specs.Numbers.{number_text, offset_text}
use Rattle.desk_model.specs.declared.reply.Reply.{Reply}
use Rattle.dns_snoop.specs.Fault as dns_fault
use Rattle.dns_snoop.specs.declared.fault.DnsFault.{DnsFault}
use Rattle.desk_model.specs.Texts.Words.{reply_text}

-- the name, its address, the seconds, and what was replied to the observation
unfoldable pub name_line : List ℕ → Addr × ℕ → Reply → List ℕ
name_line name row reply = codes "name " ++ name ++ codes " " ++ addr_text row.0 ++ number_text row.1 ++ reply_text reply ++ codes "\n"
