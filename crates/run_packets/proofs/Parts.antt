-- Parts of definitions that lemmas speak of.
use Rattle.run_packets.specs.Snoop.Entries.{Entry}
use Rattle.read_buffer.specs.Packets.{Packet}
use Rattle.mud_base.specs.declared.addr.Addr.{Addr}
use Rattle.desk_model.specs.declared.command.Command.{Command}
use Rattle.std.specs.Prelude.{List, [], ℕ, ◌∷◌, ◌++◌, Some, codes, if◌then◌else◌}
use Rattle.desk_model.specs.declared.command.Command.TheVariants.{Observe}
use Rattle.desk_model.specs.declared.reply.Reply.{Reply}
use Rattle.run_packets.specs.Snoop.Lines.{name_line}
use Rattle.drop_ledger.specs.declared.seen.Seen.{Seen}
use Rattle.drop_ledger.specs.Ledger.{counts_of, hour_in}
use Rattle.run_packets.specs.Tally.Texts.{hour_lines}
use Rattle.run_packets.specs.Tally.Tallied.{in_hour, closing, is_over}
use Rattle.drop_ledger.specs.Seen.{rulings, hour_of}
use Rattle.table_model.specs.declared.bind.Class.{Class}
use Rattle.table_model.specs.declared.bind.Class.TheVariants.{Uri}

abbrev pub packet_in : Entry → Packet
packet_in entry = entry.packet

abbrev pub observations : ℕ → List ℕ → List (Addr × ℕ) → List (ℕ × Command)
observations moment name [] = []
observations moment name (row ∷ rows) = (moment, Observe name row.0 row.1) ∷ observations moment name rows

abbrev pub name_lines : List ℕ → List (Addr × ℕ) → List Reply → List ℕ
name_lines name [] replies = []
name_lines name (row ∷ rows) [] = []
name_lines name (row ∷ rows) (reply ∷ replies) = name_line name row reply ++ name_lines name rows replies

abbrev pub text_of_hour : List Seen → ℕ → List ℕ
text_of_hour all hour = hour_lines (Some hour) (counts_of (rulings (in_hour hour all)))

abbrev pub dns_class : Class
dns_class = Uri (codes "urn:ietf:params:mud:dns")

abbrev pub closed_before : List Seen → Seen → List ℕ
closed_before latest s = if is_over (hour_in latest) (hour_of s) then closing latest else []
