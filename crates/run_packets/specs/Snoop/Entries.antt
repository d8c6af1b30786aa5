-- What is made of each packet of a capture: its verdict, what names are learnt from it, and what is replied to each observation.
use Rattle.std.specs.Prelude.{◌≢◌, ℕ, ◌+◌, nat_lt, if◌then◌else◌, List, [], ◌∷◌, ◌++◌, map, Option, Some, None, Result, Ok, Err, codes}
use Rattle.mud_base.specs.declared.addr.Addr.{Addr}
use Rattle.read_buffer.specs.Packets.{Packet}
use Rattle.packet_judge.specs.declared.verdict.Verdict.{Verdict}
use Rattle.desk_model.specs.declared.command.Command.{Command}
use Rattle.desk_model.specs.declared.command.Command.TheVariants.{Observe}
use Rattle.desk_model.specs.declared.reply.Reply.{Reply}
use Rattle.desk_model.specs.declared.reply.Reply.TheVariants.{Memory}
use Rattle.dns_snoop.specs.declared.answers.Answers.{Answers}
use Rattle.dns_snoop.specs.declared.fault.DnsFault.{DnsFault}
use Rattle.desk_model.specs.Sessions.{is_of_keeper}
use Rattle.run_desk.specs.Judged.{judged_line}
use Rattle.run_packets.specs.Snoop.Lines.{name_line}
use Rattle.text_values.specs.Numbers.{offset_text}
use Rattle.dns_snoop.specs.Fault as dns_fault

-- what is heard: nothing, what a DNS message answers, or its fault
abbrev pub Heard : Type 0
Heard = Option (Result Answers DnsFault)

-- a packet, the verdict on it, what is heard in it, and what was replied to the observation of each address
pub record Entry : Type 0 where
  pub packet : Packet
  pub verdict : Verdict
  pub heard : Heard
  pub replies : List Reply

abbrev pub packets_of : List Entry → List Packet
packets_of entries = map (λ (entry : Entry). entry.packet) entries

-- ---- Commands

abbrev pub calls_of : ℕ → Heard → List (ℕ × Command)
calls_of moment None = []
calls_of moment (Some (Err fault)) = []
calls_of moment (Some (Ok answers)) = observations moment answers.name answers.rows
  where
    -- each address is observed under the name, for its seconds, at this moment
    observations : ℕ → List ℕ → List (Addr × ℕ) → List (ℕ × Command)
    observations moment name [] = []
    observations moment name (row ∷ rows) = (moment, Observe name row.0 row.1) ∷ observations moment name rows

-- ---- Lines

-- the line of a fault, its name and its offset where it has one, or a line for each address
abbrev pub heard_lines : Heard → List Reply → List ℕ
heard_lines None replies = []
heard_lines (Some (Err fault)) replies =
    codes "dns fault " ++ dns_fault.name_of fault ++ offset_text (dns_fault.offset_of fault) ++ codes "\n"
heard_lines (Some (Ok answers)) replies = name_lines answers.name answers.rows replies
  where
    -- the line of each address that was replied to
    name_lines : List ℕ → List (Addr × ℕ) → List Reply → List ℕ
    name_lines name [] replies = []
    name_lines name (row ∷ rows) [] = []
    name_lines name (row ∷ rows) (reply ∷ replies) = name_line name row reply ++ name_lines name rows replies

-- the line of the verdict, and then those of what is heard
unfoldable pub entry_lines : Entry → List ℕ
entry_lines entry = judged_line entry.packet entry.verdict ++ heard_lines entry.heard entry.replies

abbrev pub lines_of : List Entry → List ℕ
lines_of [] = []
lines_of (entry ∷ entries) = entry_lines entry ++ lines_of entries

-- ---- Replies

-- no reply is that memory was wanted
abbrev pub NoneOfMemory : List Reply → Type 0
NoneOfMemory [] = Unit {0}
NoneOfMemory (reply ∷ replies) = (reply ≢ Memory) × NoneOfMemory replies

-- how often the keeper failed
abbrev pub failures : List Reply → ℕ
failures [] = 0
failures (reply ∷ replies) = (if is_of_keeper reply then 1 else 0) + failures replies

abbrev pub keeper_count : List Entry → ℕ
keeper_count [] = 0
keeper_count (entry ∷ entries) = failures entry.replies + keeper_count entries

-- 7 where the keeper failed, and else the status of the capture's end
abbrev pub status_with : ℕ → ℕ → ℕ
status_with count end = if nat_lt 0 count then 7 else end
