-- A drill: its commands run one after the other over a desk, and then its packets are judged.
use Rattle.std.specs.Prelude.{ℕ, List, [], ◌∷◌, length}
use Rattle.std.specs.List.{range_with_len}
use Rattle.packet_judge.specs.declared.verdict.Verdict.{Verdict}
use Rattle.desk_model.specs.declared.command.Command.{Command}
use Rattle.desk_model.specs.DeskTables.{empty_desk}
use Rattle.desk_model.specs.Sessions.{Session, opened, command_in, frame_in}
use Rattle.run_drills.specs.Commands.{command_moment, drill_commands}
use Rattle.run_drills.specs.Packets.{packet_frame, packet_moment}
use Rattle.run_drills.specs.Counts.{verdict_counts, count_lines}

-- the session behind commands, each answered: a refused one changes nothing
abbrev pub session_after : Session → List Command → Session
session_after session [] = session
session_after session (command ∷ commands) = session_after (command_in session command_moment command).session commands

-- the verdicts on the packets of these numbers, of so many, and the session behind them
abbrev pub verdicts_on : ℕ → Session → List ℕ → List Verdict
verdicts_on packets session [] = []
verdicts_on packets session (number ∷ numbers) =
    (frame_in session (packet_moment number) (packet_frame packets number)).verdict
    ∷ verdicts_on packets (frame_in session (packet_moment number) (packet_frame packets number)).session numbers

abbrev pub session_behind : ℕ → Session → List ℕ → Session
session_behind packets session [] = session
session_behind packets session (number ∷ numbers) = session_behind packets (frame_in session (packet_moment number) (packet_frame packets number)).session numbers

-- the numbers of the packets
abbrev pub numbers_to : ℕ → List ℕ
numbers_to packets = range_with_len 1 packets

-- what a drill writes of a desk: how many Things and files it has, and the counts of the verdicts on all packets
unfoldable pub lines_in : ℕ → Session → List ℕ
lines_in packets session =
    count_lines (length session.desk.tables.things) (length session.desk.files) packets
    (verdict_counts (verdicts_on packets session (numbers_to packets)))

-- what a drill writes that begins with a new desk
unfoldable pub drill_text : ℕ → List ℕ
drill_text packets = lines_in packets (prepared packets)
  where
    -- a new desk behind all commands
    prepared : ℕ → Session
    prepared packets = session_after (opened empty_desk) (drill_commands packets)
