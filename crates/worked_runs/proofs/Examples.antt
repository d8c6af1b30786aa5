-- What the definitions say of each run, computed.
use Rattle.std.specs.Prelude.{◌≡◌, ⊤, ℕ, List, Option, [], ◌∷◌, codes, Some, None, Ok, Err, refl}
use Rattle.mud_base.specs.Decimal.{digits_upto, number_upto}
use Rattle.mud_base.proofs.OnLiterals.{texts_on_literals}
use Rattle.dhcp_lldp.proofs.OnLiterals.{frames_on_literals, messages_on_literals}
use Rattle.mud_file.proofs.OnLiterals.{file_on_literals}
use Rattle.mud_cli.specs.Check.Answer.{checking}
use Rattle.mud_cli.specs.Check.Lines.{broken_line}
use Rattle.mud_base.specs.declared.addr.Mac.{Mac}
use Rattle.mud_base.specs.Reading.{mac_in}
use Rattle.table_model.specs.Things.{thing_at}
use Rattle.run_reports.specs.Export.Exported.{export_output}
use Rattle.run_desk.specs.Refused.{bad_item_line}
use Rattle.mud_cli.specs.Answers.{answer_to, most_of, output_of_input}
use Rattle.mud_cli.specs.Frames.Lines.{frame_step}
use Rattle.mud_cli.specs.declared.answer.Input.TheVariants as input
use Rattle.run_captures.specs.Capture.{output_of_capture}
use Rattle.run_captures.specs.Fold.{no_ending}
use Rattle.run_common.specs.Output.{Output}
use Rattle.mud_cli.specs.Hear.Answer.{hearing, hearing_within}
use Rattle.mud_cli.specs.Hear.Lines.{heard_line, fault_line}
use Rattle.text_values.specs.Paths.{path_part}
use Rattle.text_values.specs.Faults.{url_part}
use Rattle.text_values.specs.Numbers.{number_text, offset_text}
use Rattle.dhcp_lldp.specs.Heard.{name_of, offset_of, url_fault_of}
use Rattle.run_words.specs.declared.command.Command.TheVariants.{Hear, Check, Frames, Judge, Snoop, Tally, Import, Replay, Report, Export, Drill}
use Rattle.run_words.specs.declared.command.Message.TheVariants.{Dhcp, Lldp}
use Rattle.run_words.specs.declared.command.ReportKind.TheVariants.{Things}
use Rattle.desk_model.specs.DeskTables.{empty_desk}
use Rattle.desk_model.specs.Items.{none_kept, desk_of, tables_in}
use Rattle.table_model.specs.TakenItems.{no_binds, with_item}
use Rattle.run_reports.specs.Tables.{table_text}
use Rattle.pcap_read.proofs.OnLiterals.{captures_on_literals}
use Rattle.run_captures.specs.Captures.{captured_of, is_next}
use Rattle.run_desk.specs.Store.{judged_output}
use Rattle.desk_model.specs.Sessions.{opened}
use Rattle.drop_ledger.specs.Counted.{count_rows, first_rows, late_rows}
use Rattle.drop_ledger.specs.Ledger.{denials}
use Rattle.drop_ledger.specs.Seen.{rulings, totals_in}
use Rattle.run_packets.specs.Tally.Store.{output_of_tally}
use Rattle.run_packets.specs.Tally.Tallied.{seen_in, hours, ending_of, tally_text}
use Rattle.run_packets.specs.Tally.Texts.{total_text, totals_line, end_lines}
use Rattle.run_words.specs.Words.{begins_with_dash, is_path, count_in, kind_in, line_in, command_in}
use Rattle.worked_runs.specs.Inputs.{bare_frame, empty_capture, lease_pieces, unknown_item}
use Rattle.worked_runs.proofs.Ends.{pieces_in}

unfoldable pub lines_on_literals : ⊤
unfolding texts_on_literals digits_upto number_upto begins_with_dash is_path count_in kind_in line_in command_in
lines_on_literals = tt

unfoldable pub answers_on_literals : ⊤
unfolding texts_on_literals messages_on_literals answer_to hearing hearing_within heard_line fault_line name_of offset_of url_fault_of url_part number_text offset_text
answers_on_literals = tt

pub hear_dhcp : command_in (codes "hear" ∷ codes "dhcp" ∷ []) ≡ Some (Hear Dhcp)
unfolding lines_on_literals
hear_dhcp = refl

-- the output of `frames`
abbrev pub frames_output : List ℕ → Output
frames_output = output_of_capture frame_step no_ending tt

pub no_message : output_of_input (input.Message Dhcp) (pieces_in []).left ≡ record { text = codes "fault Cut 0\n"; status = 3 }
unfolding answers_on_literals
no_message = refl

pub lease : output_of_input (input.Message Dhcp) (pieces_in lease_pieces).left ≡ record { text = codes "lease 02:00:00:00:00:01 192.0.2.10 86400\n"; status = 0 }
unfolding answers_on_literals
lease = refl

pub report_things : command_in (codes "report" ∷ codes "store.db" ∷ codes "things" ∷ []) ≡ Some (Report Things)
unfolding lines_on_literals
report_things = refl

pub no_items : tables_in [] ≡ Ok empty_desk
unfolding tables_in none_kept desk_of no_binds empty_desk
no_items = refl

pub no_things : (clock : Option ℕ) → table_text Things clock empty_desk ≡ []
unfolding table_text empty_desk
no_things clock = refl

pub frames : command_in (codes "frames" ∷ []) ≡ Some Frames
unfolding lines_on_literals
frames = refl

pub judge : command_in (codes "judge" ∷ codes "store.db" ∷ []) ≡ Some Judge
unfolding lines_on_literals
judge = refl

pub tally : command_in (codes "tally" ∷ codes "store.db" ∷ []) ≡ Some Tally
unfolding lines_on_literals
tally = refl

pub no_frames : frames_output (pieces_in empty_capture).left ≡ record { text = []; status = 0 }
unfolding captures_on_literals is_next
no_frames = refl

pub no_verdicts : judged_output empty_desk (pieces_in empty_capture).left ≡ record { text = []; status = 0 }
unfolding captures_on_literals is_next
no_verdicts = refl

pub no_totals : output_of_tally (opened empty_desk) (pieces_in empty_capture).left
    ≡ record { text = codes "packets 0 unmanaged 0 link 0 unreadable 0 pass 0 drop 0 both 0\n"; status = 0 }
unfolding texts_on_literals captures_on_literals number_text is_next seen_in hours ending_of tally_text total_text totals_line end_lines rulings totals_in first_rows late_rows count_rows denials
no_totals = refl

pub hear_lldp : command_in (codes "hear" ∷ codes "lldp" ∷ []) ≡ Some (Hear Lldp)
unfolding lines_on_literals
hear_lldp = refl

pub check : command_in (codes "check" ∷ []) ≡ Some Check
unfolding lines_on_literals
check = refl

-- the hardware address 02:00:00:00:00:01
abbrev pub thing : Mac
thing = record { 0 = 2 ∷ 0 ∷ 0 ∷ 0 ∷ 0 ∷ 1 ∷ [] }

pub export_thing : command_in (codes "export" ∷ codes "store.db" ∷ codes "02:00:00:00:00:01" ∷ []) ≡ Some (Export thing)
unfolding lines_on_literals mac_in
export_thing = refl

pub bare : output_of_input (input.Message Lldp) (pieces_in bare_frame).left ≡ record { text = codes "nothing\n"; status = 0 }
unfolding answers_on_literals frames_on_literals
bare = refl

pub no_octets : output_of_input input.UsageFile (pieces_in []).left ≡ record { text = codes "fault Json\n"; status = 3 }
unfolding answers_on_literals file_on_literals checking broken_line path_part
no_octets = refl

pub no_thing : (clock : ℕ) → export_output thing clock empty_desk ≡ record { text = codes "fault NoThing\n"; status = 3 }
unfolding export_output empty_desk thing_at
no_thing clock = refl

pub no_record : tables_in (unknown_item ∷ []) ≡ Err unknown_item
unfolding tables_in none_kept desk_of no_binds with_item
no_record = refl

pub item_line : bad_item_line 9 [] ≡ codes "fault item 9\n"
unfolding texts_on_literals number_text bad_item_line
item_line = refl

pub snoop : command_in (codes "snoop" ∷ codes "store.db" ∷ []) ≡ Some Snoop
unfolding lines_on_literals
snoop = refl

pub import_folder : command_in (codes "import" ∷ codes "store.db" ∷ codes "folder" ∷ []) ≡ Some Import
unfolding lines_on_literals
import_folder = refl

pub no_packets : captured_of (pieces_in empty_capture).left ≡ record { all = []; fault = None }
unfolding captures_on_literals is_next
no_packets = refl

pub drill_1 : command_in (codes "drill" ∷ codes "1" ∷ []) ≡ Some (Drill 1)
unfolding lines_on_literals
drill_1 = refl

pub judge_alone : command_in (codes "judge" ∷ []) ≡ None
unfolding lines_on_literals
judge_alone = refl

pub replay : command_in (codes "replay" ∷ codes "store.db" ∷ []) ≡ Some Replay
unfolding lines_on_literals
replay = refl
