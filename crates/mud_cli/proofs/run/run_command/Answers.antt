use Rattle.std.proofs.Common.{true, refl}
use Rattle.std.proofs.lemmas.Bool.{false≢true}
use Rattle.run_common.specs.Status.{status_number}
use Rattle.run_words.specs.declared.command.Command.{Command}
use Rattle.run_words.specs.declared.command.Command.TheVariants.{Hear, Check, Frames, Judge, Snoop, Tally, Import, Replay, Serve, Report, Export, Drill}
use Rattle.mud_cli.specs.Runs.{Does, LeavesAlone, world}
use Rattle.mud_cli.proofs.Promised.{asked, promised_of}
use Rattle.mud_cli.proofs.run.run_command.Goals as goal

pub returns-in-Hear-clause-does : goal.returns-in-Hear-clause-does
returns-in-Hear-clause-does g c =
    let a = c.answer_input.ensures in
    promised_of
    (λ (named : Command). Does g.K.Keeper g.D.Door g.P.Spool g.C.Clock c.args.keeper c.args.keeper
    (world c.args.door.now c.args.spool.now c.args.clock.now) (world c.answer_input.new.door c.args.spool.now c.args.clock.now) (status_number c.answer_input.result) named)
    c.args.command (Hear c.in-Hear.message) c.in-Hear.is
    (record {
      writes = record { statuses = a.statuses; fault = a.fault; steady = a.steady; done = a.done; part = a.part; same_turns = a.turns };
      within = a.within;
    })

pub returns-in-Check-clause-does : goal.returns-in-Check-clause-does
returns-in-Check-clause-does g c =
    let a = c.answer_input-in-Check.ensures in
    promised_of
    (λ (named : Command). Does g.K.Keeper g.D.Door g.P.Spool g.C.Clock c.args.keeper c.args.keeper
    (world c.args.door.now c.args.spool.now c.args.clock.now) (world c.answer_input-in-Check.new.door c.args.spool.now c.args.clock.now) (status_number c.answer_input-in-Check.result) named)
    c.args.command Check c.in-Check.is
    (record {
      writes = record { statuses = a.statuses; fault = a.fault; steady = a.steady; done = a.done; part = a.part; same_turns = a.turns };
      within = a.within;
    })

pub returns-in-Frames-clause-does : goal.returns-in-Frames-clause-does
returns-in-Frames-clause-does g c =
    let a = c.write_capture.ensures in
    promised_of
    (λ (named : Command). Does g.K.Keeper g.D.Door g.P.Spool g.C.Clock c.args.keeper c.args.keeper
    (world c.args.door.now c.args.spool.now c.args.clock.now) (world c.write_capture.new.door c.args.spool.now c.args.clock.now) (status_number c.write_capture.result) named)
    c.args.command Frames c.in-Frames.is
    (record {
      writes = record { statuses = a.statuses; fault = a.fault; steady = a.steady; done = a.done tt tt; part = a.part tt tt; same_turns = a.turns };
      taken = a.taken tt tt;
    })

pub returns-in-Judge-clause-does : goal.returns-in-Judge-clause-does
returns-in-Judge-clause-does g c =
    promised_of
    (λ (named : Command). Does g.K.Keeper g.D.Door g.P.Spool g.C.Clock c.args.keeper c.judge_store.result.1
    (world c.args.door.now c.args.spool.now c.args.clock.now) (world c.judge_store.new.door c.args.spool.now c.args.clock.now) (status_number c.judge_store.result.0) named)
    c.args.command Judge c.in-Judge.is
    c.judge_store.ensures.judged

pub returns-in-Snoop-clause-does : goal.returns-in-Snoop-clause-does
returns-in-Snoop-clause-does g c =
    promised_of
    (λ (named : Command). Does g.K.Keeper g.D.Door g.P.Spool g.C.Clock c.args.keeper c.snoop_store.result.1
    (world c.args.door.now c.args.spool.now c.args.clock.now) (world c.snoop_store.new.door c.args.spool.now c.args.clock.now) (status_number c.snoop_store.result.0) named)
    c.args.command Snoop c.in-Snoop.is
    c.snoop_store.ensures

pub returns-in-Tally-clause-does : goal.returns-in-Tally-clause-does
returns-in-Tally-clause-does g c =
    promised_of
    (λ (named : Command). Does g.K.Keeper g.D.Door g.P.Spool g.C.Clock c.args.keeper c.tally_store.result.1
    (world c.args.door.now c.args.spool.now c.args.clock.now) (world c.tally_store.new.door c.args.spool.now c.args.clock.now) (status_number c.tally_store.result.0) named)
    c.args.command Tally c.in-Tally.is
    c.tally_store.ensures.tallied

pub returns-in-Import-clause-does : goal.returns-in-Import-clause-does
returns-in-Import-clause-does g c =
    promised_of
    (λ (named : Command). Does g.K.Keeper g.D.Door g.P.Spool g.C.Clock c.args.keeper c.import_store.result.1
    (world c.args.door.now c.args.spool.now c.args.clock.now) (world c.import_store.new.door c.import_store.new.spool c.import_store.new.clock) (status_number c.import_store.result.0) named)
    c.args.command Import c.in-Import.is
    c.import_store.ensures

pub returns-in-Replay-clause-does : goal.returns-in-Replay-clause-does
returns-in-Replay-clause-does g c =
    promised_of
    (λ (named : Command). Does g.K.Keeper g.D.Door g.P.Spool g.C.Clock c.args.keeper c.replay_store.result.1
    (world c.args.door.now c.args.spool.now c.args.clock.now) (world c.replay_store.new.door c.args.spool.now c.args.clock.now) (status_number c.replay_store.result.0) named)
    c.args.command Replay c.in-Replay.is
    c.replay_store.ensures.replayed

pub returns-in-Serve-clause-does : goal.returns-in-Serve-clause-does
returns-in-Serve-clause-does g c =
    promised_of
    (λ (named : Command). Does g.K.Keeper g.D.Door g.P.Spool g.C.Clock c.args.keeper c.serve_store.result.1
    (world c.args.door.now c.args.spool.now c.args.clock.now) (world c.serve_store.new.door c.args.spool.now c.serve_store.new.clock) (status_number c.serve_store.result.0) named)
    c.args.command (Serve c.in-Serve.port c.in-Serve.count) c.in-Serve.is
    (c.serve_store.ensures.served, λ failed. (c.serve_store.ensures.untouched failed).1)

pub returns-in-Report-clause-does : goal.returns-in-Report-clause-does
returns-in-Report-clause-does g c =
    let asks = c.report_store.ensures in
    promised_of
    (λ (named : Command). Does g.K.Keeper g.D.Door g.P.Spool g.C.Clock c.args.keeper c.report_store.result.1
    (world c.args.door.now c.args.spool.now c.args.clock.now) (world c.report_store.new.door c.args.spool.now c.report_store.new.clock) (status_number c.report_store.result.0) named)
    c.args.command (Report c.in-Report.kind) c.in-Report.is
    (c.report_store.ensures.reported, record { asked = asks.asked; once = asks.once; unasked = asks.unasked; unopened = asks.unopened })

pub returns-in-Export-clause-does : goal.returns-in-Export-clause-does
returns-in-Export-clause-does g c =
    let asks = c.export_store.ensures in
    promised_of
    (λ (named : Command). Does g.K.Keeper g.D.Door g.P.Spool g.C.Clock c.args.keeper c.export_store.result.1
    (world c.args.door.now c.args.spool.now c.args.clock.now) (world c.export_store.new.door c.args.spool.now c.export_store.new.clock) (status_number c.export_store.result.0) named)
    c.args.command (Export c.in-Export.mac) c.in-Export.is
    (c.export_store.ensures.exported, record { asked = asks.asked; once = asks.once; unasked = asks.unasked })

pub returns-in-Drill-clause-does : goal.returns-in-Drill-clause-does
returns-in-Drill-clause-does g c =
    promised_of
    (λ (named : Command). Does g.K.Keeper g.D.Door g.P.Spool g.C.Clock c.args.keeper c.run_drill.result.1
    (world c.args.door.now c.args.spool.now c.args.clock.now) (world c.run_drill.new.door c.args.spool.now c.args.clock.now) (status_number c.run_drill.result.0) named)
    c.args.command (Drill c.in-Drill.packets) c.in-Drill.is
    c.run_drill.ensures.drilled

pub returns-in-Hear-clause-alone : goal.returns-in-Hear-clause-alone
returns-in-Hear-clause-alone g c =
    promised_of
    (λ (named : Command). LeavesAlone c.args.keeper c.args.keeper
    (world c.args.door.now c.args.spool.now c.args.clock.now) (world c.answer_input.new.door c.args.spool.now c.args.clock.now) (status_number c.answer_input.result) named)
    c.args.command (Hear c.in-Hear.message) c.in-Hear.is
    (record {
      same_keeper = λ reads. refl;
      same_spool = λ other. refl;
      same_clock = λ unasked. refl;
      same_door = λ silent failed. absurd (false≢true silent);
    })

pub returns-in-Check-clause-alone : goal.returns-in-Check-clause-alone
returns-in-Check-clause-alone g c =
    promised_of
    (λ (named : Command). LeavesAlone c.args.keeper c.args.keeper
    (world c.args.door.now c.args.spool.now c.args.clock.now) (world c.answer_input-in-Check.new.door c.args.spool.now c.args.clock.now) (status_number c.answer_input-in-Check.result) named)
    c.args.command Check c.in-Check.is
    (record {
      same_keeper = λ reads. refl;
      same_spool = λ other. refl;
      same_clock = λ unasked. refl;
      same_door = λ silent failed. absurd (false≢true silent);
    })

pub returns-in-Frames-clause-alone : goal.returns-in-Frames-clause-alone
returns-in-Frames-clause-alone g c =
    promised_of
    (λ (named : Command). LeavesAlone c.args.keeper c.args.keeper
    (world c.args.door.now c.args.spool.now c.args.clock.now) (world c.write_capture.new.door c.args.spool.now c.args.clock.now) (status_number c.write_capture.result) named)
    c.args.command Frames c.in-Frames.is
    (record {
      same_keeper = λ reads. refl;
      same_spool = λ other. refl;
      same_clock = λ unasked. refl;
      same_door = λ silent failed. absurd (false≢true silent);
    })

pub returns-in-Judge-clause-alone : goal.returns-in-Judge-clause-alone
returns-in-Judge-clause-alone g c =
    promised_of
    (λ (named : Command). LeavesAlone c.args.keeper c.judge_store.result.1
    (world c.args.door.now c.args.spool.now c.args.clock.now) (world c.judge_store.new.door c.args.spool.now c.args.clock.now) (status_number c.judge_store.result.0) named)
    c.args.command Judge c.in-Judge.is
    (record {
      same_keeper = λ reads. absurd (false≢true reads);
      same_spool = λ other. refl;
      same_clock = λ unasked. refl;
      same_door = λ silent failed. c.judge_store.ensures.untouched failed;
    })

pub returns-in-Snoop-clause-alone : goal.returns-in-Snoop-clause-alone
returns-in-Snoop-clause-alone g c =
    promised_of
    (λ (named : Command). LeavesAlone c.args.keeper c.snoop_store.result.1
    (world c.args.door.now c.args.spool.now c.args.clock.now) (world c.snoop_store.new.door c.args.spool.now c.args.clock.now) (status_number c.snoop_store.result.0) named)
    c.args.command Snoop c.in-Snoop.is
    (record {
      same_keeper = λ reads. absurd (false≢true reads);
      same_spool = λ other. refl;
      same_clock = λ unasked. refl;
      same_door = λ silent failed. absurd (false≢true silent);
    })

pub returns-in-Tally-clause-alone : goal.returns-in-Tally-clause-alone
returns-in-Tally-clause-alone g c =
    promised_of
    (λ (named : Command). LeavesAlone c.args.keeper c.tally_store.result.1
    (world c.args.door.now c.args.spool.now c.args.clock.now) (world c.tally_store.new.door c.args.spool.now c.args.clock.now) (status_number c.tally_store.result.0) named)
    c.args.command Tally c.in-Tally.is
    (record {
      same_keeper = λ reads. absurd (false≢true reads);
      same_spool = λ other. refl;
      same_clock = λ unasked. refl;
      same_door = λ silent failed. c.tally_store.ensures.untouched failed;
    })

pub returns-in-Import-clause-alone : goal.returns-in-Import-clause-alone
returns-in-Import-clause-alone g c =
    promised_of
    (λ (named : Command). LeavesAlone c.args.keeper c.import_store.result.1
    (world c.args.door.now c.args.spool.now c.args.clock.now) (world c.import_store.new.door c.import_store.new.spool c.import_store.new.clock) (status_number c.import_store.result.0) named)
    c.args.command Import c.in-Import.is
    (record {
      same_keeper = λ reads. absurd (false≢true reads);
      same_spool = λ other. absurd (other refl);
      same_clock = λ unasked. asked unasked;
      same_door = λ silent failed. absurd (false≢true silent);
    })

pub returns-in-Replay-clause-alone : goal.returns-in-Replay-clause-alone
returns-in-Replay-clause-alone g c =
    promised_of
    (λ (named : Command). LeavesAlone c.args.keeper c.replay_store.result.1
    (world c.args.door.now c.args.spool.now c.args.clock.now) (world c.replay_store.new.door c.args.spool.now c.args.clock.now) (status_number c.replay_store.result.0) named)
    c.args.command Replay c.in-Replay.is
    (record {
      same_keeper = λ reads. absurd (false≢true reads);
      same_spool = λ other. refl;
      same_clock = λ unasked. refl;
      same_door = λ silent failed. c.replay_store.ensures.untouched failed;
    })

pub returns-in-Serve-clause-alone : goal.returns-in-Serve-clause-alone
returns-in-Serve-clause-alone g c =
    promised_of
    (λ (named : Command). LeavesAlone c.args.keeper c.serve_store.result.1
    (world c.args.door.now c.args.spool.now c.args.clock.now) (world c.serve_store.new.door c.args.spool.now c.serve_store.new.clock) (status_number c.serve_store.result.0) named)
    c.args.command (Serve c.in-Serve.port c.in-Serve.count) c.in-Serve.is
    (record {
      same_keeper = λ reads. absurd (false≢true reads);
      same_spool = λ other. refl;
      same_clock = λ unasked. asked unasked;
      same_door = λ silent failed. (c.serve_store.ensures.untouched failed).0;
    })

pub returns-in-Report-clause-alone : goal.returns-in-Report-clause-alone
returns-in-Report-clause-alone g c =
    promised_of
    (λ (named : Command). LeavesAlone c.args.keeper c.report_store.result.1
    (world c.args.door.now c.args.spool.now c.args.clock.now) (world c.report_store.new.door c.args.spool.now c.report_store.new.clock) (status_number c.report_store.result.0) named)
    c.args.command (Report c.in-Report.kind) c.in-Report.is
    (record {
      same_keeper = λ reads. absurd (false≢true reads);
      same_spool = λ other. refl;
      same_clock = λ unasked. asked unasked;
      same_door = λ silent failed. c.report_store.ensures.untouched failed;
    })

pub returns-in-Export-clause-alone : goal.returns-in-Export-clause-alone
returns-in-Export-clause-alone g c =
    promised_of
    (λ (named : Command). LeavesAlone c.args.keeper c.export_store.result.1
    (world c.args.door.now c.args.spool.now c.args.clock.now) (world c.export_store.new.door c.args.spool.now c.export_store.new.clock) (status_number c.export_store.result.0) named)
    c.args.command (Export c.in-Export.mac) c.in-Export.is
    (record {
      same_keeper = λ reads. absurd (false≢true reads);
      same_spool = λ other. refl;
      same_clock = λ unasked. asked unasked;
      same_door = λ silent failed. c.export_store.ensures.untouched failed;
    })

pub returns-in-Drill-clause-alone : goal.returns-in-Drill-clause-alone
returns-in-Drill-clause-alone g c =
    promised_of
    (λ (named : Command). LeavesAlone c.args.keeper c.run_drill.result.1
    (world c.args.door.now c.args.spool.now c.args.clock.now) (world c.run_drill.new.door c.args.spool.now c.args.clock.now) (status_number c.run_drill.result.0) named)
    c.args.command (Drill c.in-Drill.packets) c.in-Drill.is
    (record {
      same_keeper = λ reads. absurd (false≢true reads);
      same_spool = λ other. refl;
      same_clock = λ unasked. refl;
      same_door = λ silent failed. c.run_drill.ensures.untouched failed;
    })
