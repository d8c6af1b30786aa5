use Rattle.std.proofs.Common.{[], ◌∷◌}
use Rattle.std.proofs.lemmas.Result.{err_from_is_err_and}
use Rattle.run_drills.specs.declared.commands.Round.TheVariants.{Announcements, Leases, Files, Hosts}
use Rattle.run_drills.specs.Commands.{drill_commands, round_commands}
use Rattle.run_drills.proofs.RanLaws.{all_five, part_one, part_two, part_three, part_four, part_five, parts_with}
use Rattle.run_drills.proofs.running.run_commands.Goals as goal

pub returns-in_err-run_round-clause-part : goal.returns-in_err-run_round-clause-part
returns-in_err-run_round-clause-part g c =
    let p = err_from_is_err_and c.from_residual-in_err-run_round.result c.from_residual-in_err-run_round.ensures.1 in
    let packets = c.args.packets in
    let things = c.thing_count-things.result in
    let files = c.file_count-files.result in
    let bound = c.in_ok-bound.bound in
    let is = parts_with packets things files bound c.thing_count-things.ensures.value c.file_count-files.ensures c.in_ok-bound.ensures.made in
    rw (p.1, p.2) (part_one g.K.Keeper c.args.desk.now (round_commands Announcements things) (round_commands Leases things) (round_commands Files files) (bound ∷ []) (round_commands Hosts files) (drill_commands packets) is
    c.run_round.new.desk _ c.in_err-run_round.ensures.part)

pub returns-in_err-run_round-2-clause-part : goal.returns-in_err-run_round-2-clause-part
returns-in_err-run_round-2-clause-part g c =
    let p = err_from_is_err_and c.from_residual-in_err-run_round-2.result c.from_residual-in_err-run_round-2.ensures.1 in
    let packets = c.args.packets in
    let things = c.thing_count-things.result in
    let files = c.file_count-files.result in
    let bound = c.in_ok-bound.bound in
    let is = parts_with packets things files bound c.thing_count-things.ensures.value c.file_count-files.ensures c.in_ok-bound.ensures.made in
    rw (p.1, p.2) (part_two g.K.Keeper c.args.desk.now (round_commands Announcements things) (round_commands Leases things) (round_commands Files files) (bound ∷ []) (round_commands Hosts files) (drill_commands packets) is
    c.run_round.new.desk c.in_ok-run_round.ensures.all c.run_round-2.new.desk _ c.in_err-run_round-2.ensures.part)

pub returns-in_err-run_round-3-clause-part : goal.returns-in_err-run_round-3-clause-part
returns-in_err-run_round-3-clause-part g c =
    let p = err_from_is_err_and c.from_residual-in_err-run_round-3.result c.from_residual-in_err-run_round-3.ensures.1 in
    let packets = c.args.packets in
    let things = c.thing_count-things.result in
    let files = c.file_count-files.result in
    let bound = c.in_ok-bound.bound in
    let is = parts_with packets things files bound c.thing_count-things.ensures.value c.file_count-files.ensures c.in_ok-bound.ensures.made in
    rw (p.1, p.2) (part_three g.K.Keeper c.args.desk.now (round_commands Announcements things) (round_commands Leases things) (round_commands Files files) (bound ∷ []) (round_commands Hosts files) (drill_commands packets) is
    c.run_round.new.desk c.in_ok-run_round.ensures.all c.run_round-2.new.desk c.in_ok-run_round-2.ensures.all c.run_round-3.new.desk _ c.in_err-run_round-3.ensures.part)

pub returns-in_err-run-clause-part : goal.returns-in_err-run-clause-part
returns-in_err-run-clause-part g c =
    let p = err_from_is_err_and c.from_residual-in_err-run.result c.from_residual-in_err-run.ensures.1 in
    let packets = c.args.packets in
    let things = c.thing_count-things.result in
    let files = c.file_count-files.result in
    let bound = c.in_ok-bound.bound in
    let is = parts_with packets things files bound c.thing_count-things.ensures.value c.file_count-files.ensures c.in_ok-bound.ensures.made in
    rw (p.1, p.2) (part_four g.K.Keeper c.args.desk.now (round_commands Announcements things) (round_commands Leases things) (round_commands Files files) (bound ∷ []) (round_commands Hosts files) (drill_commands packets) is
    c.run_round.new.desk c.in_ok-run_round.ensures.all c.run_round-2.new.desk c.in_ok-run_round-2.ensures.all c.run_round-3.new.desk c.in_ok-run_round-3.ensures.all c.run.new.desk _ c.in_err-run.ensures.part)

pub returns-clause-all : goal.returns-clause-all
returns-clause-all g c =
    let packets = c.args.packets in
    let things = c.thing_count-things.result in
    let files = c.file_count-files.result in
    let bound = c.in_ok-bound.bound in
    let is = parts_with packets things files bound c.thing_count-things.ensures.value c.file_count-files.ensures c.in_ok-bound.ensures.made in
    all_five g.K.Keeper c.args.desk.now (round_commands Announcements things) (round_commands Leases things) (round_commands Files files) (bound ∷ []) (round_commands Hosts files) (drill_commands packets) is
    c.run_round.new.desk c.in_ok-run_round.ensures.all c.run_round-2.new.desk c.in_ok-run_round-2.ensures.all c.run_round-3.new.desk c.in_ok-run_round-3.ensures.all c.run.new.desk c.in_ok-run.ensures.all c.run_round-4.new.desk c.run_round-4.result c.run_round-4.ensures.all

pub returns-clause-part : goal.returns-clause-part
returns-clause-part g c =
    let packets = c.args.packets in
    let things = c.thing_count-things.result in
    let files = c.file_count-files.result in
    let bound = c.in_ok-bound.bound in
    let is = parts_with packets things files bound c.thing_count-things.ensures.value c.file_count-files.ensures c.in_ok-bound.ensures.made in
    part_five g.K.Keeper c.args.desk.now (round_commands Announcements things) (round_commands Leases things) (round_commands Files files) (bound ∷ []) (round_commands Hosts files) (drill_commands packets) is
    c.run_round.new.desk c.in_ok-run_round.ensures.all c.run_round-2.new.desk c.in_ok-run_round-2.ensures.all c.run_round-3.new.desk c.in_ok-run_round-3.ensures.all c.run.new.desk c.in_ok-run.ensures.all c.run_round-4.new.desk c.run_round-4.result c.run_round-4.ensures.part
