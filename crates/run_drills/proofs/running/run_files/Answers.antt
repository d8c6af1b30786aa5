use Rattle.std.proofs.Common.{◌≡◌, [], ◌∷◌, ◌++◌}
use Rattle.std.proofs.lemmas.Result.{err_from_is_err_and}
use Rattle.desk_model.specs.declared.command.Command.{Command}
use Rattle.run_drills.specs.declared.commands.Round.TheVariants.{Files}
use Rattle.run_drills.specs.Commands.{approval, commands_of, fetched_file}
use Rattle.run_drills.proofs.RanLaws.{approval_is, both_all, both_err, fetched_is, part_more}
use Rattle.run_drills.proofs.running.run_files.Goals as goal

-- both commands are those of the round
two : (a b x y : Command) → a ≡ x → b ≡ y → x ∷ y ∷ [] ≡ (a ∷ []) ++ (b ∷ [])
two a b x y p q = cc

pub returns-in_err-run-clause-part : goal.returns-in_err-run-clause-part
returns-in_err-run-clause-part g c =
    let p = err_from_is_err_and c.from_residual-in_err-run.result c.from_residual-in_err-run.ensures.1 in
    let thing = c.args.thing in
    let first = fetched_is c.fetched_file.result c.in_ok-file.file thing c.fetched_file.ensures.made c.in_ok-file.ensures in
    let second = approval_is c.in_ok-approved.approved c.octets.result.now c.in_ok-file.file thing c.in_ok-approved.ensures.made c.octets.ensures c.in_ok-file.ensures in
    rw (p.1, p.2) (part_more g.K.Keeper c.args.desk.now _ _ (c.fetched_file.result ∷ []) (c.in_ok-approved.approved ∷ []) (commands_of Files thing)
    (two c.fetched_file.result c.in_ok-approved.approved (fetched_file thing) (approval thing) first second) c.in_err-run.ensures.part)

pub returns-clause-all : goal.returns-clause-all
returns-clause-all g c =
    let thing = c.args.thing in
    let first = fetched_is c.fetched_file.result c.in_ok-file.file thing c.fetched_file.ensures.made c.in_ok-file.ensures in
    let second = approval_is c.in_ok-approved.approved c.octets.result.now c.in_ok-file.file thing c.in_ok-approved.ensures.made c.octets.ensures c.in_ok-file.ensures in
    both_all g.K.Keeper c.args.desk.now c.run.new.desk (c.fetched_file.result ∷ []) c.in_ok-run.ensures.all
    c.run-2.new.desk (c.in_ok-approved.approved ∷ []) (commands_of Files thing)
    (two c.fetched_file.result c.in_ok-approved.approved (fetched_file thing) (approval thing) first second) c.run-2.result c.run-2.ensures.all

pub returns-clause-part : goal.returns-clause-part
returns-clause-part g c =
    let thing = c.args.thing in
    let first = fetched_is c.fetched_file.result c.in_ok-file.file thing c.fetched_file.ensures.made c.in_ok-file.ensures in
    let second = approval_is c.in_ok-approved.approved c.octets.result.now c.in_ok-file.file thing c.in_ok-approved.ensures.made c.octets.ensures c.in_ok-file.ensures in
    both_err g.K.Keeper c.args.desk.now c.run.new.desk (c.fetched_file.result ∷ []) c.in_ok-run.ensures.all
    c.run-2.new.desk (c.in_ok-approved.approved ∷ []) (commands_of Files thing)
    (two c.fetched_file.result c.in_ok-approved.approved (fetched_file thing) (approval thing) first second) c.run-2.result c.run-2.ensures.part
