use Rattle.std.proofs.Common.{refl}
use Rattle.sqlite.specs.WalFiles.{image_at}
use Rattle.mud.proofs.TwoRuns.{leaves_next}
use Rattle.mud.proofs.next_run.leave_store.Goals as goal

pub returns-in-File-clause-left : goal.returns-in-File-clause-left
returns-in-File-clause-left g c =
    let e = c.leave_file.ensures in
    leaves_next _ (image_at g.S.Start) c.args.returned c.in-File.keeper c.in-File.is (λ k list m. m) (λ k tells. tells) (λ k. refl) c.leave_file.result e.found e.told e.held
