use Rattle.std.proofs.Common.{refl}
use Rattle.mud.proofs.TwoRuns.{found_behind, tells_next}
use Rattle.mud.proofs.next_run.next_run_begins_with_what_was_kept.Goals as goal

pub returns-clause-kept : goal.returns-clause-kept
returns-clause-kept g c held leaves store is tells = tells_next c.args.store.now c.args.next.now.keeper is _ (leaves.held store) (leaves.told tells)

pub returns-clause-behind : goal.returns-clause-behind
returns-clause-behind g c held run leaves store is =
    tells_next c.args.store.now c.args.next.now.keeper is _ (leaves.held store)
    (found_behind _ c.args.store.now c.args.returned.now held run (λ k tells. tells) (λ k list m. m) refl leaves.found)
