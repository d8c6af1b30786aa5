use Rattle.std.proofs.Common.{◌≡◌, ◌⊎◌, refl, subst, sym}
use Rattle.sqlite.specs.Files.{over_files}
use Rattle.sqlite.specs.Held.{state}
use Rattle.sqlite.specs.State.{HasCleanDisk}
use Rattle.keep_sqlite.specs.Telling.{Leaves, LeavesEither, LeavesStore, MayBeLeft}
use Rattle.keep_sqlite.proofs.LeftItems.{left_next, store_next}
use Rattle.keep_sqlite.proofs.Reopens.{clean_before, found_next, one_of}
use Rattle.keep_sqlite.proofs.laws.leave.Goals as goal

pub returns-clause-found : goal.returns-clause-found
returns-clause-found g c clean items leaves =
    let e = c.into_store.ensures in
    found_next c.into_store.result (λ list. list ≡ items) (e.numbered clean) (e.sound clean) (λ trees recovered.
    (items, refl, subst (λ keeper. Leaves over_files keeper items) (sym c.keeper.view_is) leaves trees (e.quiet.outcomes trees recovered)))

pub returns-clause-either : goal.returns-clause-either
returns-clause-either g c clean one other leaves =
    let e = c.into_store.ensures in
    found_next c.into_store.result (λ list. (list ≡ one) ⊎ (list ≡ other)) (e.numbered clean) (e.sound clean) (λ trees recovered.
    one_of one other trees (subst (λ keeper. LeavesEither over_files keeper one other) (sym c.keeper.view_is) leaves trees (e.quiet.outcomes trees recovered)))

pub returns-clause-next : goal.returns-clause-next
returns-clause-next g c clean =
    let e = c.into_store.ensures in
    left_next c.into_store.result (MayBeLeft over_files c.args.keeper) (e.numbered clean) (e.sound clean) (λ db sound recovered.
    record {
      clean = subst (λ keeper. HasCleanDisk (state over_files keeper.connection)) c.keeper.view_is (clean_before _ _ e.quiet.clean clean);
      db = db;
      sound = sound;
      left = subst (λ keeper. (state over_files keeper.connection).may_leave db.trees) c.keeper.view_is (e.quiet.outcomes db.trees recovered);
      items = refl;
    })

pub returns-clause-held : goal.returns-clause-held
returns-clause-held g c clean store =
    let e = c.into_store.ensures in
    store_next c.into_store.result (e.numbered clean) (e.sound clean) (λ db sound recovered.
    subst (LeavesStore over_files) (sym c.keeper.view_is) store (clean_before _ _ e.quiet.clean clean) db sound (e.quiet.outcomes db.trees recovered))
