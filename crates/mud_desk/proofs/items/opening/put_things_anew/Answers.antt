use Rattle.std.proofs.Common.{IsTrue, refl, sym, subst, ◌∙◌}
use Rattle.mud_world.specs.Kept.{kept_items}
use Rattle.mud_desk.specs.Items.Loaded.{loaded_desk}
use Rattle.mud_desk.proofs.ItemsLaws.Anew.{things_fit, thing_anew, all_put, first_anew, one_anew, partly_anew, partly_left, octets_at}
use Rattle.mud_desk.proofs.items.opening.put_things_anew.Goals as goal
use Rattle.base_rows.proofs.Results.{always_on_err}

pub loop-index-init : goal.loop-index-init
loop-index-init g c = record {
  told = λ t. t;
  items = λ t. first_anew c.args.list.now (kept_items g.K.Keeper c.args.keeper.now) (c.requires.items t);
  ordered = c.requires.ordered;
  rests = c.requires.rests;
  opened = c.requires.opened;
  steady = refl;
}

pub returns-in_err-anew-clause-err : goal.returns-in_err-anew-clause-err
returns-in_err-anew-clause-err g c t =
    always_on_err c.from_residual.result
    (partly_anew c.args.list.now (kept_items g.K.Keeper c.loop-index.keeper) (loaded_desk c.args.loaded.now) c.bodies_fit.ensures c.requires.read c.loop-index.index (c.loop-index.invariant.items t))

pub returns-in_err-anew-clause-crash : goal.returns-in_err-anew-clause-crash
returns-in_err-anew-clause-crash g c =
    always_on_err c.from_residual.result (λ found left.
    let rested = c.loop-index.invariant.rests found left in
    (c.loop-index.invariant.told rested.0, partly_anew c.args.list.now found (loaded_desk c.args.loaded.now) c.bodies_fit.ensures c.requires.read c.loop-index.index (rested.1 ∙ c.loop-index.invariant.items rested.0)))

pub bounds-list-index : goal.bounds-list-index
bounds-list-index g c = things_fit c.args.loaded.now c.args.list.now c.bodies_fit.ensures c.requires.read c.things-index-end.result.now c.things-index-end.ensures.things c.loop-index.index c.loop-index-test.true

pub put_anew-requires-clause-anew : goal.put_anew-requires-clause-anew
put_anew-requires-clause-anew g c =
    thing_anew c.args.loaded.now c.args.list.now c.bodies_fit.ensures c.requires.read c.loop-index.index c.in_ok-anew.anew c.index-list-index.result c.in_ok-anew.ensures
    (things_fit c.args.loaded.now c.args.list.now c.bodies_fit.ensures c.requires.read c.things-index-end.result.now c.things-index-end.ensures.things c.loop-index.index c.loop-index-test.true) c.index-list-index.is

pub put_anew-requires-clause-octets : goal.put_anew-requires-clause-octets
put_anew-requires-clause-octets g c =
    octets_at c.args.list.now c.loop-index.index c.index-list-index.result
    (things_fit c.args.loaded.now c.args.list.now c.bodies_fit.ensures c.requires.read c.things-index-end.result.now c.things-index-end.ensures.things c.loop-index.index c.loop-index-test.true) c.index-list-index.is c.bodies_fit.ensures

pub returns-in_err-put_anew-clause-err : goal.returns-in_err-put_anew-clause-err
returns-in_err-put_anew-clause-err g c t =
    always_on_err c.from_residual-in_err-put_anew.result
    (partly_anew c.args.list.now (kept_items g.K.Keeper c.put_anew.new.keeper) (loaded_desk c.args.loaded.now) c.bodies_fit.ensures c.requires.read c.loop-index.index (c.in_err-put_anew.ensures.err t ∙ c.loop-index.invariant.items (c.in_err-put_anew.ensures.told t)))

pub returns-in_err-put_anew-clause-crash : goal.returns-in_err-put_anew-clause-crash
returns-in_err-put_anew-clause-crash g c =
    always_on_err c.from_residual-in_err-put_anew.result
    (partly_left g.K.Keeper c.args.keeper.now c.loop-index.keeper c.put_anew.new.keeper c.args.list.now c.loop-index.index c.index-list-index.result (loaded_desk c.args.loaded.now) c.bodies_fit.ensures c.requires.read
    (things_fit c.args.loaded.now c.args.list.now c.bodies_fit.ensures c.requires.read c.things-index-end.result.now c.things-index-end.ensures.things c.loop-index.index c.loop-index-test.true) c.index-list-index.is
    c.loop-index.invariant.told c.loop-index.invariant.items c.loop-index.invariant.ordered c.loop-index.invariant.rests c.in_err-put_anew.ensures.crash)

pub loop-index-preserved : goal.loop-index-preserved
loop-index-preserved g c = record {
  told = λ t. c.loop-index.invariant.told (c.in_ok-put_anew.ensures.told t);
  items = λ t. one_anew c.args.list.now c.loop-index.index c.index-list-index.result (kept_items g.K.Keeper c.loop-index.keeper) (kept_items g.K.Keeper c.put_anew.new.keeper) (things_fit c.args.loaded.now c.args.list.now c.bodies_fit.ensures c.requires.read c.things-index-end.result.now c.things-index-end.ensures.things c.loop-index.index c.loop-index-test.true) c.index-list-index.is (c.loop-index.invariant.items (c.in_ok-put_anew.ensures.told t)) (c.loop-index.invariant.ordered (c.in_ok-put_anew.ensures.told t)) (c.in_ok-put_anew.ensures.ok t);
  ordered = λ t. c.in_ok-put_anew.ensures.ordered t (c.loop-index.invariant.ordered (c.in_ok-put_anew.ensures.told t));
  rests = c.in_ok-put_anew.ensures.rests c.loop-index.invariant.rests;
  opened = subst IsTrue (sym c.in_ok-put_anew.ensures.opened) c.loop-index.invariant.opened;
  steady = c.in_ok-put_anew.ensures.cause.steady refl ∙ c.loop-index.invariant.steady;
}

pub returns-clause-ok : goal.returns-clause-ok
returns-clause-ok g c t =
    all_put c.args.loaded.now c.args.list.now c.bodies_fit.ensures c.requires.read c.things-index-end.result.now c.things-index-end.ensures.things c.loop-index.index c.loop-index-test.false c.loop-index.auto.index-end (kept_items g.K.Keeper c.loop-index.keeper) (c.loop-index.invariant.items t)
