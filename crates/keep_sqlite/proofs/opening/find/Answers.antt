use Rattle.std.proofs.Common.{◌≡◌, inl, inr, false, refl, sym, ap, subst, ◌∙◌, arith, rules}
use Rattle.sqlite.specs.Effect.{Database}
use Rattle.sqlite.specs.Held.{state}
use Rattle.sqlite.specs.State.{HasCleanDisk}
use Rattle.keep_sqlite.specs.Refused.{FindsOrMakes, IsUnread, RefusesOpening}
use Rattle.keep_sqlite.specs.Rows.{HoldsItems, MayHold}
use Rattle.keep_sqlite.specs.Table.{item_schema}
use Rattle.keep_sqlite.proofs.Crashes.{survives_next}
use Rattle.keep_sqlite.proofs.Opens.{holds_from, if_ok_map, if_err_map}
use Rattle.keep_sqlite.proofs.Unread.{makes_nothing, makes_still, ready_holds, ready_open, unread_as, unread_told}
use Rattle.keep_sqlite.proofs.opening.find.Goals as goal

pub returns-clause-ok : goal.returns-clause-ok
returns-clause-ok g c clean =
    let first = state g.S.Store c.create_if_blank.new.connection in
    let mid = state g.S.Store c.test_rowids.new.connection in
    let new = state g.S.Store c.list.new.connection in
    let early : HasCleanDisk mid = omega (arith, c.list.ensures.clean) in
    let ids = c.in_ok-test_rowids.ensures.ok early in
    let ours : c.schema.result.now ≡ item_schema = search rules in
    if_ok_map c.list.result (c.list.ensures.ok clean) (λ items it.
    let held = holds_from first mid new items (c.schema.ensures.live ids.0.0.was_open).0 (sym c.schema.ensures.value ∙ ours) ids.0.0.now_is it.0.0.now_is ids.1 it.1 it.2 in
    (it.0.0.is_open, held.0, held.1))

pub returns-clause-crash : goal.returns-clause-crash
returns-clause-crash g c =
    let first = state g.S.Store c.create_if_blank.new.connection in
    let mid = state g.S.Store c.test_rowids.new.connection in
    let ours : c.schema.result.now ≡ item_schema = search rules in
    let found : first.now.schema ≡ item_schema = sym c.schema.ensures.value ∙ ours in
    let two = c.test_rowids.ensures.crash (λ _. found) in
    let three = c.list.ensures.crash (λ clean.
    let early : HasCleanDisk mid = omega (arith, c.list.ensures.clean) in
    ap (λ (d : Database). d.schema) (c.in_ok-test_rowids.ensures.ok early).0.0.now_is ∙ found) in
    survives_next _ _ _ (survives_next _ _ _ c.create_if_blank.ensures.crash two) three

pub returns-in-Err-clause-refused : goal.returns-in-Err-clause-refused
returns-in-Err-clause-refused g c clean =
    let old = state g.S.Store c.args.connection.now in
    unread_told _ c.refusal_of.result (record {
      error = c.in-Err.error;
      told = c.refusal_of.ensures;
      fails = record {
        before = c.args.connection.now;
        made = makes_nothing old c.requires.settled;
        is_open = λ o. o;
        limit = refl;
        next = c.in-Err.ensures.refused clean;
      };
    })

pub returns-then-not-branch-clause-refused : goal.returns-then-not-branch-clause-refused
returns-then-not-branch-clause-refused g c clean =
    let ready : FindsOrMakes g.S.Store c.args.connection.now c.create_if_blank.new.connection = search rules in
    inl (λ may.
    let holds = ready_holds g.S.Store c.args.connection.now c.create_if_blank.new.connection ready may in
    let ours : c.schema.result.now ≡ item_schema = c.schema.ensures.value ∙ holds.schema in
    let yes = c.is_ours.ensures.back ours in
    absurd (search rules))

pub returns-in_err-test_rowids-clause-refused : goal.returns-in_err-test_rowids-clause-refused
returns-in_err-test_rowids-clause-refused g c clean =
    let opened = c.args.connection.now in
    let first = state g.S.Store c.create_if_blank.new.connection in
    let ours : c.schema.result.now ≡ item_schema = search rules in
    let found : first.now.schema ≡ item_schema = sym c.schema.ensures.value ∙ ours in
    let early : HasCleanDisk first = omega (arith, c.test_rowids.ensures.clean) in
    let ready : FindsOrMakes g.S.Store opened c.create_if_blank.new.connection = search rules in
    let refused : IsUnread (RefusesOpening g.S.Store opened c.test_rowids.new.connection) (MayHold false (state g.S.Store opened).now) c.in_err-test_rowids.field-0.0 =
    unread_as c.in_err-test_rowids.field-0.0 (λ e fails. record {
      before = c.create_if_blank.new.connection;
      made = c.create_if_blank.ensures.makes early;
      is_open = ready_open g.S.Store opened c.create_if_blank.new.connection ready;
      limit = c.create_if_blank.ensures.crash.limit;
      next = inr ((λ _. found), inl fails);
    }) (ready_holds g.S.Store opened c.create_if_blank.new.connection ready) (c.in_err-test_rowids.ensures.refused clean) in
    search rules

pub returns-clause-refused : goal.returns-clause-refused
returns-clause-refused g c clean =
    let opened = c.args.connection.now in
    let old = state g.S.Store opened in
    let first = state g.S.Store c.create_if_blank.new.connection in
    let mid = state g.S.Store c.test_rowids.new.connection in
    let early : HasCleanDisk mid = omega (arith, c.list.ensures.clean) in
    let start : HasCleanDisk first = omega (arith, c.test_rowids.ensures.clean, early) in
    let ours : c.schema.result.now ≡ item_schema = search rules in
    let same = c.in_ok-test_rowids.ensures.ok early in
    let found : mid.now.schema ≡ item_schema = ap (λ (d : Database). d.schema) same.0.0.now_is ∙ sym c.schema.ensures.value ∙ ours in
    let table = c.test_rowids.ensures.crash (λ _. sym c.schema.ensures.value ∙ ours) in
    let ready : FindsOrMakes g.S.Store opened c.create_if_blank.new.connection = search rules in
    if_err_map c.list.result (c.list.ensures.refused clean) (λ refusal. unread_as refusal (λ e fails. record {
      before = c.test_rowids.new.connection;
      made = makes_still old first mid (c.create_if_blank.ensures.makes start) (c.test_rowids.ensures.same early);
      is_open = λ o. same.0.0.is_open;
      limit = table.limit ∙ c.create_if_blank.ensures.crash.limit;
      next = inr ((λ _. found), inr fails);
    }) (λ may. subst HoldsItems (sym same.0.0.now_is) (ready_holds g.S.Store opened c.create_if_blank.new.connection ready may)))
