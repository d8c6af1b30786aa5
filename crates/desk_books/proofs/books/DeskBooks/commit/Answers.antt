use Rattle.std.proofs.Common.{◌≡◌, ◌≤◌, length, ap, sym, subst, ◌∙◌}
use Rattle.acl_changes.specs.Patch.{rows_apart}
use Rattle.desk_books.specs.Books.{Books, desk_of, books_with}
use Rattle.desk_books.specs.Changes.{PlannedChange, desk_after}
use Rattle.desk_books.specs.Planned.{IsReady, IsCommitted}
use Rattle.desk_books.proofs.Whole.{can_commit, fits, committed_desk, committed_kept}
use Rattle.desk_books.proofs.books.DeskBooks.commit.Goals as goal

pub commit-requires : goal.commit-requires
commit-requires g c =
    let book : Books = c.args.self.now in
    let view : book ≡ books_with c.self.inside.lists c.self.inside.compiled c.self.inside.stamp = sym c.self.view_is in
    let x : PlannedChange = record { outcome = c.change.inside.outcome; change = c.change.inside.change; rows = c.change.inside.rows; batch = c.change.inside.batch; stamp = c.change.inside.stamp } in
    let ready : IsReady book x = subst (λ (y : PlannedChange). IsReady book y) (sym c.change.view_is) c.requires in
    can_commit book c.self.inside.lists c.self.inside.compiled c.self.inside.stamp view x ready

pub commit-requires-2 : goal.commit-requires-2
commit-requires-2 g c =
    let book : Books = c.args.self.now in
    let view : book ≡ books_with c.self.inside.lists c.self.inside.compiled c.self.inside.stamp = sym c.self.view_is in
    let x : PlannedChange = record { outcome = c.change.inside.outcome; change = c.change.inside.change; rows = c.change.inside.rows; batch = c.change.inside.batch; stamp = c.change.inside.stamp } in
    let ready : IsReady book x = subst (λ (y : PlannedChange). IsReady book y) (sym c.change.view_is) c.requires in
    fits book c.self.inside.lists c.self.inside.compiled c.self.inside.stamp view x ready

pub invariant_of-self : goal.invariant_of-self
invariant_of-self g c =
    let book : Books = c.args.self.now in
    let view : book ≡ books_with c.self.inside.lists c.self.inside.compiled c.self.inside.stamp = sym c.self.view_is in
    let x : PlannedChange = record { outcome = c.change.inside.outcome; change = c.change.inside.change; rows = c.change.inside.rows; batch = c.change.inside.batch; stamp = c.change.inside.stamp } in
    let ready : IsReady book x = subst (λ (y : PlannedChange). IsReady book y) (sym c.change.view_is) c.requires in
    let done : IsCommitted x.rows c.self.inside.compiled c.commit-2.new.self = record { slots = c.commit-2.ensures.slots; bindings = c.commit-2.ensures.bindings; rows = c.commit-2.ensures.rows } in
    committed_kept book c.self.inside.lists c.self.inside.compiled c.self.inside.stamp view x ready c.commit.new.self c.commit-2.new.self c.commit.ensures done

pub returns-clause-desk : goal.returns-clause-desk
returns-clause-desk g c =
    let book : Books = c.args.self.now in
    let view : book ≡ books_with c.self.inside.lists c.self.inside.compiled c.self.inside.stamp = sym c.self.view_is in
    let x : PlannedChange = record { outcome = c.change.inside.outcome; change = c.change.inside.change; rows = c.change.inside.rows; batch = c.change.inside.batch; stamp = c.change.inside.stamp } in
    let ready : IsReady book x = subst (λ (y : PlannedChange). IsReady book y) (sym c.change.view_is) c.requires in
    let done : IsCommitted x.rows c.self.inside.compiled c.commit-2.new.self = record { slots = c.commit-2.ensures.slots; bindings = c.commit-2.ensures.bindings; rows = c.commit-2.ensures.rows } in
    committed_desk book c.self.inside.lists c.self.inside.compiled c.self.inside.stamp view x ready c.commit.new.self c.commit-2.new.self c.commit.ensures done ∙ ap (λ (y : PlannedChange). desk_after y (desk_of book)) c.change.view_is

pub returns-clause-most : goal.returns-clause-most
returns-clause-most g c =
    let rows = c.commit-2.new.self.rows in
    subst (λ (y : PlannedChange). length y.rows.rows ≤ rows_apart c.args.self.now.compiled.rows rows) c.change.view_is
    (subst (λ (b : Books). length c.change.inside.rows.rows ≤ rows_apart b.compiled.rows rows) c.self.view_is c.commit-2.ensures.most)
