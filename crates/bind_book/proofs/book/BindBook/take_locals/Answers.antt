use Rattle.std.proofs.Common.{false, true, ◌&&◌, IsTrue, sym, ap, subst, ◌∙◌}
use Rattle.std.specs.Prelude.{◌==◌, option_map}
use Rattle.mud_base.specs.Numbers.{IsOctets}
use Rattle.table_model.specs.Binds.{Binds}
use Rattle.table_model.specs.BindItems.{with_locals_item}
use Rattle.table_model.specs.TakenItems.{is_empty, set_locals}
use Rattle.bind_book.specs.Book.{Book}
use Rattle.bind_book.specs.Reading.{IsTaken}
use Rattle.bind_book.proofs.TakeLaws.{not_taken, locals_there, with_locals, locals_taken, locals_sound}
use Rattle.bind_book.proofs.book.BindBook.take_locals.Goals as goal

pub returns-then-len-ne0-clause-taken : goal.returns-then-len-ne0-clause-taken
returns-then-len-ne0-clause-taken c =
    let item = c.args.item.now in
    let binds : Binds = record { classes = c.self.inside.classes.rows; locals = c.self.inside.locals; names = c.self.inside.names.rows } in
    subst (λ (b : Binds). IsTaken (option_map (set_locals b) (with_locals_item b.locals item)) b b false) (ap (λ (b : Book). b.binds) c.self.view_is)
    (not_taken set_locals (with_locals_item binds.locals item) binds (locals_there binds.locals item (λ e. c.if-len-ne0.true (c.len.ensures ∙ e))))

pub returns-in_default-clause-taken : goal.returns-in_default-clause-taken
returns-in_default-clause-taken c =
    let item = c.args.item.now in
    let binds : Binds = record { classes = c.self.inside.classes.rows; locals = c.self.inside.locals; names = c.self.inside.names.rows } in
    subst (λ (b : Binds). IsTaken (option_map (set_locals b) (with_locals_item b.locals item)) b b false) (ap (λ (b : Book). b.binds) c.self.view_is)
    (not_taken set_locals (with_locals_item binds.locals item) binds (with_locals binds.locals item (sym c.len.ensures ∙ c.if-len-ne0.false) ∙ sym c.in_ok-locals.ensures ∙ c.in_default.is))

pub invariant_of-self : goal.invariant_of-self
invariant_of-self c =
    let item = c.args.item.now in
    let binds : Binds = record { classes = c.self.inside.classes.rows; locals = c.self.inside.locals; names = c.self.inside.names.rows } in
    locals_sound binds item c.in-Some.locals (sym c.in_ok-locals.ensures ∙ c.in-Some.is) (sym c.len.ensures ∙ c.if-len-ne0.false)
    c.self.invariant (subst IsOctets c.octets.ensures c.octets_fit.ensures)
    (subst (λ (b : Binds). IsTrue (item.kind == 4 && is_empty b.names)) (sym (ap (λ (b : Book). b.binds) c.self.view_is)) c.requires)

pub returns-clause-taken : goal.returns-clause-taken
returns-clause-taken c =
    let item = c.args.item.now in
    let binds : Binds = record { classes = c.self.inside.classes.rows; locals = c.self.inside.locals; names = c.self.inside.names.rows } in
    let new : Binds = record { classes = binds.classes; locals = c.in-Some.locals; names = binds.names } in
    subst (λ (b : Binds). IsTaken (option_map (set_locals b) (with_locals_item b.locals item)) b new true) (ap (λ (b : Book). b.binds) c.self.view_is)
    (locals_taken binds item c.in-Some.locals (sym c.in_ok-locals.ensures ∙ c.in-Some.is) (sym c.len.ensures ∙ c.if-len-ne0.false))
