use Rattle.std.proofs.Common.{false, ◌<◌, ◌≤◌, ◌&&◌, ◌++◌, ◌∷◌, [], List, IsTrue, cond, sym, ap, subst, ◌∙◌}
use Rattle.std.specs.Prelude.{◌==◌, option_map}
use Rattle.base_rows.specs.Sortable.{comes_last}
use Rattle.mud_base.specs.Numbers.{IsOctets}
use Rattle.table_model.specs.declared.bind.ClassRow.{ClassRow}
use Rattle.table_model.specs.Binds.{Binds, class_key}
use Rattle.table_model.specs.BindItems.{with_class_item}
use Rattle.table_model.specs.TakenItems.{is_empty, set_classes}
use Rattle.bind_book.specs.Book.{Book}
use Rattle.bind_book.specs.Reading.{IsTaken}
use Rattle.bind_book.proofs.TakeLaws.{not_taken, full_classes, no_class_taken, class_taken, class_sound}
use Rattle.bind_book.proofs.book.BindBook.take_class.Goals as goal

pub returns-in_default-clause-taken : goal.returns-in_default-clause-taken
returns-in_default-clause-taken c =
    let now : Binds = c.args.self.now.binds in
    not_taken set_classes (with_class_item now.classes c.args.item.now) now (no_class_taken now.classes c.args.item.now (sym c.in_ok-row.ensures ∙ c.in_default.is))

pub returns-then-len-ge-MOST_CLASSES-clause-taken : goal.returns-then-len-ge-MOST_CLASSES-clause-taken
returns-then-len-ge-MOST_CLASSES-clause-taken c =
    let item = c.args.item.now in
    let binds : Binds = record { classes = c.self.inside.classes.rows; locals = c.self.inside.locals; names = c.self.inside.names.rows } in
    subst (λ (b : Binds). IsTaken (option_map (set_classes b) (with_class_item b.classes item)) b b false) (ap (λ (b : Book). b.binds) c.self.view_is)
    (not_taken set_classes (with_class_item binds.classes item) binds (full_classes binds.classes item (subst (λ n. 256 ≤ n) c.len.ensures c.if-len-ge-MOST_CLASSES.true)))

pub invariant_of-self-2 : goal.invariant_of-self-2
invariant_of-self-2 c =
    let item = c.args.item.now in
    let row : ClassRow = c.in-Some.row in
    let binds : Binds = record { classes = c.self.inside.classes.rows; locals = c.self.inside.locals; names = c.self.inside.names.rows } in
    class_sound binds item row c.push_last.result (sym c.in_ok-row.ensures ∙ c.in-Some.is) (subst (λ n. n < 256) c.len.ensures c.if-len-ge-MOST_CLASSES.false)
    (c.push_last.ensures.last ∙ ap (comes_last class_key row) c.in_ok-reserve.ensures.rows) c.push_last.new.self.rows
    (c.push_last.ensures.rows ∙ ap (λ (rows : List ClassRow). cond c.push_last.result (rows ++ row ∷ []) rows) c.in_ok-reserve.ensures.rows)
    c.self.invariant (subst IsOctets c.octets.ensures c.octets_fit.ensures)
    (subst (λ (b : Binds). IsTrue (item.kind == 3 && is_empty b.locals && is_empty b.names)) (sym (ap (λ (b : Book). b.binds) c.self.view_is)) c.requires)

pub returns-clause-taken : goal.returns-clause-taken
returns-clause-taken c =
    let item = c.args.item.now in
    let row : ClassRow = c.in-Some.row in
    let binds : Binds = record { classes = c.self.inside.classes.rows; locals = c.self.inside.locals; names = c.self.inside.names.rows } in
    let new : Binds = record { classes = c.push_last.new.self.rows; locals = binds.locals; names = binds.names } in
    subst (λ (b : Binds). IsTaken (option_map (set_classes b) (with_class_item b.classes item)) b new c.push_last.result) (ap (λ (b : Book). b.binds) c.self.view_is)
    (class_taken binds item row c.push_last.result (sym c.in_ok-row.ensures ∙ c.in-Some.is) (subst (λ n. n < 256) c.len.ensures c.if-len-ge-MOST_CLASSES.false)
    (c.push_last.ensures.last ∙ ap (comes_last class_key row) c.in_ok-reserve.ensures.rows) c.push_last.new.self.rows
    (c.push_last.ensures.rows ∙ ap (λ (rows : List ClassRow). cond c.push_last.result (rows ++ row ∷ []) rows) c.in_ok-reserve.ensures.rows))
