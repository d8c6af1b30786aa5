use Rattle.std.proofs.Common.{false, ◌<◌, ◌≤◌, ◌++◌, ◌∷◌, [], List, cond, sym, ap, subst, ◌∙◌}
use Rattle.std.specs.Prelude.{option_map}
use Rattle.base_rows.specs.Sortable.{comes_last}
use Rattle.mud_base.specs.Numbers.{IsOctets}
use Rattle.table_model.specs.declared.bind.NameRow.{NameRow}
use Rattle.table_model.specs.Binds.{Binds, name_of}
use Rattle.table_model.specs.BindItems.{with_name_item}
use Rattle.table_model.specs.TakenItems.{set_names}
use Rattle.bind_book.specs.Book.{Book}
use Rattle.bind_book.specs.Reading.{IsTaken}
use Rattle.bind_book.proofs.TakeLaws.{not_taken, full_names, no_name_taken, name_taken, name_sound}
use Rattle.bind_book.proofs.book.BindBook.take_name.Goals as goal

pub returns-in_default-clause-taken : goal.returns-in_default-clause-taken
returns-in_default-clause-taken c =
    let now : Binds = c.args.self.now.binds in
    not_taken set_names (with_name_item now.names c.args.item.now) now (no_name_taken now.names c.args.item.now (sym c.in_ok-row.ensures ∙ c.in_default.is))

pub returns-then-len-ge-MOST_NAMES-clause-taken : goal.returns-then-len-ge-MOST_NAMES-clause-taken
returns-then-len-ge-MOST_NAMES-clause-taken c =
    let item = c.args.item.now in
    let binds : Binds = record { classes = c.self.inside.classes.rows; locals = c.self.inside.locals; names = c.self.inside.names.rows } in
    subst (λ (b : Binds). IsTaken (option_map (set_names b) (with_name_item b.names item)) b b false) (ap (λ (b : Book). b.binds) c.self.view_is)
    (not_taken set_names (with_name_item binds.names item) binds (full_names binds.names item (subst (λ n. 4096 ≤ n) c.len.ensures c.if-len-ge-MOST_NAMES.true)))

pub invariant_of-self-2 : goal.invariant_of-self-2
invariant_of-self-2 c =
    let item = c.args.item.now in
    let row : NameRow = c.in-Some.row in
    let binds : Binds = record { classes = c.self.inside.classes.rows; locals = c.self.inside.locals; names = c.self.inside.names.rows } in
    name_sound binds item row c.push_last.result (sym c.in_ok-row.ensures ∙ c.in-Some.is) (subst (λ n. n < 4096) c.len.ensures c.if-len-ge-MOST_NAMES.false)
    (c.push_last.ensures.last ∙ ap (comes_last name_of row) c.in_ok-reserve.ensures.rows) c.push_last.new.self.rows
    (c.push_last.ensures.rows ∙ ap (λ (rows : List NameRow). cond c.push_last.result (rows ++ row ∷ []) rows) c.in_ok-reserve.ensures.rows)
    c.self.invariant (subst IsOctets c.octets.ensures c.octets_fit.ensures)
    c.requires

pub returns-clause-taken : goal.returns-clause-taken
returns-clause-taken c =
    let item = c.args.item.now in
    let row : NameRow = c.in-Some.row in
    let binds : Binds = record { classes = c.self.inside.classes.rows; locals = c.self.inside.locals; names = c.self.inside.names.rows } in
    let new : Binds = record { classes = c.self.inside.classes.rows; locals = binds.locals; names = c.push_last.new.self.rows } in
    subst (λ (b : Binds). IsTaken (option_map (set_names b) (with_name_item b.names item)) b new c.push_last.result) (ap (λ (b : Book). b.binds) c.self.view_is)
    (name_taken binds item row c.push_last.result (sym c.in_ok-row.ensures ∙ c.in-Some.is) (subst (λ n. n < 4096) c.len.ensures c.if-len-ge-MOST_NAMES.false)
    (c.push_last.ensures.last ∙ ap (comes_last name_of row) c.in_ok-reserve.ensures.rows) c.push_last.new.self.rows
    (c.push_last.ensures.rows ∙ ap (λ (rows : List NameRow). cond c.push_last.result (rows ++ row ∷ []) rows) c.in_ok-reserve.ensures.rows))
