use Rattle.std.proofs.Common.{List, sym, subst, ◌∙◌}
use Rattle.table_model.specs.declared.bind.ClassRow.{ClassRow}
use Rattle.table_model.specs.declared.bind.NameRow.{NameRow}
use Rattle.mud_base.specs.declared.prefix.Prefix.{Prefix}
use Rattle.table_model.specs.Binds.{IsSoundClasses, IsSoundLocals, IsSoundNames}
use Rattle.desk_books.proofs.Whole.{kept_of}
use Rattle.desk_books.proofs.lists.compiled_of.Goals as goal

pub returns : goal.returns
returns c stamp late =
    let classes : IsSoundClasses c.args.binds.now.binds.classes = subst (λ (rows : List ClassRow). IsSoundClasses rows) c.classes.ensures.rows c.classes.ensures.sound in
    let locals : IsSoundLocals c.args.binds.now.binds.locals = subst (λ (prefixes : List Prefix). IsSoundLocals prefixes) c.locals-locals.ensures.prefixes c.locals-locals.ensures.sound in
    let names : IsSoundNames c.args.binds.now.binds.names = subst (λ (rows : List NameRow). IsSoundNames rows) c.names.ensures.rows c.names.ensures.sound in
    kept_of c.args.things.now c.args.files.now c.args.binds.now c.in_ok-compiled.compiled c.things.ensures.sound c.files.ensures.sound classes locals names
    (λ desk sound things classes names files. c.in_ok-compiled.ensures desk sound (things ∙ sym c.things.ensures.things) (classes ∙ sym c.classes.ensures.rows) (names ∙ sym c.names.ensures.rows) (files ∙ sym c.files.ensures.files)) stamp late
