use Rattle.std.proofs.Common.{◌∙◌}
use Rattle.desk_books.proofs.Binding.{compiled_of}
use Rattle.desk_books.proofs.compiling.compile_counted.Goals as goal

pub returns-in-Ok : goal.returns-in-Ok
returns-in-Ok g c =
    compiled_of c.args.things.now c.args.classes.now c.args.names.now c.args.files.now c.as_slice.result.now (c.as_slice.ensures ∙ c.in_ok-come.ensures) c.in_ok-compiled.compiled c.add_policies.new.compiled c.in_ok-compiled.ensures.bindings c.in-Ok.ensures
