use Rattle.desk_books.proofs.Binding.{bound, bound_rows}
use Rattle.desk_books.proofs.compiling.bind.Goals as goal

pub returns-in-Ok-clause-bindings : goal.returns-in-Ok-clause-bindings
returns-in-Ok-clause-bindings g c = bound c.args.come.now c.in_ok-compiled.compiled c.plan_member.new.self c.commit.new.self c.in-Ok.plan c.in_ok-compiled.ensures.bindings c.in-Ok.ensures.kept c.in-Ok.ensures.ok c.commit.ensures.bindings

pub returns-in-Ok-clause-kept : goal.returns-in-Ok-clause-kept
returns-in-Ok-clause-kept g c = bound_rows c.args.come.now c.in_ok-compiled.compiled c.plan_member.new.self c.commit.new.self c.in-Ok.plan c.in_ok-compiled.ensures.bindings c.in-Ok.ensures.kept c.in-Ok.ensures.ok c.commit.ensures.bindings c.commit.ensures.rows
