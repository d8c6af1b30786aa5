use Rattle.std.proofs.Common.{take}
use Rattle.std.specs.List.{AllByRecursion}
use Rattle.table_model.specs.Binds.{IsKeptNetwork}
use Rattle.bind_book.proofs.laws.prefixes_fit.Given as goal

abbrev pub invariant-loop-prefix : goal.invariant-loop-prefix
invariant-loop-prefix l = AllByRecursion IsKeptNetwork (take l.prefix-index l.prefixes)
