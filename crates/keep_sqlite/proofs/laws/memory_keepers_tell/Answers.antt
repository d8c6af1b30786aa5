use Rattle.std.proofs.Common.{refl, inl}
use Rattle.sqlite.specs.Steps.{over_memory}
use Rattle.sqlite.proofs.Callers.{memory_is_clean}
use Rattle.keep_sqlite.specs.Telling.{IsUp}
use Rattle.keep_sqlite.proofs.laws.memory_keepers_tell.Goals as goal

pub returns : goal.returns
returns c has_opened =
    let up : IsUp over_memory c.args.keeper.now.connection = (memory_is_clean c.args.keeper.now.connection, refl) in
    (up, inl (c.has_opened.ensures.holds has_opened up))
