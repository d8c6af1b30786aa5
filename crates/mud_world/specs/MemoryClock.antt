-- What a clock in memory tells.
use Rattle.std.specs.Prelude.{ℕ, List, drop}
use Rattle.mud_world.specs.declared.memory_clock.MemoryClock.{MemoryClock}

-- the moments that it will give
unfoldable pub moments_left : MemoryClock → List ℕ
moments_left clock = drop clock.at clock.moments
