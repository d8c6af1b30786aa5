-- Which calls of a keeper in memory fail, and what they leave.
use Rattle.std.specs.Prelude.{◌≡◌, Bool, false, List, []}
use Rattle.mud_world.specs.declared.item.Item.{Item}
use Rattle.mud_world.specs.declared.memory_keeper.MemoryKeeper.{MemoryKeeper}
use Rattle.mud_world.specs.declared.memory_keeper.KeeperCalls.{KeeperCalls}
use Rattle.mud_world.specs.Calls.{is_listed, next_call}

-- whether an `open` has answered Ok
abbrev pub has_opened : MemoryKeeper → Bool
has_opened keeper = keeper.is_open

abbrev pub open_fails : MemoryKeeper → Bool
open_fails keeper = is_listed keeper.failing_open (next_call keeper.calls.open)

abbrev pub apply_fails : MemoryKeeper → Bool
apply_fails keeper = is_listed keeper.failing_apply (next_call keeper.calls.apply)

abbrev pub no_calls : KeeperCalls
no_calls = record { «open» = 0; apply = 0 }

-- A keeper that was just made.
pub record IsNew (items : List Item) (keeper : MemoryKeeper) : Type 0 where
  pub given : keeper.items.rows ≡ items
  pub failing_open : keeper.failing_open ≡ []
  pub failing_apply : keeper.failing_apply ≡ []
  pub count : keeper.count ≡ 0
  pub calls : keeper.calls ≡ no_calls
  pub closed : has_opened keeper ≡ false

-- What no call changes: the calls that are to fail.
pub record SameScript (old new : MemoryKeeper) : Type 0 where
  pub failing_open : new.failing_open ≡ old.failing_open
  pub failing_apply : new.failing_apply ≡ old.failing_apply
