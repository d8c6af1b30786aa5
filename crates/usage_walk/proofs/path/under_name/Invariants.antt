use Rattle.std.proofs.Common.{◌≡◌, ◌++◌, ◌∷◌, take}
use Rattle.std.specs.List.{flat_map}
use Rattle.usage_walk.proofs.path.under_name.Given as goal
use Rattle.usage_walk.proofs.Parts.{escape}

abbrev pub invariant-name : goal.invariant-name
invariant-name l = l.text ≡ l.path ++ 47 ∷ flat_map escape (take l.octet-index l.name)
