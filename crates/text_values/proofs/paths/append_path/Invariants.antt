use Rattle.std.proofs.Common.{◌≡◌, ◌++◌, take}
use Rattle.std.specs.List.{flat_map}
use Rattle.text_values.specs.Paths.{shown}
use Rattle.text_values.proofs.paths.append_path.Given as goal

abbrev pub invariant-path : goal.invariant-path
invariant-path l = l.line ≡ l.fn.line ++ flat_map shown (take l.octet-index l.path)
