use Rattle.std.proofs.Common.{◌≡◌, ◌++◌, take}
use Rattle.std.specs.Prelude.{flat_map}
use Rattle.json.specs.Print.{escape_byte}
use Rattle.console_answers.proofs.appends.append_escapes.Given as goal

abbrev pub invariant-text : goal.invariant-text
invariant-text l = l.body ≡ l.initial.body ++ flat_map escape_byte (take l.octet-index l.text)
