-- Parts of definitions that lemmas speak of.
use Rattle.std.specs.Prelude.{ℕ, if◌then◌else◌}
use Rattle.mud_cli.specs.declared.answer.Answer.{Answer}

abbrev pub status_of : Answer → ℕ
status_of answer = if answer.refused then 3 else 0
