-- Parts of definitions that lemmas speak of.
use Rattle.std.specs.Prelude.{ℕ, List, codes, ◌++◌, Bool, if◌then◌else◌, [], decimal}
use Rattle.console_answers.specs.Heads.{line_end}
use Rattle.console_answers.specs.declared.status.Status.{Status}
use Rattle.console_answers.specs.Statuses.{number_of, phrase_of}

abbrev pub type_line : List ℕ
type_line = codes "Content-Type: application/json" ++ line_end

abbrev pub close_line : Bool → List ℕ
close_line closes = if closes then codes "Connection: close" ++ line_end else []

abbrev pub status_line : Status → List ℕ
status_line status = codes "HTTP/1.1 " ++ decimal (number_of status) ++ codes " " ++ phrase_of status ++ line_end

abbrev pub length_line : ℕ → List ℕ
length_line n = codes "Content-Length: " ++ decimal n ++ line_end
