-- Parts of definitions that lemmas speak of.
use Rattle.std.specs.Prelude.{ℕ, List, ◌∷◌, []}

abbrev pub next_first : List ℕ
next_first = 0x0A ∷ 0x0D ∷ 0x0D ∷ 0x0A ∷ []
