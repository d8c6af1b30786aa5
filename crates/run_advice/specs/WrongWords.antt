-- Which word of a line is wrong. Words are counted from 0.
use Rattle.std.specs.Prelude.{ℕ, ◌+◌, Bool, ◌||◌, List, [], ◌∷◌, codes, bytes_eq, Option, Some, None, is_some, if◌then◌else◌}
use Rattle.mud_base.specs.Reading.{mac_in}
use Rattle.run_words.specs.Words.{begins_with_dash, is_path, count_in, kind_in, meaning_in}
use Rattle.run_advice.specs.declared.wrong_words.Operand.{Operand}
use Rattle.run_advice.specs.declared.wrong_words.Operand.TheVariants.{Message, Store, Folder, Kind, Mac, Port, Count, Packets}
use Rattle.run_advice.specs.declared.wrong_words.WordFault.{WordFault}
use Rattle.run_advice.specs.declared.wrong_words.WordFault.TheVariants.{NoCommand, Dash, UnknownCommand, Missing, TooMany, Unfit}

-- what stands behind the name of a command in its line
abbrev pub operands_of : List ℕ → Option (List Operand)
operands_of =
    meaning_in ((codes "check", []) ∷ (codes "frames", []) ∷ (codes "hear", Message ∷ [])
    ∷ (codes "judge", Store ∷ []) ∷ (codes "snoop", Store ∷ []) ∷ (codes "tally", Store ∷ []) ∷ (codes "replay", Store ∷ [])
    ∷ (codes "import", Store ∷ Folder ∷ []) ∷ (codes "report", Store ∷ Kind ∷ []) ∷ (codes "export", Store ∷ Mac ∷ [])
    ∷ (codes "serve", Store ∷ Port ∷ Count ∷ []) ∷ (codes "drill", Packets ∷ []) ∷ [])

-- it is a number from 1 to `most`
abbrev pub is_count : ℕ → List ℕ → Bool
is_count most word = is_some (count_in most word)

-- a word is what may stand there, as the command lines have it
abbrev pub fits : Operand → List ℕ → Bool
fits Message word = bytes_eq word (codes "dhcp") || bytes_eq word (codes "lldp")
fits Store word = is_path word
fits Folder word = is_path word
fits Kind word = is_some (kind_in word)
fits Mac word = is_some (mac_in word)
fits Port word = is_count 65535 word
fits Count word = is_count 1000000 word
fits Packets word = is_count 100000 word

-- what is wrong from this index on
abbrev pub fault_behind : ℕ → List Operand → List (List ℕ) → Option WordFault
fault_behind index [] [] = None
fault_behind index [] (word ∷ words) = Some (TooMany index)
fault_behind index (operand ∷ operands) [] = Some (Missing operand)
fault_behind index (operand ∷ operands) (word ∷ words) =
    if fits operand word then fault_behind (index + 1) operands words else Some (Unfit index operand)

-- the first word from this index on that begins with a dash
abbrev pub dashed_behind : ℕ → List (List ℕ) → Option ℕ
dashed_behind index [] = None
dashed_behind index (word ∷ words) = if begins_with_dash word then Some index else dashed_behind (index + 1) words

-- of words none of which begins with a dash
abbrev pub line_fault : List (List ℕ) → Option WordFault
line_fault [] = Some NoCommand
line_fault (name ∷ words) = behind (operands_of name)
  where
    behind : Option (List Operand) → Option WordFault
    behind None = Some UnknownCommand
    behind (Some operands) = fault_behind 1 operands words

abbrev pub word_fault : List (List ℕ) → Option WordFault
word_fault words = unless_dashed (dashed_behind 0 words)
  where
    unless_dashed : Option ℕ → Option WordFault
    unless_dashed (Some index) = Some (Dash index)
    unless_dashed None = line_fault words
