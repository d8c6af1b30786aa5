-- The command lines that the program takes.
use Rattle.std.specs.Prelude.{ℕ, ◌==◌, Bool, false, not, ◌&&◌, List, [], ◌∷◌, length, map, codes, bytes_eq, Option, Some, None, option_map, option_and_then, if◌then◌else◌}
use Rattle.std.specs.List.{list_any}
use Rattle.std.specs.String.{string_bytes}
use Rattle.std.specs.declared.alloc.Global.{Global}
use Rattle.std.specs.declared.string.String.{String}
use Rattle.mud_base.specs.Decimal.{number_upto}
use Rattle.mud_base.specs.Reading.{mac_in}
use Rattle.run_words.specs.declared.command.Command.{Command}
use Rattle.run_words.specs.declared.command.Command.TheVariants.{Hear, Check, Frames, Judge, Tally, Snoop, Import, Replay, Serve, Report, Export, Drill}
use Rattle.run_words.specs.declared.command.Message.TheVariants.{Dhcp, Lldp}
use Rattle.run_words.specs.declared.command.ReportKind.{ReportKind}
use Rattle.run_words.specs.declared.command.ReportKind.TheVariants.{Things, Files, Classes, Locals, Names, Due}

-- ---- what a word is

-- its first octet is `-`
unfoldable pub begins_with_dash : List ℕ → Bool
begins_with_dash [] = false
begins_with_dash (first ∷ rest) = first == 45

-- it names a store or a folder: it has at least one octet
unfoldable pub is_path : List ℕ → Bool
is_path word = not (length word == 0)

-- the number from 1 to `most` that it is, in decimal digits without a leading zero
unfoldable pub count_in : ℕ → List ℕ → Option ℕ
count_in most word = option_and_then unless_zero (number_upto most word)
  where
    unless_zero : ℕ → Option ℕ
    unless_zero number = if number == 0 then None else Some number

-- what it means by a table of words
abbrev pub meaning_in : {A : Type 0} → List (List ℕ × A) → List ℕ → Option A
meaning_in [] word = None
meaning_in (row ∷ rows) word = if bytes_eq word row.0 then Some row.1 else meaning_in rows word

-- what `report` prints
unfoldable pub kind_in : List ℕ → Option ReportKind
kind_in = meaning_in ((codes "things", Things) ∷ (codes "files", Files) ∷ (codes "classes", Classes) ∷ (codes "locals", Locals) ∷ (codes "names", Names) ∷ (codes "due", Due) ∷ [])

-- ---- the lines, by their number of words

abbrev pub over_path : Command → List ℕ → Option Command
over_path command path = if is_path path then Some command else None

-- `check` and `frames`; `hear dhcp` and `hear lldp`, `judge STORE`, `snoop STORE`, `tally STORE`, `replay STORE`, and `drill N`, where N is 1
-- to 100,000; `import STORE FOLDER`, `report STORE KIND`, and `export STORE MAC`; and `serve STORE PORT COUNT`, where PORT is 1 to 65,535 and
-- COUNT 1 to 1,000,000
unfoldable pub line_in : List (List ℕ) → Option Command
line_in (only ∷ []) = meaning_in ((codes "check", Check) ∷ (codes "frames", Frames) ∷ []) only
line_in (first ∷ second ∷ []) =
    if bytes_eq first (codes "hear") then option_map Hear (meaning_in ((codes "dhcp", Dhcp) ∷ (codes "lldp", Lldp) ∷ []) second)
    else (if bytes_eq first (codes "judge") then over_path Judge second
    else (if bytes_eq first (codes "snoop") then over_path Snoop second
    else (if bytes_eq first (codes "tally") then over_path Tally second
    else (if bytes_eq first (codes "replay") then over_path Replay second
    else (if bytes_eq first (codes "drill") then option_map Drill (count_in 100000 second)
    else None)))))
line_in (first ∷ second ∷ third ∷ []) =
    if bytes_eq first (codes "import") && is_path second then over_path Import third
    else (if bytes_eq first (codes "report") && is_path second then option_map Report (kind_in third)
    else (if bytes_eq first (codes "export") && is_path second then option_map Export (mac_in third)
    else None))
line_in (first ∷ second ∷ third ∷ fourth ∷ []) =
    if bytes_eq first (codes "serve") && is_path second
    then option_and_then (λ port. option_map (Serve port) (count_in 1000000 fourth)) (count_in 65535 third)
    else None
line_in _ = None

-- the command that the words after the program's name are; a line with a word that begins with `-` is none
unfoldable pub command_in : List (List ℕ) → Option Command
command_in words = if list_any begins_with_dash words then None else line_in words

-- the octets of each word
abbrev pub words_of : List (String Global) → List (List ℕ)
words_of words = map string_bytes words
