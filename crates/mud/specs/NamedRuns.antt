-- What the words of a run name.
use Rattle.std.specs.Prelude.{ℕ, List, [], codes, bytes_eq, Option, Some, None, option_and_then, if◌then◌else◌}
use Rattle.std.specs.Option.{unwrap_or}
use Rattle.run_words.specs.Operands as operand
use Rattle.run_words.specs.Words.{command_in}

-- a store's word is the path of its file, unless it says that the store is kept in memory alone
abbrev pub file_at : List ℕ → Option (List ℕ)
file_at word = if bytes_eq word (codes ":memory:") then None else Some word

-- the path of the file that is the store, where the command has a store and it is a file
abbrev pub path_in : List (List ℕ) → Option (List ℕ)
path_in words = option_and_then (λ command. option_and_then file_at (operand.store_in command words)) (command_in words)

-- the path of the folder, and the empty one where the command has no folder
abbrev pub folder_in : List (List ℕ) → List ℕ
folder_in words = unwrap_or (option_and_then (λ command. operand.folder_in command words) (command_in words)) []
