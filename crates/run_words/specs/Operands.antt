-- The words of a line that name what its command works on.
use Rattle.std.specs.Prelude.{ℕ, Bool, true, false, List, ◌∷◌, Option, Some, None}
use Rattle.run_words.specs.declared.command.Command.{Command}
use Rattle.run_words.specs.declared.command.Command.TheVariants.{Hear, Check, Frames, Judge, Tally, Snoop, Import, Replay, Serve, Report, Export, Drill}

-- whether a command's line names a store
abbrev pub has_store : Command → Bool
has_store (Hear message) = false
has_store Check = false
has_store Frames = false
has_store Judge = true
has_store Snoop = true
has_store Tally = true
has_store Import = true
has_store Replay = true
has_store (Serve port count) = true
has_store (Report kind) = true
has_store (Export mac) = true
has_store (Drill packets) = false

-- whether it names a folder
abbrev pub has_folder : Command → Bool
has_folder (Hear message) = false
has_folder Check = false
has_folder Frames = false
has_folder Judge = false
has_folder Snoop = false
has_folder Tally = false
has_folder Import = true
has_folder Replay = false
has_folder (Serve port count) = false
has_folder (Report kind) = false
has_folder (Export mac) = false
has_folder (Drill packets) = false

abbrev pub second_of : List (List ℕ) → Option (List ℕ)
second_of (first ∷ second ∷ behind) = Some second
second_of _ = None

abbrev pub third_of : List (List ℕ) → Option (List ℕ)
third_of (first ∷ second ∷ third ∷ behind) = Some third
third_of _ = None

abbrev only_if : Bool → Option (List ℕ) → Option (List ℕ)
only_if true word = word
only_if false word = None

-- the store stands behind the command's name, and the folder behind the store
abbrev pub store_in : Command → List (List ℕ) → Option (List ℕ)
store_in command words = only_if (has_store command) (second_of words)

abbrev pub folder_in : Command → List (List ℕ) → Option (List ℕ)
folder_in command words = only_if (has_folder command) (third_of words)
