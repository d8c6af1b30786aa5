-- What the words of a run name.
use Rattle.std.proofs.Common.{◌≡◌, ℕ, List, [], Option, Some, None, option_map, refl, subst, sym, ap, ◌∙◌}
use Rattle.std.specs.Prelude.{IfSome, option_and_then}
use Rattle.std.specs.Option.{unwrap_or}
use Rattle.run_words.specs.Operands as operand
use Rattle.run_words.specs.Words.{command_in}
use Rattle.run_words.specs.declared.command.Command.{Command}
use Rattle.mud.specs.NamedRuns.{file_at, folder_in, path_in}

-- ---- The store

path_by : (words : List (List ℕ)) (command : Command) → command_in words ≡ Some command → path_in words ≡ option_and_then file_at (operand.store_in command words)
path_by words command is = ap (option_and_then (λ it. option_and_then file_at (operand.store_in it words))) is

pub no_path : (words : List (List ℕ)) → command_in words ≡ None → None ≡ path_in words
no_path words none = sym (ap (option_and_then (λ it. option_and_then file_at (operand.store_in it words))) none)

pub no_file : (words : List (List ℕ)) (command : Command) → command_in words ≡ Some command → operand.store_in command words ≡ None → None ≡ path_in words
no_file words command is none = sym (path_by words command is ∙ ap (option_and_then file_at) none)

pub file_named : (words : List (List ℕ)) (command : Command) (word : List ℕ) → command_in words ≡ Some command → operand.store_in command words ≡ Some word
    → file_at word ≡ path_in words
file_named words command word is stands = sym (path_by words command is ∙ ap (option_and_then file_at) stands)

-- ---- The folder

at_folder : (words : List (List ℕ)) → Option Command → List ℕ
at_folder words command = unwrap_or (option_and_then (λ it. operand.folder_in it words) command) []

pub no_folder : (words : List (List ℕ)) → command_in words ≡ None → [] ≡ folder_in words
unfolding at_folder
no_folder words none = sym (ap (at_folder words) none)

pub without_folder : (words : List (List ℕ)) (command : Command) → command_in words ≡ Some command → operand.folder_in command words ≡ None → [] ≡ folder_in words
unfolding at_folder
without_folder words command is none = sym (ap (at_folder words) is ∙ ap (λ (it : Option (List ℕ)). unwrap_or it []) none)

pub folder_named : (words : List (List ℕ)) (command : Command) (word : List ℕ) → command_in words ≡ Some command → operand.folder_in command words ≡ Some word
    → word ≡ folder_in words
unfolding at_folder
folder_named words command word is stands = sym (ap (at_folder words) is ∙ ap (λ (it : Option (List ℕ)). unwrap_or it []) stands)

-- ---- The run

pub some_named : {A B : Type 0} (f : A → B) (P : Type 0) (path : Option A) (named : Option B) → option_map f path ≡ named → IfSome path (λ _. P) → IfSome named (λ _. P)
some_named f P None named is told = subst (λ n. IfSome n (λ _. P)) is tt
some_named f P (Some it) named is told = subst (λ n. IfSome n (λ _. P)) is told

pub none_named : {A B : Type 0} (f : A → B) (path : Option A) (named : Option B) → option_map f path ≡ named → named ≡ None → path ≡ None
none_named f None named is none = refl
none_named f (Some it) named is none = absurd (cc (is ∙ none))
