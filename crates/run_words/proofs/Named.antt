-- A listed line names the store and the folder of its command.
use Rattle.std.proofs.Common.{◌≡◌, ℕ, Bool, true, false, cond, List, [], ◌∷◌, codes, bytes_eq, Option, Some, None, is_some, option_map, refl, sym, ap, ◌∙◌}
use Rattle.std.specs.List.{list_any}
use Rattle.run_words.specs.declared.command.Command.{Command}
use Rattle.run_words.specs.declared.command.Command.TheVariants.{Hear, Check, Frames, Judge, Tally, Snoop, Replay, Drill}
use Rattle.run_words.specs.declared.command.Message.{Message}
use Rattle.run_words.specs.Operands.{has_folder, has_store, second_of, third_of}
use Rattle.run_words.specs.Words.{begins_with_dash, command_in, count_in, is_path, line_in}
use Rattle.run_words.proofs.Parts.{message_in, one_word, two_words}

-- whether a line's command works on a store, and on a folder
abbrev stores : Option Command → Bool
stores None = false
stores (Some command) = has_store command

abbrev folders : Option Command → Bool
folders None = false
folders (Some command) = has_folder command

in_line : (dashed : Bool) (line : Option Command) (command : Command) → cond dashed None line ≡ Some command → line ≡ Some command
in_line true line command e = cc
in_line false line command e = e

line_of : (words : List (List ℕ)) (command : Command) → command_in words ≡ Some command → line_in words ≡ Some command
unfolding command_in
line_of words command e = in_line (list_any begins_with_dash words) (line_in words) command e

-- ---- Lines that are too short

one_of : (a b : Bool) → (stores (cond a (Some Check) (cond b (Some Frames) None)) ≡ false) × (folders (cond a (Some Check) (cond b (Some Frames) None)) ≡ false)
one_of true b = (refl, refl)
one_of false true = (refl, refl)
one_of false false = (refl, refl)

one_lacks : (word : List ℕ) → (stores (one_word word) ≡ false) × (folders (one_word word) ≡ false)
unfolding line_in
one_lacks word = one_of (bytes_eq word (codes "check")) (bytes_eq word (codes "frames"))

of_message : (message : Option Message) → folders (option_map Hear message) ≡ false
of_message None = refl
of_message (Some message) = refl

of_count : (packets : Option ℕ) → folders (option_map Drill packets) ≡ false
of_count None = refl
of_count (Some packets) = refl

of_path : (command : Command) (named : Bool) → has_folder command ≡ false → folders (cond named (Some command) None) ≡ false
of_path command true e = e
of_path command false e = refl

two_of : (a b c d e f : Bool) (message : Option Message) (packets : Option ℕ) (named : Bool)
    → folders (cond a (option_map Hear message) (cond b (cond named (Some Judge) None) (cond c (cond named (Some Snoop) None) (cond d (cond named (Some Tally) None) (cond e (cond named (Some Replay) None) (cond f (option_map Drill packets) None)))))) ≡ false
two_of true b c d e f message packets named = of_message message
two_of false true c d e f message packets named = of_path Judge named refl
two_of false false true d e f message packets named = of_path Snoop named refl
two_of false false false true e f message packets named = of_path Tally named refl
two_of false false false false true f message packets named = of_path Replay named refl
two_of false false false false false true message packets named = of_count packets
two_of false false false false false false message packets named = refl

two_lacks : (first second : List ℕ) → folders (two_words first second) ≡ false
unfolding line_in
two_lacks first second =
    two_of (bytes_eq first (codes "hear")) (bytes_eq first (codes "judge")) (bytes_eq first (codes "snoop")) (bytes_eq first (codes "tally")) (bytes_eq first (codes "replay")) (bytes_eq first (codes "drill"))
    (message_in second) (count_in 100000 second) (is_path second)

-- ---- Listed lines

pub names_store : (words : List (List ℕ)) (command : Command) → command_in words ≡ Some command → has_store command ≡ true → is_some (second_of words) ≡ true
unfolding line_in
names_store [] command e has = let none : None ≡ Some command = line_of [] command e in cc
names_store (only ∷ []) command e has =
    let none : has_store command ≡ false = sym (ap stores (line_of (only ∷ []) command e)) ∙ (one_lacks only).0 in
    cc
names_store (first ∷ second ∷ behind) command e has = refl

pub names_folder : (words : List (List ℕ)) (command : Command) → command_in words ≡ Some command → has_folder command ≡ true → is_some (third_of words) ≡ true
unfolding line_in
names_folder [] command e has = let none : None ≡ Some command = line_of [] command e in cc
names_folder (only ∷ []) command e has =
    let none : has_folder command ≡ false = sym (ap folders (line_of (only ∷ []) command e)) ∙ (one_lacks only).1 in
    cc
names_folder (first ∷ second ∷ []) command e has =
    let none : has_folder command ≡ false = sym (ap folders (line_of (first ∷ second ∷ []) command e)) ∙ two_lacks first second in
    cc
names_folder (first ∷ second ∷ third ∷ behind) command e has = refl
