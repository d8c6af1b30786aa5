-- `clap` lets each listed line through.
use Rattle.std.proofs.Common.{◌≡◌, ℕ, Bool, true, false, ◌&&◌, ◌⊎◌, inl, inr, List, [], ◌∷◌, refl, sym, subst, ap, ap₂, ◌∙◌, ◌+◌}
use Rattle.std.specs.Prelude.{Option, Some, None, bytes_eq, codes, find, fold, is_some, if◌then◌else◌}
use Rattle.std.specs.Option.{option_map_or}
use Rattle.std.specs.List.{list_any}
use Rattle.std.proofs.lemmas.Slice.Eq.{bytes_eq-Decides}
use Rattle.std.specs.Cmp.{first_so}
use Rattle.std.proofs.lemmas.Bool.{or_parts}
use Rattle.clap.specs.Lexer.{long_of, short_of}
use Rattle.clap.specs.Words.{App, Shape, fault_of, kind_of}
use Rattle.clap.specs.Faults.{check_fault, defaults_fault, level_fault, settle_fault, step_fault, turn_fault, walk_fault, word_fault}
use Rattle.clap.specs.Kinds.{HasKind, Kinds, or_else}
use Rattle.clap.specs.Simple.{built, built_leaf, entered, inherited, label_of, marked_built, names_of, with_leaf_noted}
use Rattle.clap.specs.Walk.{Held, Rule, Walk, after_step, answers_to, arg_by_index, finished, idle, nothing_held, settled, to_positional, value, walk, walked, word_met}
use Rattle.clap.specs.declared.error.Error.{Error}
use Rattle.clap.specs.declared.error.kind.ErrorKind.TheVariants.{OutOfMemory}
use Rattle.clap.proofs.OnLiterals.{clap_on_literals}
use Rattle.run_words.specs.declared.command.Command.{Command}
use Rattle.run_words.specs.Words.{begins_with_dash, line_in}
use Rattle.run_words.specs.Parser.{IsRefused, line_of, program}
use Rattle.run_words.proofs.Parts.{one_word, two_words, three_words, four_words}

-- `clap` has no fault to name
pub record Passes (words : List (List ℕ)) : Type 0 where
  pub clear : fault_of program words ≡ []

-- `clap` takes the word for no flag
pub record IsPlain (word : List ℕ) : Type 0 where
  pub long : long_of word ≡ None
  pub short : short_of word ≡ None
  pub dashes : bytes_eq word (45 ∷ 45 ∷ []) ≡ false

plain_by_first : (word : List ℕ) → begins_with_dash word ≡ false → IsPlain word
unfolding begins_with_dash
plain_by_first [] no_dash = record { long = refl; short = refl; dashes = refl }
plain_by_first (x ∷ xs) no_dash = record { long = rw no_dash refl; short = rw no_dash refl; dashes = rw no_dash refl }

-- ---- words behind the first of a line

-- the walk between two words of a line, none of which is a flag
abbrev stand : Held → ℕ → Walk
stand held position = record { held = held; waiting = idle; position = position; is_trailing = false; stopped = None }

abbrev taken : Shape → ℕ → List ℕ → Held → Walk
taken line position word held = to_positional line.rules (arg_by_index line.rules position) word (stand held position) held

met_plain : (rules : List Rule) (position : ℕ) (word : List ℕ) (held : Held) → IsPlain word → word_met rules [] false idle position word held ≡ (held, value)
met_plain rules position word held p = rw p.dashes (rw p.long (rw p.short refl))

fault_plain : (line : Shape) (word : List ℕ) (held : Held) → IsPlain word → word_fault line [] false idle word held ≡ []
fault_plain line word held p = rw p.dashes (rw p.long (rw p.short refl))

walked_plain : (line : Shape) (position : ℕ) (word : List ℕ) (held : Held) → IsPlain word → walked line.rules [] (stand held position) word ≡ taken line position word held
unfolding walked
walked_plain line position word held p = ap (λ met. after_step line.rules word (stand held position) met.0 met.1) (met_plain line.rules position word held p)

turn_plain : (line : Shape) (position : ℕ) (word : List ℕ) (held : Held) → IsPlain word → turn_fault line [] (stand held position) word ≡ step_fault line position held value
turn_plain line position word held p = ap₂ (λ faults met. or_else faults (step_fault line position met.0 met.1)) (fault_plain line word held p) (met_plain line.rules position word held p)

-- the words from an index of the line on are read without a fault, and this is held behind them
pub record Reads (line : Shape) (held : Held) (position : ℕ) (words : List (List ℕ)) (last : Held) : Type 0 where
  pub clear : walk_fault line [] (stand held position) words ≡ []
  pub ends : (fold (walked line.rules []) (stand held position) words).held ≡ last

reads_none : (line : Shape) (held : Held) (position : ℕ) → Reads line held position [] held
unfolding walk_fault
reads_none line held position = record { clear = refl; ends = refl }

first_fault : (line : Shape) (held : Held) (position : ℕ) (word : List ℕ) (rest : List (List ℕ)) → IsPlain word → walk_fault line [] (stand held position) (word ∷ rest) ≡ or_else (step_fault line position held value) (walk_fault line [] (taken line position word held) rest)
unfolding walk_fault
first_fault line held position word rest p = ap₂ (λ faults next. or_else faults (walk_fault line [] next rest)) (turn_plain line position word held p) (walked_plain line position word held p)

reads_more : (line : Shape) (held : Held) (position : ℕ) (word : List ℕ) (rest : List (List ℕ)) (last : Held) → IsPlain word → step_fault line position held value ≡ [] → taken line position word held ≡ stand (taken line position word held).held (position + 1) → Reads line (taken line position word held).held (position + 1) rest last → Reads line held position (word ∷ rest) last
reads_more line held position word rest last p clear moves more = record {
  clear = first_fault line held position word rest p
      ∙ ap₂ (λ faults next. or_else faults (walk_fault line [] next rest)) clear moves
      ∙ more.clear;
  ends = ap (λ next. (fold (walked line.rules []) next rest).held) (walked_plain line position word held p ∙ moves) ∙ more.ends;
}

-- what is looked at behind the last word
abbrev closing_fault : Shape → Held → Kinds
closing_fault line last = or_else (settle_fault line.rules line.args_override_self last) (or_else (defaults_fault (settled line.rules last).rows line.rules) (check_fault line (finished line.rules last) false))

line_is_clear : (line : Shape) (words : List (List ℕ)) (last : Held) → Reads line nothing_held 1 words last → closing_fault line last ≡ [] → level_fault line [] nothing_held words false [] ≡ []
line_is_clear line words last reads closes = ap₂ (λ faults held. or_else faults (closing_fault line held)) reads.clear reads.ends ∙ closes

-- ---- each line

abbrev leaf_fault : Shape → List (List ℕ) → Kinds
leaf_fault line words = level_fault line [] nothing_held words false []

-- the fault of the program, where `below` is that of a line's other words
abbrev fault_above : (Shape → List (List ℕ) → Kinds) → List (List ℕ) → Kinds
fault_above below words =
    let whole = built program in
    let stop = (walk whole.top.rules (names_of whole) nothing_held words).stopped in
    level_fault whole.top (names_of whole) nothing_held words (is_some (entered whole stop))
    (option_map_or (λ p. option_map_or (λ line. below line p.1) (find (λ line. answers_to p.0 (label_of line)) whole.subs) []) stop [])

-- the program gives the other words to this line
abbrev Enters : List (List ℕ) → Shape → List (List ℕ) → Type 0
Enters words line rest = (below : Shape → List (List ℕ) → Kinds) → fault_above below words ≡ or_else (below line rest) []

passes_by : (words : List (List ℕ)) (line : Shape) (rest : List (List ℕ)) → Enters words line rest → leaf_fault line rest ≡ [] → Passes words
passes_by words line rest enters clear = record { clear = enters leaf_fault ∙ ap (λ below. or_else below []) clear }

-- a line as it stands below the program
abbrev leaf_of : App → Shape
leaf_of line = built_leaf (inherited (with_leaf_noted (marked_built program.top)) line.top)

abbrev hear_leaf : Shape
hear_leaf = leaf_of (line_of (codes "hear", codes "MESSAGE" ∷ []))

hear_enters : (u : List ℕ) → Enters (codes "hear" ∷ u ∷ []) hear_leaf (u ∷ [])
unfolding clap_on_literals
hear_enters u below = refl

hear_clear : (u : List ℕ) → IsPlain u → leaf_fault hear_leaf (u ∷ []) ≡ []
unfolding defaults_fault
hear_clear u p =
    line_is_clear hear_leaf (u ∷ []) _ (reads_more hear_leaf nothing_held 1 u [] _ p refl refl (reads_none hear_leaf _ 2)) refl

hear : (u : List ℕ) → IsPlain u → Passes (codes "hear" ∷ u ∷ [])
hear u p = passes_by _ hear_leaf (u ∷ []) (hear_enters u) (hear_clear u p)

check : Passes (codes "check" ∷ [])
unfolding clap_on_literals
check = record { clear = refl }

frames : Passes (codes "frames" ∷ [])
unfolding clap_on_literals
frames = record { clear = refl }

abbrev judge_leaf : Shape
judge_leaf = leaf_of (line_of (codes "judge", codes "STORE" ∷ []))

judge_enters : (u : List ℕ) → Enters (codes "judge" ∷ u ∷ []) judge_leaf (u ∷ [])
unfolding clap_on_literals
judge_enters u below = refl

judge_clear : (u : List ℕ) → IsPlain u → leaf_fault judge_leaf (u ∷ []) ≡ []
unfolding defaults_fault
judge_clear u p =
    line_is_clear judge_leaf (u ∷ []) _ (reads_more judge_leaf nothing_held 1 u [] _ p refl refl (reads_none judge_leaf _ 2)) refl

judge : (u : List ℕ) → IsPlain u → Passes (codes "judge" ∷ u ∷ [])
judge u p = passes_by _ judge_leaf (u ∷ []) (judge_enters u) (judge_clear u p)

abbrev snoop_leaf : Shape
snoop_leaf = leaf_of (line_of (codes "snoop", codes "STORE" ∷ []))

snoop_enters : (u : List ℕ) → Enters (codes "snoop" ∷ u ∷ []) snoop_leaf (u ∷ [])
unfolding clap_on_literals
snoop_enters u below = refl

snoop_clear : (u : List ℕ) → IsPlain u → leaf_fault snoop_leaf (u ∷ []) ≡ []
unfolding defaults_fault
snoop_clear u p =
    line_is_clear snoop_leaf (u ∷ []) _ (reads_more snoop_leaf nothing_held 1 u [] _ p refl refl (reads_none snoop_leaf _ 2)) refl

snoop : (u : List ℕ) → IsPlain u → Passes (codes "snoop" ∷ u ∷ [])
snoop u p = passes_by _ snoop_leaf (u ∷ []) (snoop_enters u) (snoop_clear u p)

abbrev tally_leaf : Shape
tally_leaf = leaf_of (line_of (codes "tally", codes "STORE" ∷ []))

tally_enters : (u : List ℕ) → Enters (codes "tally" ∷ u ∷ []) tally_leaf (u ∷ [])
unfolding clap_on_literals
tally_enters u below = refl

tally_clear : (u : List ℕ) → IsPlain u → leaf_fault tally_leaf (u ∷ []) ≡ []
unfolding defaults_fault
tally_clear u p =
    line_is_clear tally_leaf (u ∷ []) _ (reads_more tally_leaf nothing_held 1 u [] _ p refl refl (reads_none tally_leaf _ 2)) refl

tally : (u : List ℕ) → IsPlain u → Passes (codes "tally" ∷ u ∷ [])
tally u p = passes_by _ tally_leaf (u ∷ []) (tally_enters u) (tally_clear u p)

abbrev import_folder_leaf : Shape
import_folder_leaf = leaf_of (line_of (codes "import", codes "STORE" ∷ codes "FOLDER" ∷ []))

import_folder_enters : (u v : List ℕ) → Enters (codes "import" ∷ u ∷ v ∷ []) import_folder_leaf (u ∷ v ∷ [])
unfolding clap_on_literals
import_folder_enters u v below = refl

import_folder_clear : (u v : List ℕ) → IsPlain u → IsPlain v → leaf_fault import_folder_leaf (u ∷ v ∷ []) ≡ []
unfolding defaults_fault
import_folder_clear u v p q =
    line_is_clear import_folder_leaf (u ∷ v ∷ []) _ (reads_more import_folder_leaf nothing_held 1 u (v ∷ []) _ p refl refl (reads_more import_folder_leaf _ 2 v [] _ q refl refl (reads_none import_folder_leaf _ 3))) refl

import_folder : (u v : List ℕ) → IsPlain u → IsPlain v → Passes (codes "import" ∷ u ∷ v ∷ [])
import_folder u v p q = passes_by _ import_folder_leaf (u ∷ v ∷ []) (import_folder_enters u v) (import_folder_clear u v p q)

abbrev report_leaf : Shape
report_leaf = leaf_of (line_of (codes "report", codes "STORE" ∷ codes "KIND" ∷ []))

report_enters : (u v : List ℕ) → Enters (codes "report" ∷ u ∷ v ∷ []) report_leaf (u ∷ v ∷ [])
unfolding clap_on_literals
report_enters u v below = refl

report_clear : (u v : List ℕ) → IsPlain u → IsPlain v → leaf_fault report_leaf (u ∷ v ∷ []) ≡ []
unfolding defaults_fault
report_clear u v p q =
    line_is_clear report_leaf (u ∷ v ∷ []) _ (reads_more report_leaf nothing_held 1 u (v ∷ []) _ p refl refl (reads_more report_leaf _ 2 v [] _ q refl refl (reads_none report_leaf _ 3))) refl

report : (u v : List ℕ) → IsPlain u → IsPlain v → Passes (codes "report" ∷ u ∷ v ∷ [])
report u v p q = passes_by _ report_leaf (u ∷ v ∷ []) (report_enters u v) (report_clear u v p q)

abbrev export_leaf : Shape
export_leaf = leaf_of (line_of (codes "export", codes "STORE" ∷ codes "MAC" ∷ []))

export_enters : (u v : List ℕ) → Enters (codes "export" ∷ u ∷ v ∷ []) export_leaf (u ∷ v ∷ [])
unfolding clap_on_literals
export_enters u v below = refl

export_clear : (u v : List ℕ) → IsPlain u → IsPlain v → leaf_fault export_leaf (u ∷ v ∷ []) ≡ []
unfolding defaults_fault
export_clear u v p q =
    line_is_clear export_leaf (u ∷ v ∷ []) _ (reads_more export_leaf nothing_held 1 u (v ∷ []) _ p refl refl (reads_more export_leaf _ 2 v [] _ q refl refl (reads_none export_leaf _ 3))) refl

export : (u v : List ℕ) → IsPlain u → IsPlain v → Passes (codes "export" ∷ u ∷ v ∷ [])
export u v p q = passes_by _ export_leaf (u ∷ v ∷ []) (export_enters u v) (export_clear u v p q)

abbrev replay_leaf : Shape
replay_leaf = leaf_of (line_of (codes "replay", codes "STORE" ∷ []))

replay_enters : (u : List ℕ) → Enters (codes "replay" ∷ u ∷ []) replay_leaf (u ∷ [])
unfolding clap_on_literals
replay_enters u below = refl

replay_clear : (u : List ℕ) → IsPlain u → leaf_fault replay_leaf (u ∷ []) ≡ []
unfolding defaults_fault
replay_clear u p =
    line_is_clear replay_leaf (u ∷ []) _ (reads_more replay_leaf nothing_held 1 u [] _ p refl refl (reads_none replay_leaf _ 2)) refl

replay : (u : List ℕ) → IsPlain u → Passes (codes "replay" ∷ u ∷ [])
replay u p = passes_by _ replay_leaf (u ∷ []) (replay_enters u) (replay_clear u p)

abbrev serve_leaf : Shape
serve_leaf = leaf_of (line_of (codes "serve", codes "STORE" ∷ codes "PORT" ∷ codes "COUNT" ∷ []))

serve_enters : (u v w : List ℕ) → Enters (codes "serve" ∷ u ∷ v ∷ w ∷ []) serve_leaf (u ∷ v ∷ w ∷ [])
unfolding clap_on_literals
serve_enters u v w below = refl

serve_clear : (u v w : List ℕ) → IsPlain u → IsPlain v → IsPlain w → leaf_fault serve_leaf (u ∷ v ∷ w ∷ []) ≡ []
unfolding defaults_fault
serve_clear u v w p q r =
    line_is_clear serve_leaf (u ∷ v ∷ w ∷ []) _ (reads_more serve_leaf nothing_held 1 u (v ∷ w ∷ []) _ p refl refl (reads_more serve_leaf _ 2 v (w ∷ []) _ q refl refl (reads_more serve_leaf _ 3 w [] _ r refl refl (reads_none serve_leaf _ 4)))) refl

serve : (u v w : List ℕ) → IsPlain u → IsPlain v → IsPlain w → Passes (codes "serve" ∷ u ∷ v ∷ w ∷ [])
serve u v w p q r = passes_by _ serve_leaf (u ∷ v ∷ w ∷ []) (serve_enters u v w) (serve_clear u v w p q r)

abbrev drill_leaf : Shape
drill_leaf = leaf_of (line_of (codes "drill", codes "N" ∷ []))

drill_enters : (u : List ℕ) → Enters (codes "drill" ∷ u ∷ []) drill_leaf (u ∷ [])
unfolding clap_on_literals
drill_enters u below = refl

drill_clear : (u : List ℕ) → IsPlain u → leaf_fault drill_leaf (u ∷ []) ≡ []
unfolding defaults_fault
drill_clear u p =
    line_is_clear drill_leaf (u ∷ []) _ (reads_more drill_leaf nothing_held 1 u [] _ p refl refl (reads_none drill_leaf _ 2)) refl

drill : (u : List ℕ) → IsPlain u → Passes (codes "drill" ∷ u ∷ [])
drill u p = passes_by _ drill_leaf (u ∷ []) (drill_enters u) (drill_clear u p)

-- ---- the lines by their number of words

-- what a choice that gives a command comes to
chosen : (test : Bool) (here there : Option Command) (command : Command) → (if test then here else there) ≡ Some command → ((test ≡ true) × (here ≡ Some command)) ⊎ ((test ≡ false) × (there ≡ Some command))
chosen true here there command given = inl (refl, given)
chosen false here there command given = inr (refl, given)

none_is_some : {A : Type 0} (command : Command) → None ≡ Some command → A
none_is_some command given = cc

at_word : (word name : List ℕ) (rest : List (List ℕ)) → bytes_eq word name ≡ true → Passes (name ∷ rest) → Passes (word ∷ rest)
at_word word name rest same passes = subst (λ w. Passes (w ∷ rest)) (sym ((bytes_eq-Decides word name).0 same)) passes

one_passes : (first : List ℕ) (command : Command) → one_word first ≡ Some command → Passes (first ∷ [])
unfolding line_in
one_passes first command given =
    elim (chosen (bytes_eq first (codes "check")) _ _ command given) [
      | inl h ↦ at_word first (codes "check") [] h.0 check
      | inr h ↦ elim (chosen (bytes_eq first (codes "frames")) _ _ command h.1) [
        | inl k ↦ at_word first (codes "frames") [] k.0 frames
        | inr k ↦ none_is_some command k.1
      ]
    ]

two_pass : (first second : List ℕ) (command : Command) → IsPlain second → two_words first second ≡ Some command → Passes (first ∷ second ∷ [])
unfolding line_in
two_pass first second command p given =
    elim (chosen (bytes_eq first (codes "hear")) _ _ command given) [
      | inl h ↦ at_word first (codes "hear") _ h.0 (hear second p)
      | inr h ↦ elim (chosen (bytes_eq first (codes "judge")) _ _ command h.1) [
        | inl k ↦ at_word first (codes "judge") _ k.0 (judge second p)
        | inr k ↦ elim (chosen (bytes_eq first (codes "snoop")) _ _ command k.1) [
          | inl l ↦ at_word first (codes "snoop") _ l.0 (snoop second p)
          | inr l ↦ elim (chosen (bytes_eq first (codes "tally")) _ _ command l.1) [
            | inl m ↦ at_word first (codes "tally") _ m.0 (tally second p)
            | inr m ↦ elim (chosen (bytes_eq first (codes "replay")) _ _ command m.1) [
              | inl n ↦ at_word first (codes "replay") _ n.0 (replay second p)
              | inr n ↦ elim (chosen (bytes_eq first (codes "drill")) _ _ command n.1) [
                | inl o ↦ at_word first (codes "drill") _ o.0 (drill second p)
                | inr o ↦ none_is_some command o.1
              ]
            ]
          ]
        ]
      ]
    ]

three_pass : (first second third : List ℕ) (command : Command) → IsPlain second → IsPlain third → three_words first second third ≡ Some command → Passes (first ∷ second ∷ third ∷ [])
unfolding line_in
three_pass first second third command p q given =
    elim (chosen (bytes_eq first (codes "import") && _) _ _ command given) [
      | inl h ↦ at_word first (codes "import") _ (first_so _ _ h.0) (import_folder second third p q)
      | inr h ↦ elim (chosen (bytes_eq first (codes "report") && _) _ _ command h.1) [
        | inl k ↦ at_word first (codes "report") _ (first_so _ _ k.0) (report second third p q)
        | inr k ↦ elim (chosen (bytes_eq first (codes "export") && _) _ _ command k.1) [
          | inl l ↦ at_word first (codes "export") _ (first_so _ _ l.0) (export second third p q)
          | inr l ↦ none_is_some command l.1
        ]
      ]
    ]

four_pass : (first second third fourth : List ℕ) (command : Command) → IsPlain second → IsPlain third → IsPlain fourth → four_words first second third fourth ≡ Some command → Passes (first ∷ second ∷ third ∷ fourth ∷ [])
unfolding line_in
four_pass first second third fourth command p q r given =
    elim (chosen (bytes_eq first (codes "serve") && _) _ _ command given) [
      | inl h ↦ at_word first (codes "serve") _ (first_so _ _ h.0) (serve second third fourth p q r)
      | inr h ↦ none_is_some command h.1
    ]

-- ---- all lines

abbrev no_dash : List (List ℕ) → Type 0
no_dash words = list_any begins_with_dash words ≡ false

first_is_plain : (word : List ℕ) (rest : List (List ℕ)) → no_dash (word ∷ rest) → IsPlain word
first_is_plain word rest given = plain_by_first word (or_parts (begins_with_dash word) (list_any begins_with_dash rest) given).0

rest_has_none : (word : List ℕ) (rest : List (List ℕ)) → no_dash (word ∷ rest) → no_dash rest
rest_has_none word rest given = (or_parts (begins_with_dash word) (list_any begins_with_dash rest) given).1

line_passes : (words : List (List ℕ)) (command : Command) → no_dash words → line_in words ≡ Some command → Passes words
unfolding line_in
line_passes [] command n given = none_is_some command given
line_passes (a ∷ []) command n given = one_passes a command given
line_passes (a ∷ b ∷ []) command n given =
    let after_a = rest_has_none a (b ∷ []) n in
    two_pass a b command (first_is_plain b [] after_a) given
line_passes (a ∷ b ∷ c ∷ []) command n given =
    let after_a = rest_has_none a (b ∷ c ∷ []) n in
    let after_b = rest_has_none b (c ∷ []) after_a in
    three_pass a b c command (first_is_plain b (c ∷ []) after_a) (first_is_plain c [] after_b) given
line_passes (a ∷ b ∷ c ∷ d ∷ []) command n given =
    let after_a = rest_has_none a (b ∷ c ∷ d ∷ []) n in
    let after_b = rest_has_none b (c ∷ d ∷ []) after_a in
    let after_c = rest_has_none c (d ∷ []) after_b in
    four_pass a b c d command (first_is_plain b (c ∷ d ∷ []) after_a) (first_is_plain c (d ∷ []) after_b) (first_is_plain d [] after_c) given
line_passes (a ∷ b ∷ c ∷ d ∷ e ∷ rest) command n given = none_is_some command given

unlisted : (words : List (List ℕ)) (read : Option Command) → line_in words ≡ read → no_dash words → IsRefused words → read ≡ None
unlisted words None is_read n refused = refl
unlisted words (Some command) is_read n refused = absurd (refused.faulty (line_passes words command n is_read).clear)

-- what `clap` refuses is no listed line
pub refused_is_unlisted : (words : List (List ℕ)) → list_any begins_with_dash words ≡ false → IsRefused words → line_in words ≡ None
refused_is_unlisted words n refused = unlisted words (line_in words) refl n refused

-- an error that isn't want of memory
pub refused_by_kind : (words : List (List ℕ)) (error : Error) → HasKind (fault_of program words) error → (kind_of error ≡ OutOfMemory → ⊥) → IsRefused words
refused_by_kind words error has other = record {
  faulty = λ none. elim (subst (λ kinds. HasKind kinds error) none has) [ inl memory ↦ other memory | inr among ↦ among ];
}
