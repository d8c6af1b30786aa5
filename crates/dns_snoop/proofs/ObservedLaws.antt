-- Each row that a message gives may be asked of a table of names.
use Rattle.std.proofs.Common.{◌≡◌, inl, inr, ℕ, ◌<◌, ◌≤◌, Bool, true, false, ◌&&◌, List, [], ◌∷◌, ◌++◌, length, drop, Option, Some, None, Result, Ok, Err, refl, sym, subst, ap, ap₂, ◌∙◌, leb-true}
use Rattle.std.specs.Prelude.{nat_le, nat_lt, ◌==◌, ◌||◌, not, if◌then◌else◌}
use Rattle.std.specs.List.{All}
use Rattle.std.specs.Char.{to_ascii_lowercase}
use Rattle.std.proofs.lemmas.List.{map-append}
use Rattle.std.proofs.lemmas.List.Elements.{All-nil, All-cons, All-append, All-weaker}
use Rattle.std.specs.Cmp.{first_so, second_so}
use Rattle.std.proofs.lemmas.Bool.{cases_Bool}
use Rattle.mud_base.specs.Faults.{first_row, row, unless_fault}
use Rattle.mud_base.specs.declared.addr.Addr.{Addr}
use Rattle.mud_url.specs.Host.{lowered, is_host}
use Rattle.mud_url.proofs.HostNames.{lowered-lowered}
use Rattle.mud_url.proofs.Bounds.{length-lowered}
use Rattle.mud_base.specs.Numbers.{big_16}
use Rattle.dns_snoop.specs.declared.fault.DnsFault.{DnsFault}
use Rattle.dns_snoop.specs.declared.fault.DnsFault.TheVariants as faults
use Rattle.dns_snoop.specs.declared.name.ReadName.{ReadName}
use Rattle.dns_snoop.specs.declared.answer.Record.{Record}
use Rattle.dns_snoop.specs.declared.answers.Question.{Question}
use Rattle.dns_snoop.specs.declared.answers.Answers.{Answers}
use Rattle.dns_snoop.specs.Names.{Label, text_of, run_at, read_name_of}
use Rattle.dns_snoop.specs.Records.{records_from, is_owned, row_of, gives_row, rows_of}
use Rattle.dns_snoop.specs.Messages.{is_answer, dots_from, question_of, asked_by, answers_of}
use Rattle.dns_snoop.specs.Observed.{IsObservable}
use Rattle.dns_snoop.proofs.Parts.{chain_at, name_rows, behind_first, most_ttl, links, last_alias, least, rows_behind, dotted, question_by, rows_if, answers_by, answers_to}

-- ---- The name is in lower case

lowered-append : (a b : List ℕ) → lowered (a ++ b) ≡ lowered a ++ lowered b
unfolding lowered
lowered-append a b = map-append to_ascii_lowercase a b

lowered-drop : (text : List ℕ) → lowered (drop 1 text) ≡ drop 1 (lowered text)
unfolding lowered
lowered-drop [] = refl
lowered-drop (octet ∷ text) = refl

dots_front : (front behind : List ℕ) → dots_from (length front) (front ++ behind) ≡ front ++ dots_from 0 behind
dots_front [] behind = refl
dots_front (octet ∷ front) behind = ap (λ (later : List ℕ). octet ∷ later) (dots_front front behind)

dots_label : (label : Label) (labels : List Label) → dots_from 0 (text_of (label ∷ labels)) ≡ 46 ∷ (lowered label.text ++ dots_from 0 (text_of labels))
unfolding text_of
dots_label label labels =
    ap (λ (later : List ℕ). 46 ∷ later)
    (ap (λ (n : ℕ). dots_from n (lowered label.text ++ text_of labels)) (sym (length-lowered label.text)) ∙ dots_front (lowered label.text) (text_of labels))

dot_lowered : (text : List ℕ) → lowered (46 ∷ text) ≡ 46 ∷ lowered text
unfolding lowered
dot_lowered text = refl

dots_lower : (labels : List Label) → lowered (dots_from 0 (text_of labels)) ≡ dots_from 0 (text_of labels)
unfolding text_of lowered
dots_lower [] = refl
dots_lower (label ∷ labels) =
    let said = dots_label label labels in
    ap lowered said
    ∙ dot_lowered (lowered label.text ++ dots_from 0 (text_of labels))
    ∙ ap (λ (later : List ℕ). 46 ∷ later) (lowered-append (lowered label.text) (dots_from 0 (text_of labels)) ∙ ap₂ (λ (a b : List ℕ). a ++ b) (lowered-lowered label.text) (dots_lower labels))
    ∙ sym said

abbrev IsLower : List ℕ → Type 0
IsLower text = lowered (dotted text) ≡ dotted text

labels_lower : (labels : List Label) → IsLower (text_of labels)
labels_lower labels = lowered-drop (dots_from 0 (text_of labels)) ∙ ap (drop 1) (dots_lower labels)

name-at : (o : Option DnsFault) (said name : ReadName) → unless_fault o (Ok said) ≡ Ok name → said ≡ name
name-at (Some fault) said name is = cc
name-at None said name is = cc

name_lower : (message : List ℕ) (offset : ℕ) (name : ReadName) → read_name_of message offset ≡ Ok name → IsLower name.text
unfolding read_name_of
name_lower message offset name is =
    let labels = (chain_at message offset).labels in
    let said : ReadName = record { text = text_of labels; behind = behind_first (run_at message offset).end } in
    subst (λ (n : ReadName). IsLower n.text) (name-at (first_row (name_rows (chain_at message offset))) said name is) (labels_lower labels)

question-at : (o : Option DnsFault) (said question : Question) → unless_fault o (Ok said) ≡ Ok question → said ≡ question
question-at (Some fault) said question is = cc
question-at None said question is = cc

question-lower : (message : List ℕ) (read : Result ReadName DnsFault) (question : Question) → ((name : ReadName) → read ≡ Ok name → IsLower name.text) → question_by message read ≡ Ok question → IsLower question.name
question-lower message (Err fault) question lower is = cc
question-lower message (Ok name) question lower is =
    subst (λ (q : Question). IsLower q.name) (question-at _ _ question is) (lower name refl)

question_lower : (message : List ℕ) (question : Question) → question_of message ≡ Ok question → IsLower question.name
unfolding question_of
question_lower message question is = question-lower message (read_name_of message 12) question (name_lower message 12) is

-- ---- The bounds of the rows

abbrev IsBound : Addr × ℕ → Type 0
IsBound row = (0 < row.1) × (row.1 ≤ 2147483647)

row_bound : (message : List ℕ) (kind : ℕ) (alias : List ℕ) (bound : ℕ) (r : Record) → All IsBound (row_of message kind alias bound r)
unfolding gives_row
row_bound message kind alias bound r =
    elim (cases_Bool (gives_row kind alias bound r)) [
      | inl e ↦ let front = first_so ((is_owned alias r && r.kind == kind) && nat_le 1 bound) (nat_le bound most_ttl) e in
          let some = second_so (is_owned alias r && r.kind == kind) (nat_le 1 bound) front in
          let few = second_so ((is_owned alias r && r.kind == kind) && nat_le 1 bound) (nat_le bound most_ttl) e in
          rw e (All-cons IsBound _ [] (leb-true 1 bound some, leb-true bound most_ttl few) (All-nil IsBound))
      | inr e ↦ rw e (All-nil IsBound)
    ]

rows_bound : (message : List ℕ) (kind : ℕ) (name : List ℕ) (before rs : List Record) → All IsBound (rows_behind message kind name before rs)
rows_bound message kind name before [] = All-nil IsBound
rows_bound message kind name before (r ∷ rs) =
    All-append IsBound _ _ (row_bound message kind (last_alias name (links name before)) (least r.ttl (links name before)) r) (rows_bound message kind name (before ++ r ∷ []) rs)

-- ---- The rows of a message

when-some : (b : Bool) (said kind : ℕ) → (if b then Some said else None) ≡ Some kind → b ≡ true
when-some true said kind is = refl
when-some false said kind is = cc

asked-host : (question : Question) (name : List ℕ) (kind : ℕ) → asked_by question name ≡ Some kind → is_host name ≡ true
unfolding asked_by
asked-host question name kind is =
    second_so (question.class == 1) (is_host name)
    (first_so (question.class == 1 && is_host name) (question.kind == 1 || question.kind == 28)
    (when-some ((question.class == 1 && is_host name) && (question.kind == 1 || question.kind == 28)) question.kind kind is))

observed : (name : List ℕ) → is_host name ≡ true → lowered name ≡ name → (row : Addr × ℕ) → IsBound row → IsObservable name row
observed name host lower row bound = record { host = host; lower = lower; some = bound.0; few = bound.1 }

rows-observed : (message : List ℕ) (asked : Option ℕ) (name text : List ℕ) (rs : List Record) → ((kind : ℕ) → asked ≡ Some kind → is_host name ≡ true) → lowered name ≡ name
    → All (IsObservable name) (rows_if message asked text rs)
unfolding rows_of
rows-observed message None name text rs host lower = All-nil (IsObservable name)
rows-observed message (Some kind) name text rs host lower =
    All-weaker IsBound (IsObservable name) (observed name (host kind refl) lower) (rows_behind message kind text [] rs) (rows_bound message kind text [] rs)

abbrev IsAsked : Answers → Type 0
IsAsked answers = All (IsObservable answers.name) answers.rows

answers-by : (message : List ℕ) (question : Question) (records : Result (List Record) DnsFault) (answers : Answers) → IsLower question.name → answers_by message question records ≡ Ok answers → IsAsked answers
answers-by message question (Err fault) answers lower is = cc
answers-by message question (Ok rs) answers lower is =
    let said : Answers = record { name = dotted question.name; rows = rows_if message (asked_by question (dotted question.name)) question.name rs } in
    let same : said ≡ answers = cc in
    subst IsAsked same (rows-observed message (asked_by question (dotted question.name)) (dotted question.name) question.name rs (asked-host question (dotted question.name)) lower)

answers-to : (message : List ℕ) (asked : Result Question DnsFault) (answers : Answers) → ((question : Question) → asked ≡ Ok question → IsLower question.name) → answers_to message asked ≡ Ok answers → IsAsked answers
answers-to message (Err fault) answers lower is = cc
answers-to message (Ok question) answers lower is = answers-by message question (records_from (big_16 6 message) message question.behind) answers (lower question refl) is

answers-at : (o : Option DnsFault) (said : Result Answers DnsFault) (answers : Answers) → unless_fault o said ≡ Ok answers → said ≡ Ok answers
answers-at (Some fault) said answers is = cc
answers-at None said answers is = is

pub rows_observed : (message : List ℕ) (answers : Answers) → answers_of message ≡ Ok answers → All (IsObservable answers.name) answers.rows
unfolding answers_of
rows_observed message answers is =
    answers-to message (question_of message) answers (question_lower message)
    (answers-at (first_row (row (nat_lt (length message) 12) (faults.Cut 0) ∷ row (not (is_answer message)) faults.NotAnswer ∷ [])) (answers_to message (question_of message)) answers is)
