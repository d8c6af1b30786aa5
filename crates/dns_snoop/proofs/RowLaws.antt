-- The rows that are read one by one are those of the definition.
use Rattle.std.proofs.Common.{◌≡◌, inl, inr, ℕ, ◌≤◌, Bool, true, false, List, [], ◌∷◌, ◌++◌, Option, Some, None, refl, sym, ap, ap₂, ◌∙◌, arith, append-nil, length, drop, Result, Ok, Err, le-ltb}
use Rattle.std.specs.Prelude.{min}
use Rattle.std.proofs.lemmas.Bool.{cases_Bool}
use Rattle.mud_base.specs.declared.addr.Addr.{Addr}
use Rattle.dns_snoop.specs.declared.answer.Record.{Record}
use Rattle.dns_snoop.specs.Records.{is_link, row_of, rows_of}
use Rattle.mud_base.specs.Numbers.{big_16}
use Rattle.dns_snoop.specs.declared.fault.DnsFault.{DnsFault}
use Rattle.dns_snoop.specs.declared.fault.DnsFault.TheVariants as faults
use Rattle.dns_snoop.specs.declared.answers.Question.{Question}
use Rattle.dns_snoop.specs.declared.answers.Answers.{Answers}
use Rattle.dns_snoop.specs.Records.{records_from}
use Rattle.dns_snoop.specs.Messages.{is_answer, question_of, dots_from, asked_by, answers_of}
use Rattle.dns_snoop.specs.Rows.{Answered, collected, rows_from, bound_with, alias_after, least_after}
use Rattle.dns_snoop.proofs.Parts.{links, last_alias, least, rows_behind, dotted, rows_if, answers_by}

-- the links of one answer more
abbrev if_link : Bool → Record → List Record
if_link true r = r ∷ []
if_link false r = []

links-next : (name : List ℕ) (before : List Record) (r : Record) → links name (before ++ r ∷ []) ≡ links name before ++ if_link (is_link (last_alias name (links name before)) r) r
links-next name [] r =
    elim (cases_Bool (is_link name r)) [
      | inl e ↦ rw e refl
      | inr e ↦ rw e refl
    ]
links-next name (a ∷ before) r =
    elim (cases_Bool (is_link name a)) [
      | inl e ↦ rw e (ap (λ (later : List Record). a ∷ later) (links-next a.alias before r))
      | inr e ↦ rw e (links-next name before r)
    ]

last-next : (name : List ℕ) (ls : List Record) (r : Record) → last_alias name (ls ++ r ∷ []) ≡ r.alias
last-next name [] r = refl
last-next name (l ∷ ls) r = last-next l.alias ls r

min-assoc : (a b c : ℕ) → min (min a b) c ≡ min a (min b c)
min-assoc a b c = omega arith

least-min : (a t : ℕ) (ls : List Record) → min (least a ls) t ≡ least (min a t) ls
least-min a t [] = refl
least-min a t (l ∷ ls) = min-assoc l.ttl (least a ls) t ∙ ap (min l.ttl) (least-min a t ls)

least-next : (t : ℕ) (ls : List Record) (r : Record) → least t (ls ++ r ∷ []) ≡ least (min r.ttl t) ls
least-next t [] r = refl
least-next t (l ∷ ls) r = ap (min l.ttl) (least-next t ls r)

bound-next : (acc : Option ℕ) (ls : List Record) (r : Record) → ((t : ℕ) → bound_with acc t ≡ least t ls) → (t : ℕ) → bound_with (Some (bound_with acc r.ttl)) t ≡ least t (ls ++ r ∷ [])
bound-next acc ls r same t = ap (λ n. min n t) (same r.ttl) ∙ least-min r.ttl t ls ∙ sym (least-next t ls r)

module _ (message : List ℕ) (kind : ℕ) (name : List ℕ) where
  one-of : (r : Record) (before : List Record) (alias : List ℕ) → alias ≡ last_alias name (links name before) → is_link alias r ≡ true → links name (before ++ r ∷ []) ≡ links name before ++ r ∷ []
  one-of r before alias is e = links-next name before r ∙ ap (λ (b : Bool). links name before ++ if_link b r) (ap (λ (a : List ℕ). is_link a r) (sym is) ∙ e)

  none-of : (r : Record) (before : List Record) (alias : List ℕ) → alias ≡ last_alias name (links name before) → is_link alias r ≡ false → links name (before ++ r ∷ []) ≡ links name before
  none-of r before alias is e = links-next name before r ∙ ap (λ (b : Bool). links name before ++ if_link b r) (ap (λ (a : List ℕ). is_link a r) (sym is) ∙ e) ∙ append-nil (links name before)

  last-of : (r : Record) (before : List Record) (alias : List ℕ) → alias ≡ last_alias name (links name before) → is_link alias r ≡ true → last_alias name (links name (before ++ r ∷ [])) ≡ r.alias
  last-of r before alias is e = ap (last_alias name) (one-of r before alias is e) ∙ last-next name (links name before) r

  bound-of : (r : Record) (before : List Record) (alias : List ℕ) (acc : Option ℕ) → alias ≡ last_alias name (links name before) → ((t : ℕ) → bound_with acc t ≡ least t (links name before)) → is_link alias r ≡ true
      → (t : ℕ) → bound_with (Some (bound_with acc r.ttl)) t ≡ least t (links name (before ++ r ∷ []))
  bound-of r before alias acc is bound e t = bound-next acc (links name before) r bound t ∙ ap (least t) (sym (one-of r before alias is e))

  rows-same : (before rs : List Record) (alias : List ℕ) (acc : Option ℕ) → alias ≡ last_alias name (links name before) → ((t : ℕ) → bound_with acc t ≡ least t (links name before))
      → rows_from message (Some kind) alias acc rs ≡ rows_behind message kind name before rs
  rows-same before [] alias acc is bound = refl
  rows-same before (r ∷ rs) alias acc is bound =
      ap₂ (λ (first later : List (Addr × ℕ)). first ++ later)
      (ap₂ (λ (a : List ℕ) (b : ℕ). row_of message kind a b r) is (bound r.ttl))
      (elim (cases_Bool (is_link alias r)) [
        | inl e ↦ rows-same (before ++ r ∷ []) rs (alias_after alias r) (least_after alias acc r) (rw e (sym (last-of r before alias is e))) (rw e (bound-of r before alias acc is bound e))
        | inr e ↦ rows-same (before ++ r ∷ []) rs (alias_after alias r) (least_after alias acc r) (rw e (is ∙ ap (last_alias name) (sym (none-of r before alias is e)))) (rw e (λ t. bound t ∙ ap (least t) (sym (none-of r before alias is e))))
      ])

  pub rows_are : (rs : List Record) → rows_from message (Some kind) name None rs ≡ rows_of message kind name rs
  unfolding rows_of
  rows_are rs = rows-same [] rs name None refl (λ t. refl)

-- ---- A whole message

none_asked : (message : List ℕ) (alias : List ℕ) (acc : Option ℕ) (rs : List Record) → rows_from message None alias acc rs ≡ []
none_asked message alias acc [] = refl
none_asked message alias acc (r ∷ rs) = none_asked message (alias_after alias r) (least_after alias acc r) rs

rows_asked : (message : List ℕ) (asked : Option ℕ) (name : List ℕ) (rs : List Record) → rows_from message asked name None rs ≡ rows_if message asked name rs
rows_asked message None name rs = none_asked message name None rs
rows_asked message (Some kind) name rs = rows_are message kind name rs

as_answers : List ℕ → List (Addr × ℕ) → Answers
as_answers name rows = record { name = name; rows = rows }

ok_inj : (a b : List (Addr × ℕ)) → ◌≡◌ {A = Result (List (Addr × ℕ)) DnsFault} (Ok a) (Ok b) → a ≡ b
ok_inj a b same = cc

ok-by : (message : List ℕ) (question : Question) (rows : List (Addr × ℕ)) (records : Result (List Record) DnsFault)
    → Ok rows ≡ collected message (asked_by question (dotted question.name)) [] question.name None records → Ok (as_answers (dotted question.name) rows) ≡ answers_by message question records
unfolding as_answers
ok-by message question rows (Err fault) is = cc
ok-by message question rows (Ok rs) is =
    let same : rows ≡ rows_from message (asked_by question (dotted question.name)) question.name None rs = ok_inj rows (rows_from message (asked_by question (dotted question.name)) question.name None rs) is in
    ap (λ (said : List (Addr × ℕ)). Ok (as_answers (dotted question.name) said)) (same ∙ rows_asked message (asked_by question (dotted question.name)) question.name rs)

err-by : (message : List ℕ) (question : Question) (fault : DnsFault) (records : Result (List Record) DnsFault)
    → Err fault ≡ collected message (asked_by question (dotted question.name)) [] question.name None records → Err fault ≡ answers_by message question records
err-by message question fault (Err other) is = let same : fault ≡ other = cc in ap Err same
err-by message question fault (Ok rs) is = cc

module _ (message : List ℕ) (question : Question) (asked : Option ℕ) (count : ℕ) (name : List ℕ) (long : 12 ≤ length message) (answer : is_answer message ≡ true) (is : Ok question ≡ question_of message)
    (named : name ≡ drop 1 (dots_from 0 question.name)) (asks : asked ≡ asked_by question name) (counted : count ≡ big_16 6 message) where
  behind-header : answers_of message ≡ answers_by message question (records_from count message question.behind)
  unfolding answers_of
  behind-header = rw (le-ltb (length message) 12 long, answer, ← is, counted) refl

  asked-is : asked ≡ asked_by question (dotted question.name)
  asked-is = asks ∙ ap (asked_by question) named

  pub answers_ok : (rows : List (Addr × ℕ)) → Ok rows ≡ collected message asked [] question.name None (records_from count message question.behind) → Ok (record { name = name; rows = rows }) ≡ answers_of message
  unfolding as_answers
  answers_ok rows read =
      ap (λ (n : List ℕ). Ok (as_answers n rows)) named
      ∙ ok-by message question rows (records_from count message question.behind) (read ∙ ap (λ (o : Option ℕ). collected message o [] question.name None (records_from count message question.behind)) asked-is)
      ∙ sym behind-header

  pub answers_err : (fault : DnsFault) → Err fault ≡ collected message asked [] question.name None (records_from count message question.behind) → Err fault ≡ answers_of message
  answers_err fault read =
      err-by message question fault (records_from count message question.behind) (read ∙ ap (λ (o : Option ℕ). collected message o [] question.name None (records_from count message question.behind)) asked-is)
      ∙ sym behind-header

-- where memory was wanted nothing is said
pub answered_then : {A B : Type 0} (fault : DnsFault) (d : Result A DnsFault) (e : Result B DnsFault) → Answered (Err fault) d → (Err fault ≡ d → Err fault ≡ e) → Answered (Err fault) e
answered_then faults.Memory d e is then_ = tt
answered_then (faults.Cut at) d e is then_ = then_ is
answered_then faults.NotAnswer d e is then_ = then_ is
answered_then (faults.Label at) d e is then_ = then_ is
answered_then (faults.Pointer at) d e is then_ = then_ is
answered_then (faults.NameLong at) d e is then_ = then_ is
