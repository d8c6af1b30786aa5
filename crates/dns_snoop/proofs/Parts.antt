-- Parts of definitions that lemmas speak of.
use Rattle.std.specs.Prelude.{ℕ, Err, List, Ok, Result, [], length, nat_lt, ◌∷◌, ◌+◌, ◌-◌, drop, None, Option, Some, if◌then◌else◌, ◌++◌, min}
use Rattle.dns_snoop.specs.declared.fault.DnsFault.{DnsFault}
use Rattle.dns_snoop.specs.declared.answers.Question.{Question}
use Rattle.dns_snoop.specs.declared.name.ReadName.{ReadName}
use Rattle.mud_base.specs.Numbers.{big_16}
use Rattle.dns_snoop.specs.declared.fault.DnsFault.TheVariants as faults
use Rattle.dns_snoop.specs.Messages.{header_len, dots_from, asked_by}
use Rattle.mud_base.specs.Faults.{row, unless, row_at}
use Rattle.mud_base.specs.declared.addr.Addr.{Addr}
use Rattle.dns_snoop.specs.declared.answer.Record.{Record}
use Rattle.dns_snoop.specs.Records.{rows_of, records_from, is_link, row_of}
use Rattle.dns_snoop.specs.declared.answers.Answers.{Answers}
use Rattle.dns_snoop.specs.Names.{Chain, Label, chain_behind, chained, run_at, first_beyond, behind_run}
use Rattle.dns_snoop.specs.declared.name.RunEnd.{RunEnd}

abbrev pub question_by : List ℕ → Result ReadName DnsFault → Result Question DnsFault
question_by message (Err fault) = Err fault
question_by message (Ok name) =
    unless (row (nat_lt (length message - name.behind) 4) (faults.Cut header_len) ∷ [])
    (Ok (record { name = name.text; kind = big_16 name.behind message; class = big_16 (name.behind + 2) message; behind = name.behind + 4 }))

abbrev pub dotted : List ℕ → List ℕ
dotted text = drop 1 (dots_from 0 text)

abbrev pub rows_if : List ℕ → Option ℕ → List ℕ → List Record → List (Addr × ℕ)
rows_if message None name records = []
rows_if message (Some kind) name records = rows_of message kind name records

abbrev pub answers_by : List ℕ → Question → Result (List Record) DnsFault → Result Answers DnsFault
answers_by message question (Err fault) = Err fault
answers_by message question (Ok records) = Ok (record {
  name = dotted question.name;
  rows = rows_if message (asked_by question (dotted question.name)) question.name records;
})

abbrev pub answers_to : List ℕ → Result Question DnsFault → Result Answers DnsFault
answers_to message (Err fault) = Err fault
answers_to message (Ok question) = answers_by message question (records_from (big_16 6 message) message question.behind)

abbrev pub chained_by : List Label → Result RunEnd DnsFault → (RunEnd → Chain) → Chain
chained_by labels (Err fault) behind = record { labels = labels; fault = Some fault }
chained_by labels (Ok end) behind = record { labels = labels ++ (behind end).labels; fault = (behind end).fault }

abbrev pub chain_at : List ℕ → ℕ → Chain
chain_at message offset = chained (run_at message offset) (chain_behind offset message offset)

abbrev pub name_rows : Chain → List (Option DnsFault)
name_rows chain = row_at faults.NameLong (first_beyond 1 chain.labels) ∷ chain.fault ∷ []

abbrev pub behind_first : Result RunEnd DnsFault → ℕ
behind_first (Ok end) = behind_run end
behind_first (Err fault) = 0

abbrev pub with_record : Record → Result (List Record) DnsFault → Result (List Record) DnsFault
with_record first (Ok later) = Ok (first ∷ later)
with_record first (Err fault) = Err fault

abbrev pub then_records : Result Record DnsFault → (ℕ → Result (List Record) DnsFault) → Result (List Record) DnsFault
then_records (Err fault) behind = Err fault
then_records (Ok first) behind = with_record first (behind (first.offset + first.len))

abbrev pub links : List ℕ → List Record → List Record
links alias [] = []
links alias (r ∷ rs) = if is_link alias r then r ∷ links r.alias rs else links alias rs

abbrev pub last_alias : List ℕ → List Record → List ℕ
last_alias name [] = name
last_alias name (link ∷ links) = last_alias link.alias links

abbrev pub least : ℕ → List Record → ℕ
least ttl [] = ttl
least ttl (link ∷ links) = min link.ttl (least ttl links)

abbrev pub most_ttl : ℕ
most_ttl = 2147483647

abbrev pub rows_behind : List ℕ → ℕ → List ℕ → List Record → List Record → List (Addr × ℕ)
rows_behind message kind name before [] = []
rows_behind message kind name before (r ∷ rs) =
    row_of message kind (last_alias name (links name before)) (least r.ttl (links name before)) r ++ rows_behind message kind name (before ++ r ∷ []) rs
