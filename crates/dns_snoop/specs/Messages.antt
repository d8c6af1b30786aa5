-- A DNS message (RFC 1035, section 4.1), and what it answers.
use Rattle.std.specs.Prelude.{ℕ, zero, suc, ◌+◌, ◌-◌, ◌==◌, nat_lt, Bool, not, ◌&&◌, ◌||◌, if◌then◌else◌, List, [], ◌∷◌, length, drop, slice_index, Option, Some, None, Result, Ok, Err, bit_and}
use Rattle.mud_base.specs.Faults.{row, unless}
use Rattle.mud_base.specs.declared.addr.Addr.{Addr}
use Rattle.mud_url.specs.Host.{is_host}
use Rattle.mud_base.specs.Numbers.{big_16}
use Rattle.dns_snoop.specs.declared.fault.DnsFault.{DnsFault}
use Rattle.dns_snoop.specs.declared.fault.DnsFault.TheVariants as faults
use Rattle.dns_snoop.specs.declared.name.ReadName.{ReadName}
use Rattle.dns_snoop.specs.declared.answers.Question.{Question}
use Rattle.dns_snoop.specs.declared.answers.Answers.{Answers}
use Rattle.dns_snoop.specs.declared.answer.Record.{Record}
use Rattle.dns_snoop.specs.Names.{read_name_of}
use Rattle.dns_snoop.specs.Records.{type_a, type_aaaa, class_in, records_from, rows_of}

-- A whole answer without an error to one question (section 4.1.1): in octet 2 the bit QR is set, OPCODE is 0 (a standard query) and
-- TC isn't set; in octet 3 RCODE is 0; QDCOUNT is 1.
unfoldable pub is_answer : List ℕ → Bool
is_answer message = bit_and (slice_index message 2) 0xFA == 0x80 && bit_and (slice_index message 3) 15 == 0 && big_16 4 message == 1

-- how many octets the header has
abbrev pub header_len : ℕ
header_len = 12

-- the question (section 4.1.2): a name behind the header, type in 2 octets, class in 2
unfoldable pub question_of : List ℕ → Result Question DnsFault
question_of message = question_by message (read_name_of message header_len)
  where
    question_by : List ℕ → Result ReadName DnsFault → Result Question DnsFault
    question_by message (Err fault) = Err fault
    question_by message (Ok name) =
        unless (row (nat_lt (length message - name.behind) 4) (faults.Cut header_len) ∷ [])
        (Ok (record { name = name.text; kind = big_16 name.behind message; class = big_16 (name.behind + 2) message; behind = name.behind + 4 }))

-- Of a name's text the lengths become dots, and the first of them goes: the labels are joined by dots.
abbrev pub dots_from : ℕ → List ℕ → List ℕ
dots_from skipped [] = []
dots_from zero (len ∷ behind) = 46 ∷ dots_from len behind
dots_from (suc skipped) (octet ∷ behind) = octet ∷ dots_from skipped behind

-- the type that is asked for: of an address, of a host name, in the Internet
unfoldable pub asked_by : Question → List ℕ → Option ℕ
asked_by question name =
    if question.class == class_in && is_host name && (question.kind == type_a || question.kind == type_aaaa) then Some question.kind else None

-- What a message answers: the name of its question, and the rows of its answers. All answers are read, also where none can give a
-- row. Authorities and additions aren't read.
unfoldable pub answers_of : List ℕ → Result Answers DnsFault
answers_of message =
    unless (row (nat_lt (length message) header_len) (faults.Cut 0) ∷ row (not (is_answer message)) faults.NotAnswer ∷ [])
    (answers_to message (question_of message))
  where
    dotted : List ℕ → List ℕ
    dotted text = drop 1 (dots_from 0 text)

    rows_if : List ℕ → Option ℕ → List ℕ → List Record → List (Addr × ℕ)
    rows_if message None name records = []
    rows_if message (Some kind) name records = rows_of message kind name records

    answers_by : List ℕ → Question → Result (List Record) DnsFault → Result Answers DnsFault
    answers_by message question (Err fault) = Err fault
    answers_by message question (Ok records) = Ok (record {
      name = dotted question.name;
      rows = rows_if message (asked_by question (dotted question.name)) question.name records;
    })

    answers_to : List ℕ → Result Question DnsFault → Result Answers DnsFault
    answers_to message (Err fault) = Err fault
    answers_to message (Ok question) = answers_by message question (records_from (big_16 6 message) message question.behind)
