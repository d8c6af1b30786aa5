-- The rows of answers, one answer after the other.
use Rattle.std.proofs.Common.{◌≡◌, ℕ, zero, suc, ◌+◌, ◌-◌, ◌<◌, ◌≤◌, List, ◌++◌, Option, Result, Ok, Err, refl, sym, ap, ◌∙◌, arith, append_assoc, append-nil}
use Rattle.mud_base.specs.declared.addr.Addr.{Addr}
use Rattle.dns_snoop.specs.declared.fault.DnsFault.{DnsFault}
use Rattle.dns_snoop.specs.declared.fault.DnsFault.TheVariants as faults
use Rattle.dns_snoop.specs.declared.answer.Record.{Record}
use Rattle.dns_snoop.specs.Records.{record_at, records_from}
use Rattle.dns_snoop.specs.Rows.{Answered, row_if, rows_from, collected, bound_with, alias_after, least_after}
use Rattle.dns_snoop.proofs.Parts.{then_records, with_record}

module _ (message : List ℕ) (asked : Option ℕ) (rows : List (Addr × ℕ)) (alias : List ℕ) (least : Option ℕ) where
  pub rows_done : (left offset : ℕ) (answer : Result (List (Addr × ℕ)) DnsFault) → left ≤ 0 → collected message asked rows alias least (records_from left message offset) ≡ answer → Ok rows ≡ answer
  unfolding records_from
  rows_done zero offset answer none same = ap Ok (sym (append-nil rows)) ∙ same
  rows_done (suc left) offset answer none same = absurd (omega arith)

  pub rows_fail : (left offset : ℕ) (fault : DnsFault) (answer : Result (List (Addr × ℕ)) DnsFault) → 0 < left → Err fault ≡ record_at message offset
      → collected message asked rows alias least (records_from left message offset) ≡ answer → Err fault ≡ answer
  unfolding records_from
  rows_fail zero offset fault answer some is same = absurd (omega arith)
  rows_fail (suc left) offset fault answer some is same =
      ap (λ (r : Result Record DnsFault). collected message asked rows alias least (then_records r (λ behind. records_from left message behind))) is ∙ same

  with-row : (r : Record) (later : Result (List Record) DnsFault)
      → collected message asked (rows ++ row_if message asked alias (bound_with least r.ttl) r) (alias_after alias r) (least_after alias least r) later
      ≡ collected message asked rows alias least (with_record r later)
  with-row r (Ok rs) = ap Ok (append_assoc rows (row_if message asked alias (bound_with least r.ttl) r) (rows_from message asked (alias_after alias r) (least_after alias least r) rs))
  with-row r (Err fault) = refl

  pub rows_more : (left offset : ℕ) (r : Record) (answer : Result (List (Addr × ℕ)) DnsFault) → 0 < left → Ok r ≡ record_at message offset
      → collected message asked rows alias least (records_from left message offset) ≡ answer
      → collected message asked (rows ++ row_if message asked alias (bound_with least r.ttl) r) (alias_after alias r) (least_after alias least r) (records_from (left - 1) message (r.offset + r.len)) ≡ answer
  unfolding records_from
  rows_more zero offset r answer some is same = absurd (omega arith)
  rows_more (suc left) offset r answer some is same =
      let one : suc left - 1 ≡ left = omega arith in
      ap (λ n. collected message asked (rows ++ row_if message asked alias (bound_with least r.ttl) r) (alias_after alias r) (least_after alias least r) (records_from n message (r.offset + r.len))) one
      ∙ with-row r (records_from left message (r.offset + r.len))
      ∙ ap (λ (r : Result Record DnsFault). collected message asked rows alias least (then_records r (λ behind. records_from left message behind))) is ∙ same

-- an answer of an error
pub answered_err : {A : Type 0} (fault : DnsFault) (defined : Result A DnsFault) → Err fault ≡ defined → Answered (Err fault) defined
answered_err faults.Memory defined is = tt
answered_err (faults.Cut at) defined is = is
answered_err faults.NotAnswer defined is = is
answered_err (faults.Label at) defined is = is
answered_err (faults.Pointer at) defined is = is
answered_err (faults.NameLong at) defined is = is
