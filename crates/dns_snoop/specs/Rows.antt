-- The rows of answers as they are read one by one.
use Rattle.std.specs.Prelude.{◌≡◌, ℕ, min, if◌then◌else◌, List, [], ◌∷◌, ◌++◌, Option, Some, None, Result, Ok, Err}
use Rattle.mud_base.specs.declared.addr.Addr.{Addr}
use Rattle.dns_snoop.specs.declared.fault.DnsFault.{DnsFault}
use Rattle.dns_snoop.specs.declared.fault.DnsFault.TheVariants.{Memory}
use Rattle.dns_snoop.specs.declared.answer.Record.{Record}
use Rattle.dns_snoop.specs.Records.{is_link, row_of}

-- the least of a ttl and that of the links so far, if there are any
abbrev pub bound_with : Option ℕ → ℕ → ℕ
bound_with None ttl = ttl
bound_with (Some least) ttl = min least ttl

abbrev pub alias_after : List ℕ → Record → List ℕ
alias_after alias r = if is_link alias r then r.alias else alias

abbrev pub least_after : List ℕ → Option ℕ → Record → Option ℕ
least_after alias least r = if is_link alias r then Some (bound_with least r.ttl) else least

-- the row of an answer to a question of this type, if it gives one
abbrev pub row_if : List ℕ → Option ℕ → List ℕ → ℕ → Record → List (Addr × ℕ)
row_if message None alias bound r = []
row_if message (Some kind) alias bound r = row_of message kind alias bound r

module _ (message : List ℕ) (asked : Option ℕ) where
  abbrev pub rows_from : List ℕ → Option ℕ → List Record → List (Addr × ℕ)
  rows_from alias least [] = []
  rows_from alias least (r ∷ rs) = row_if message asked alias (bound_with least r.ttl) r ++ rows_from (alias_after alias r) (least_after alias least r) rs

  -- the rows so far and those that come
  abbrev pub collected : List (Addr × ℕ) → List ℕ → Option ℕ → Result (List Record) DnsFault → Result (List (Addr × ℕ)) DnsFault
  collected rows alias least (Ok rs) = Ok (rows ++ rows_from alias least rs)
  collected rows alias least (Err fault) = Err fault

-- it is what the definition says, unless memory was wanted
abbrev pub Answered : {A : Type 0} → Result A DnsFault → Result A DnsFault → Type 0
Answered (Err Memory) defined = Unit {0}
Answered answer defined = answer ≡ defined
