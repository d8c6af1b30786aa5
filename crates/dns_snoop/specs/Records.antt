-- The answers of a DNS message (RFC 1035, sections 4.1.3 and 3.2), and the addresses that they give.
use Rattle.std.specs.Prelude.{ℕ, zero, suc, ◌+◌, ◌-◌, ◌==◌, nat_lt, nat_le, min, Bool, not, ◌&&◌, ◌||◌, if◌then◌else◌, List, [], ◌∷◌, ◌++◌, length, Option, Some, None, Result, Ok, Err}
use Rattle.std.specs.Str.{bytes_eq}
use Rattle.mud_base.specs.Faults.{row, unless}
use Rattle.mud_base.specs.declared.addr.Addr.{Addr}
use Rattle.mud_base.specs.declared.addr.Addr.TheVariants.{V4, V6}
use Rattle.mud_base.specs.Numbers.{big_16, big_32, big_128}
use Rattle.dns_snoop.specs.declared.fault.DnsFault.{DnsFault}
use Rattle.dns_snoop.specs.declared.fault.DnsFault.TheVariants as faults
use Rattle.dns_snoop.specs.declared.name.ReadName.{ReadName}
use Rattle.dns_snoop.specs.declared.answer.Record.{Record}
use Rattle.dns_snoop.specs.Names.{read_name_of}

-- the types of an IPv4 address, of an alias, and of an IPv6 address (RFC 1035, section 3.2.2; RFC 3596, section 2.1)
abbrev pub type_a : ℕ
type_a = 1

abbrev pub type_cname : ℕ
type_cname = 5

abbrev pub type_aaaa : ℕ
type_aaaa = 28

-- the class of the Internet (section 3.2.4)
abbrev pub class_in : ℕ
class_in = 1

-- ---- One answer

-- The content of an alias, of any class, is one whole name; of another type nothing is kept. None where the content isn't of its
-- type's form.
unfoldable pub alias_in : List ℕ → ℕ → ℕ → ℕ → ℕ → Option (List ℕ)
alias_in message kind class offset len =
    if kind == type_cname then name_up_to (offset + len) (read_name_of message offset)
    else (if is_amiss kind class len then None else Some [])
  where
    -- an address of the Internet has 4 or 16 octets
    is_amiss : ℕ → ℕ → ℕ → Bool
    is_amiss kind class len = class == class_in && ((kind == type_a && not (len == 4)) || (kind == type_aaaa && not (len == 16)))

    -- the text of a name, where the name ends at this offset
    name_up_to : ℕ → Result ReadName DnsFault → Option (List ℕ)
    name_up_to end (Err fault) = None
    name_up_to end (Ok name) = if name.behind == end then Some name.text else None

abbrev pub with_alias : DnsFault → Record → Option (List ℕ) → Result Record DnsFault
with_alias fault answer None = Err fault
with_alias fault answer (Some alias) = Ok (record answer { alias = alias })

unfoldable pub record_at : List ℕ → ℕ → Result Record DnsFault
record_at message offset = record_by message offset (read_name_of message offset)
  where
    -- behind the owner: type in 2 octets, class in 2, ttl in 4, length of the content in 2, content
    base_at : List ℕ → ReadName → Record
    base_at message owner = record {
      owner = owner.text;
      kind = big_16 owner.behind message;
      class = big_16 (owner.behind + 2) message;
      ttl = big_32 (owner.behind + 4) message;
      offset = owner.behind + 10;
      len = big_16 (owner.behind + 8) message;
      alias = [];
    }

    record_behind : List ℕ → ℕ → ReadName → Result Record DnsFault
    record_behind message offset owner =
        unless (
        row (nat_lt (length message - owner.behind) 10) (faults.Cut offset)
        ∷ row (nat_lt (length message - (owner.behind + 10)) (big_16 (owner.behind + 8) message)) (faults.Cut offset)
        ∷ [])
        (with_alias (faults.Cut offset) (base_at message owner) (alias_in message (big_16 owner.behind message) (big_16 (owner.behind + 2) message) (owner.behind + 10) (big_16 (owner.behind + 8) message)))

    record_by : List ℕ → ℕ → Result ReadName DnsFault → Result Record DnsFault
    record_by message offset (Err fault) = Err fault
    record_by message offset (Ok owner) = record_behind message offset owner

-- so many answers, the first of them at this offset
unfoldable pub records_from : ℕ → List ℕ → ℕ → Result (List Record) DnsFault
records_from zero message offset = Ok []
records_from (suc count) message offset = then_records (record_at message offset) (λ behind. records_from count message behind)
  where
    with_record : Record → Result (List Record) DnsFault → Result (List Record) DnsFault
    with_record first (Ok later) = Ok (first ∷ later)
    with_record first (Err fault) = Err fault

    then_records : Result Record DnsFault → (ℕ → Result (List Record) DnsFault) → Result (List Record) DnsFault
    then_records (Err fault) behind = Err fault
    then_records (Ok first) behind = with_record first (behind (first.offset + first.len))

-- ---- Links

-- it is of the Internet, and its owner is this alias
unfoldable pub is_owned : List ℕ → Record → Bool
is_owned alias r = r.class == class_in && bytes_eq r.owner alias

-- a link: it gives the alias before it another name
unfoldable pub is_link : List ℕ → Record → Bool
is_link alias r = is_owned alias r && r.kind == type_cname

-- where this is the alias before it and this its bound, it answers a question of this type
unfoldable pub gives_row : ℕ → List ℕ → ℕ → Record → Bool
gives_row kind alias bound r = is_owned alias r && r.kind == kind && nat_le 1 bound && nat_le bound most_ttl
  where
    -- a ttl has 31 bits (RFC 2181, section 8)
    most_ttl : ℕ
    most_ttl = 2147483647

-- its row, if it gives one
abbrev pub row_of : List ℕ → ℕ → List ℕ → ℕ → Record → List (Addr × ℕ)
row_of message kind alias bound r = if gives_row kind alias bound r then (address_in message r, bound) ∷ [] else []
  where
    address_in : List ℕ → Record → Addr
    address_in message r = if r.kind == type_a then V4 (big_32 r.offset message) else V6 (big_128 r.offset message)

unfoldable pub rows_of : List ℕ → ℕ → List ℕ → List Record → List (Addr × ℕ)
rows_of message kind name answers = rows_behind message kind name [] answers
  where
    -- the links among these answers, in front of which this is the alias
    links : List ℕ → List Record → List Record
    links alias [] = []
    links alias (r ∷ rs) = if is_link alias r then r ∷ links r.alias rs else links alias rs

    -- the content of the last link, or this name where there is none
    last_alias : List ℕ → List Record → List ℕ
    last_alias name [] = name
    last_alias name (link ∷ links) = last_alias link.alias links

    -- the least of a ttl and those of the links
    least : ℕ → List Record → ℕ
    least ttl [] = ttl
    least ttl (link ∷ links) = min link.ttl (least ttl links)

    -- The rows of the answers behind those before. An answer's alias is the content of the last link before it, or the question's name;
    -- its bound the least of its own ttl and those of all links before it.
    rows_behind : List ℕ → ℕ → List ℕ → List Record → List Record → List (Addr × ℕ)
    rows_behind message kind name before [] = []
    rows_behind message kind name before (r ∷ rs) =
        row_of message kind (last_alias name (links name before)) (least r.ttl (links name before)) r ++ rows_behind message kind name (before ++ r ∷ []) rs
