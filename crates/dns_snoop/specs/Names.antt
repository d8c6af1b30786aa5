-- Names in a DNS message (RFC 1035, sections 3.1 and 4.1.4). Offsets count the octets of the message from 0.
use Rattle.std.specs.Prelude.{ℕ, zero, suc, ◌+◌, ◌-◌, ◌*◌, ◌==◌, nat_lt, if◌then◌else◌, List, [], ◌∷◌, ◌++◌, length, take, drop, map, slice_index, Option, Some, None, Result, Ok, Err}
use Rattle.mud_base.specs.Faults.{row_at, unless}
use Rattle.mud_url.specs.Host.{lowered}
use Rattle.dns_snoop.specs.declared.fault.DnsFault.{DnsFault}
use Rattle.dns_snoop.specs.declared.fault.DnsFault.TheVariants as faults
use Rattle.dns_snoop.specs.declared.name.RunEnd.{RunEnd}
use Rattle.dns_snoop.specs.declared.name.RunEnd.TheVariants.{End, Pointer}
use Rattle.dns_snoop.specs.declared.name.ReadName.{ReadName}

-- ---- Runs

-- a label: the offset of its length octet, and its octets
pub record Label : Type 0 where
  pub offset : ℕ
  pub text : List ℕ

-- a run: labels behind one another, and how they end, or what is wrong behind them
pub record Run : Type 0 where
  pub labels : List Label
  pub end : Result RunEnd DnsFault

abbrev pub ended : Result RunEnd DnsFault → Run
ended end = record { labels = []; end = end }

abbrev pub with_label : Label → Run → Run
with_label first later = record { labels = first ∷ later.labels; end = later.end }

-- The run of the octets from an offset on, where the first so many are the rest of a label.
abbrev pub run_from : ℕ → ℕ → List ℕ → Run
run_from skipped offset [] = ended (Err (faults.Cut offset))
run_from (suc skipped) offset (octet ∷ behind) = run_from skipped (offset + 1) behind
run_from zero offset (code ∷ behind) = at_code offset code behind (run_from code (offset + 1) behind)
  where
    -- A pointer has the two bits 11 and then 14 bits, the offset to which it leads (section 4.1.4).
    target_of : ℕ → List ℕ → ℕ
    target_of code behind = 256 * (code - 192) + slice_index behind 0

    -- By the octet at a label's offset: 0 ends the name, up to 63 it is the length of a label (section 3.1), and from 192 on it begins a
    -- pointer. The bits 01 and 10 in front are reserved.
    at_code : ℕ → ℕ → List ℕ → Run → Run
    at_code offset code behind later =
        if code == 0 then ended (Ok (End (offset + 1)))
        else (if nat_lt code 64 then (if nat_lt (length behind) code then ended (Err (faults.Cut offset)) else with_label (record { offset = offset; text = take code behind }) later)
        else (if nat_lt code 192 then ended (Err (faults.Label offset))
        else (if length behind == 0 then ended (Err (faults.Cut offset)) else ended (Ok (Pointer offset (target_of code behind))))))

unfoldable pub run_at : List ℕ → ℕ → Run
run_at message offset = run_from 0 offset (drop offset message)

-- ---- Runs behind one another

-- all labels of a name, and what is wrong behind them
pub record Chain : Type 0 where
  pub labels : List Label
  pub fault : Option DnsFault

abbrev pub whole : Chain
whole = record { labels = []; fault = None }

abbrev pub broken : DnsFault → Chain
broken fault = record { labels = []; fault = Some fault }

-- a run, and what comes behind it
abbrev pub chained : Run → (RunEnd → Chain) → Chain
chained run behind = chained_by run.labels run.end behind
  where
    chained_by : List Label → Result RunEnd DnsFault → (RunEnd → Chain) → Chain
    chained_by labels (Err fault) behind = record { labels = labels; fault = Some fault }
    chained_by labels (Ok end) behind = record { labels = labels ++ (behind end).labels; fault = (behind end).fault }

-- What comes behind a run that begins at `start`, which is `most` at most, and ends so. A pointer leads to a prior occurrence of a
-- name (section 4.1.4): the run at its target begins before the run that it ends. So there are no more runs than `most`.
unfoldable pub chain_behind : ℕ → List ℕ → ℕ → RunEnd → Chain
chain_behind most message start (End offset) = whole
chain_behind zero message start (Pointer at target) = broken (faults.Pointer at)
chain_behind (suc most) message start (Pointer at target) =
    if nat_lt target start then chained (run_at message target) (λ end. chain_behind most message target end) else broken (faults.Pointer at)

-- ---- Names

-- The offset of the first label with which a name, of so many octets without it, has more than 255 (section 2.3.4).
unfoldable pub first_beyond : ℕ → List Label → Option ℕ
first_beyond size [] = None
first_beyond size (label ∷ labels) = if nat_lt 255 (size + (1 + length label.text)) then Some label.offset else first_beyond (size + (1 + length label.text)) labels

-- The labels of a name, their letters in lower case: names are compared so (section 2.3.3).
abbrev pub labels_of : List Label → List (List ℕ)
labels_of labels = map (λ (label : Label). lowered label.text) labels

-- A name is kept as one text, each label in lower case behind its length. Two names have one text exactly where they have the same
-- labels in lower case.
unfoldable pub text_of : List Label → List ℕ
text_of [] = []
text_of (label ∷ labels) = (length label.text ∷ lowered label.text) ++ text_of labels

-- the offset behind a name whose first run ends so: a pointer has two octets
unfoldable pub behind_run : RunEnd → ℕ
behind_run (End offset) = offset
behind_run (Pointer at target) = at + 2

-- the name at an offset
unfoldable pub read_name_of : List ℕ → ℕ → Result ReadName DnsFault
read_name_of message offset = unless (name_rows (chain_at message offset)) (Ok (record { text = text_of (chain_at message offset).labels; behind = behind_first (run_at message offset).end }))
  where
    chain_at : List ℕ → ℕ → Chain
    chain_at message offset = chained (run_at message offset) (chain_behind offset message offset)

    -- the table of faults of a name: its end has one octet
    name_rows : Chain → List (Option DnsFault)
    name_rows chain = row_at faults.NameLong (first_beyond 1 chain.labels) ∷ chain.fault ∷ []

    behind_first : Result RunEnd DnsFault → ℕ
    behind_first (Ok end) = behind_run end
    behind_first (Err fault) = 0
