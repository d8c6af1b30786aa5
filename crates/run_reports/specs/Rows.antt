-- The lines that `report` writes of a row of each table. Each line ends with a line feed.
use Rattle.std.specs.Prelude.{ℕ, Bool, List, ◌++◌, flat_map, codes, Option, Some, None, if◌then◌else◌}
use Rattle.mud_base.specs.declared.addr.Addr.{Addr}
use Rattle.mud_base.specs.declared.addr.Mac.{Mac}
use Rattle.mud_base.specs.Addresses.{PrefixParts}
use Rattle.mud_base.specs.Texts.{mac_text, addr_text, prefix_text}
use Rattle.table_model.specs.declared.thing.Thing.{Thing}
use Rattle.table_model.specs.declared.bind.Class.{Class}
use Rattle.table_model.specs.declared.bind.Class.TheVariants.{Uri, Mine}
use Rattle.table_model.specs.declared.bind.ClassRow.{ClassRow}
use Rattle.table_model.specs.declared.bind.NameRow.{NameRow}
use Rattle.usage_tables.specs.Held.{HeldFile}
use Rattle.usage_tables.specs.declared.approval.Approval.{Approval}
use Rattle.usage_tables.specs.declared.cached_file.CachedFile.{CachedFile}
use Rattle.usage_tables.specs.Words.{approval_word}
use Rattle.text_values.specs.Numbers.{expiry_text}

-- a space and the word
unfoldable pub word_part : List ℕ → List ℕ
word_part word = codes " " ++ word

-- an address and its expiry, as the last words of a line
unfoldable pub expiring_part : Addr → ℕ → List ℕ
expiring_part address expiry = codes " " ++ addr_text address ++ codes " " ++ expiry_text expiry ++ codes "\n"

-- ---- Things

-- another URL that waits for the operator
unfoldable pub pending_word : Option (List ℕ) → List ℕ
pending_word None = codes "-"
pending_word (Some url) = url

unfoldable pub thing_line : Thing → List ℕ
thing_line thing = codes "thing " ++ mac_text thing.mac ++ word_part thing.url ++ word_part (pending_word thing.pending) ++ word_part (hold_word thing.held) ++ codes "\n"
  where
    -- whether the operator holds the Thing
    hold_word : Bool → List ℕ
    hold_word held = if held then codes "held" else codes "-"

unfoldable pub lease_line : Mac → Addr × ℕ → List ℕ
lease_line mac lease = codes "lease " ++ mac_text mac ++ expiring_part lease.0 lease.1

-- a Thing, and then its leases
unfoldable pub thing_lines : Thing → List ℕ
thing_lines thing = thing_line thing ++ flat_map (lease_line thing.mac) thing.leases

-- ---- Files

-- how the approved file of a URL was approved, where there is one
unfoldable pub approved_word : Option (HeldFile × Approval) → List ℕ
approved_word None = codes "-"
approved_word (Some approved) = approval_word approved.1

-- whether a file waits for the operator's verdict
unfoldable pub candidate_word : Option HeldFile → List ℕ
candidate_word None = codes "no"
candidate_word (Some held) = codes "yes"

unfoldable pub file_line : CachedFile → List ℕ
file_line row = codes "file " ++ row.url ++ word_part (approved_word row.approved) ++ word_part (candidate_word row.candidate) ++ codes "\n"

-- ---- Classes, local networks, names

unfoldable pub class_part : Class → List ℕ
class_part (Uri uri) = codes "class uri " ++ uri
class_part (Mine url) = codes "class mine " ++ url

unfoldable pub class_line : Class → Addr → List ℕ
class_line class address = class_part class ++ codes " " ++ addr_text address ++ codes "\n"

-- a line for each address of the class
unfoldable pub class_lines : ClassRow → List ℕ
class_lines row = flat_map (class_line row.class) row.addrs

unfoldable pub local_line : PrefixParts → List ℕ
local_line prefix = codes "local " ++ prefix_text prefix ++ codes "\n"

unfoldable pub name_line : List ℕ → Addr × ℕ → List ℕ
name_line name observed = codes "name " ++ name ++ expiring_part observed.0 observed.1

-- a line for each address of the name
unfoldable pub name_lines : NameRow → List ℕ
name_lines row = flat_map (name_line row.name) row.addrs

-- ---- URLs whose file is to be fetched again

unfoldable pub due_line : List ℕ → List ℕ
due_line url = codes "due " ++ url ++ codes "\n"
