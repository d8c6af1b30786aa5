-- The steps of a ruling: the rows of the peer that are read, the search for them, and the wide entries that are tested.
use Rattle.std.specs.Prelude.{ℕ, ◌+◌, ◌^◌, ◌<◌, Bool, if◌then◌else◌, List, [], ◌∷◌, filter, length, Option, Some, None}
use Rattle.std.specs.Option.{option_map_or, option_and_then}
use Rattle.mud_base.specs.declared.addr.Addr.{Addr}
use Rattle.mud_base.specs.declared.packet.Direction.{Direction}
use Rattle.acl_model.specs.FirstMatch.{entries_of}
use Rattle.acl_rows.specs.declared.row.Owner.{Owner}
use Rattle.acl_rows.specs.declared.row.Owner.TheVariants.{Default}
use Rattle.acl_rows.specs.declared.row.Row.{Row}
use Rattle.acl_rows.specs.Rows.{Slots, Holder, default_held}
use Rattle.acl_rows.specs.View.{Part, View, wide_from, rows_of_side, is_at, holder_from}
use Rattle.packet_judge.specs.ByRows.{Asked, passes_at, peer_rows, first_in}

-- the rows of the peer that the file has
unfoldable pub file_rows : Asked → Option Part → ℕ
file_rows asked None = 0
file_rows asked (Some part) = length (peer_rows asked part)

unfoldable pub least_steps : Asked → View → ℕ
least_steps asked view = file_rows asked view.file

-- how many of these are tested: up to the first that passes, or all
unfoldable pub tested : (ℕ → Bool) → List ℕ → ℕ
tested test [] = 0
tested test (n ∷ ns) = if test n then 1 else tested test ns + 1

-- the wide entries that are tested: those of a part, and those of the file
unfoldable pub wide_tested : Asked → Part → ℕ
wide_tested asked part = tested (passes_at asked part) part.wide

unfoldable pub file_tested : Asked → Option Part → ℕ
file_tested asked None = 0
file_tested asked (Some part) = wide_tested asked part

-- the rows of the peer that a part has, and its wide entries that are tested
unfoldable pub part_least : Asked → Part → ℕ
part_least asked part = length (peer_rows asked part) + wide_tested asked part

-- those of the defaults, where the file gives no number of an entry
unfoldable pub least_behind : Asked → Part → Option ℕ → ℕ
least_behind asked defaults None = part_least asked defaults
least_behind asked defaults (Some n) = 0

-- those of the defaults, where no entry of the file rules
unfoldable pub default_least : Asked → View → ℕ
default_least asked view = least_behind asked view.defaults (option_and_then (first_in asked) view.file)

-- those of one part, where the search takes no more than `b`
unfoldable pub part_steps : Asked → ℕ → Part → ℕ
part_steps asked b part = length (peer_rows asked part) + b + length part.wide

unfoldable pub file_steps : Asked → ℕ → Option Part → ℕ
file_steps asked b None = 0
file_steps asked b (Some part) = part_steps asked b part

-- those of the file's part and of the defaults
unfoldable pub most_steps : Asked → ℕ → View → ℕ
most_steps asked b view = file_steps asked b view.file + part_steps asked b view.defaults

abbrev pub IsFoundWithin : ℕ → Option Part → Type 0
IsFoundWithin b None = Unit {0}
IsFoundWithin b (Some part) = part.among < 2 ^ b

-- the numbers of the rows among which a view's rows are found have no more than `b` binary digits
pub record FitsRows (b : ℕ) (view : View) : Type 0 where
  pub file : IsFoundWithin b view.file
  pub defaults : view.defaults.among < 2 ^ b

-- ---- The same by all rows, where the view is that of a URL

-- the rows of an owner and side at an address
unfoldable pub rows_of_peer : List Row → Owner → Direction → Addr → List Row
rows_of_peer rows owner side a = filter (is_at a) (rows_of_side owner side rows)

unfoldable pub holder_rows_read : List Row → Direction → Addr → Holder → ℕ
holder_rows_read rows side a h = length (rows_of_peer rows h.0 side a)

-- those of the file of the URL, where one is approved
unfoldable pub url_rows_read : Slots → List Row → List ℕ → Direction → Addr → ℕ
url_rows_read slots rows url side a = option_map_or (holder_rows_read rows side a) (holder_from url 0 slots) 0

unfoldable pub holder_steps : List Row → Direction → Addr → ℕ → Holder → ℕ
holder_steps rows side a b h = holder_rows_read rows side a h + b + length (wide_from 1 (entries_of side h.1.policy))

-- those of the file of the URL, where one is approved, and of the defaults
unfoldable pub url_steps : Slots → List Row → List ℕ → Direction → Addr → ℕ → ℕ
url_steps slots rows url side a b = option_map_or (holder_steps rows side a b) (holder_from url 0 slots) 0 + holder_steps rows side a b (Default, default_held)
