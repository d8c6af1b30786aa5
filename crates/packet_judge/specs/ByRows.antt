-- The ruling on a packet of a Thing by the rows of a view. The first entry that matches has the least number among the
-- entries whose other tests pass: of those with a live row of the peer, and of those with no member selector.
use Rattle.std.specs.Prelude.{◌≡◌, ℕ, zero, suc, ◌&&◌, Bool, false, min, List, find, Option, Some, None, option_map}
use Rattle.std.specs.Option.{option_map_or}
use Rattle.mud_base.specs.declared.prefix.Prefix.{Prefix}
use Rattle.mud_base.specs.declared.packet.Direction.{Direction}
use Rattle.mud_base.specs.declared.packet.Fields.{Fields}
use Rattle.base_rows.specs.Sortable.{SortKeysAscend}
use Rattle.acl_model.specs.declared.entry.Entry.{Entry}
use Rattle.acl_model.specs.declared.entry.Policy.{Policy}
use Rattle.acl_model.specs.declared.binding.Binding.{Binding}
use Rattle.acl_model.specs.declared.ruling.Ruling.{Ruling}
use Rattle.acl_model.specs.declared.ruling.Ruling.TheVariants.{AcceptDefault, DropDefault}
use Rattle.acl_model.specs.declared.ruling.DefaultRule.TheVariants.{Dns, Ntp}
use Rattle.acl_model.specs.declared.ruling.Why.{Why}
use Rattle.acl_model.specs.declared.ruling.Why.TheVariants.{NoFile, NoMatch}
use Rattle.acl_model.specs.Match.{peer_of, near_matches, rest_matches}
use Rattle.acl_model.specs.FirstMatch.{ruled_by}
use Rattle.acl_model.specs.SortKeys.{binding_sort_key}
use Rattle.acl_rows.specs.declared.row.Row.{Row}
use Rattle.acl_rows.specs.Rows.{Slots, entry_at, rows_of}
use Rattle.acl_rows.specs.View.{Part, View, rows_at, holder_from, holder_policy, IsViewOf}
use Rattle.table_model.specs.Expiries.{is_live}

-- ---- What is asked

-- what a ruling asks of an entry beside its member selectors: the local networks, the moment, the packet, and the side
-- that began its connection
pub record Asked : Type 0 where
  pub locals : List Prefix
  pub moment : ℕ
  pub fields : Fields
  pub begun : Option Direction

abbrev pub asked : List Prefix → ℕ → Fields → Option Direction → Asked
asked locals now fields begun = record { locals = locals; moment = now; fields = fields; begun = begun }

-- all tests of the entry pass but those of its member selectors
unfoldable pub passes : Asked → Direction → Entry → Bool
passes asked side entry = near_matches entry (peer_of side asked.fields) asked.locals && rest_matches entry asked.fields side asked.begun

-- those of the entry of this number, where there is one
unfoldable pub passes_at : Asked → Part → ℕ → Bool
passes_at asked part n = option_map_or (passes asked part.side) (entry_at n part.entries) false

-- ---- The least number

-- the rows of the peer
unfoldable pub peer_rows : Asked → Part → List Row
peer_rows asked part = rows_at part (peer_of part.side asked.fields)

-- the row is live, and the other tests of its entry pass
unfoldable pub row_passes : Asked → Part → Row → Bool
row_passes asked part row = is_live row.until asked.moment && passes_at asked part row.entry

unfoldable pub number_of : Row → ℕ
number_of row = row.entry

unfoldable pub first_row : Asked → Part → Option ℕ
first_row asked part = option_map number_of (find (row_passes asked part) (peer_rows asked part))

unfoldable pub first_wide : Asked → Part → Option ℕ
first_wide asked part = find (passes_at asked part) part.wide

abbrev pub lesser : Option ℕ → Option ℕ → Option ℕ
lesser None o = o
lesser (Some m) None = Some m
lesser (Some m) (Some n) = Some (min m n)

unfoldable pub first_in : Asked → Part → Option ℕ
first_in asked part = lesser (first_row asked part) (first_wide asked part)

-- ---- The ruling

-- that of the entry of a number, where there is one
unfoldable pub ruling_at : List Entry → Ruling → Option ℕ → Ruling
ruling_at entries otherwise None = otherwise
ruling_at entries otherwise (Some n) = option_map_or (λ entry. ruled_by n entry.action) (entry_at n entries) (DropDefault NoMatch)

-- entry 1 of the defaults is for DNS, entry 2 for NTP
unfoldable pub default_at : Why → Option ℕ → Ruling
default_at why None = DropDefault why
default_at why (Some zero) = DropDefault why
default_at why (Some (suc zero)) = AcceptDefault Dns
default_at why (Some (suc (suc n))) = AcceptDefault Ntp

unfoldable pub ruling_in : Asked → Part → Option Part → Ruling
ruling_in asked defaults None = default_at NoFile (first_in asked defaults)
ruling_in asked defaults (Some part) = ruling_at part.entries (default_at NoMatch (first_in asked defaults)) (first_in asked part)

unfoldable pub ruling_by_rows : Asked → View → Ruling
ruling_by_rows asked view = ruling_in asked view.defaults view.file

-- ---- Whose rows they are

-- The view is the one of a URL and a side over the rows of these policies and bindings, and this policy is held for the URL.
pub record IsViewOver (slots : Slots) (bindings : List Binding) (url : List ℕ) (policy : Option Policy) (side : Direction) (view : View) : Type 0 where
  pub ascend : SortKeysAscend binding_sort_key bindings
  pub held : option_map holder_policy (holder_from url 0 slots) ≡ policy
  pub lends : IsViewOf slots (rows_of slots bindings) url side view
