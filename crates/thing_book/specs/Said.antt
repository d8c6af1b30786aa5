-- What an item says of a Thing, before it is looked at whether that may be kept.
use Rattle.std.specs.Prelude.{ℕ, List, Option, Some, None, if◌then◌else◌}
use Rattle.std.specs.Option.{option_map}
use Rattle.mud_url.specs.Url.{is_canonical}
use Rattle.table_model.specs.declared.thing.Thing.{Thing}
use Rattle.thing_book.specs.declared.reading.Said.{Said}

-- what is said under this key
unfoldable pub thing_said : List ℕ → Said → Thing
thing_said key said = record { mac = record { 0 = key }; url = said.url.now; pending = option_map (λ text. text.now) said.pending; leases = said.leases; held = said.held }

-- the URL that waits is canonical, where one is said to
unfoldable pub pending_said : Option (List ℕ) → Option (Option (List ℕ))
pending_said None = Some None
pending_said (Some text) = if is_canonical text then Some (Some text) else None
