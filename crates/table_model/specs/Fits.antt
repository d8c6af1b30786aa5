-- What fits the fields in which it is kept. Sound lists have this of each of their rows, so that each row is read back
-- from its item.
use Rattle.std.specs.Prelude.{◌≡◌, ◌<◌, ◌^◌, List, length}
use Rattle.mud_base.specs.declared.prefix.Prefix.{Prefix}
use Rattle.item_codec.specs.Records.{OptionFits, ListFits}
use Rattle.table_model.specs.declared.thing.Thing.{Thing}
use Rattle.table_model.specs.declared.bind.ClassRow.{ClassRow}
use Rattle.table_model.specs.declared.bind.NameRow.{NameRow}
use Rattle.table_model.specs.ItemFields.{IsAddr, IsExpiring, IsNetwork}

-- a hardware address has six octets, and each number and length fits its field
pub record FitsThing (thing : Thing) : Type 0 where
  pub mac : length thing.mac.0 ≡ 6
  pub url : length thing.url < 2 ^ 32
  pub pending : OptionFits (λ url. length url < 2 ^ 32) thing.pending
  pub leases : ListFits IsExpiring thing.leases

abbrev pub FitsClass : ClassRow → Type 0
FitsClass row = ListFits IsAddr row.addrs

abbrev pub FitsLocals : List Prefix → Type 0
FitsLocals locals = ListFits IsNetwork locals

abbrev pub FitsName : NameRow → Type 0
FitsName row = ListFits IsExpiring row.addrs
