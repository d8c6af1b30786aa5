-- The definitions, computed on rows that are written out.
use Rattle.std.proofs.Common.{◌≡◌, pos, [], ◌∷◌, codes, refl}
use Rattle.mud_world.specs.declared.item.Item.{Item}
use Rattle.keep_sqlite.specs.Rows.{item_in, items_in, stored}

abbrev bulb : Item
bulb = record { kind = 1; key = codes "b"; body = codes "bulb" }

abbrev lamp : Item
lamp = record { kind = 1; key = codes "a"; body = codes "lamp" }

abbrev file : Item
file = record { kind = 2; key = codes "a"; body = codes "file" }

-- a row says its item
row_of_an_item : item_in (stored (pos 7) bulb) ≡ bulb
row_of_an_item = refl

-- the items are in order by kind and then key, whatever the rowids
rows_in_another_order : items_in (stored (pos 1) file ∷ stored (pos 2) bulb ∷ stored (pos 3) lamp ∷ []) ≡ lamp ∷ bulb ∷ file ∷ []
rows_in_another_order = refl
