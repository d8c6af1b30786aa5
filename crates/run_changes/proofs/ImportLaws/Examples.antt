-- What the definitions say of written-out names.
use Rattle.std.proofs.Common.{◌≡◌, [], ◌∷◌, None, Some, codes, refl}
use Rattle.desk_model.specs.declared.reply.Reply.TheVariants.{Keeper}
use Rattle.run_changes.specs.Import.Entries.{Entry, status_of, keeper_count}
use Rattle.run_changes.specs.Import.Order.{in_order}

-- digits are before letters, a beginning is before what begins with it, and a name stands as often as it is there
names_ascend : in_order (codes "b" ∷ codes "ab" ∷ codes "9" ∷ codes "a" ∷ codes "b" ∷ []) ≡ codes "9" ∷ codes "a" ∷ codes "ab" ∷ codes "b" ∷ codes "b" ∷ []
unfolding in_order
names_ascend = refl

abbrev skipped : Entry
skipped = record { name = codes "notes.txt"; reply = None }

abbrev unkept : Entry
unkept = record { name = codes "1000-bulb.json"; reply = Some Keeper }

-- a name that is skipped takes nothing from the status
keeper_counts : status_of (unkept ∷ skipped ∷ unkept ∷ []) ≡ 7
keeper_counts = refl

each_is_counted : keeper_count (unkept ∷ skipped ∷ unkept ∷ []) ≡ 2
each_is_counted = refl
