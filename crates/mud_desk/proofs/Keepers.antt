-- The items of a keeper after a batch.
use Rattle.std.proofs.Common.{◌≡◌, ◌≢◌, ◌∙◌, inl, List, [], ◌∷◌, refl, sym, ap, subst}
use Rattle.mud_world.specs.declared.keeper.Keeper.{Ghosts}
use Rattle.mud_world.specs.declared.item.Item.{Item}
use Rattle.mud_world.specs.declared.item.Put.{Put}
use Rattle.mud_world.specs.Items.{put_all}
use Rattle.mud_world.specs.Kept.{Tells, kept_items, IsOpen, Rests}
use Rattle.desk_model.specs.DeskTables.{DeskTables}
use Rattle.desk_model.specs.Items.{items_of}
use Rattle.desk_model.specs.Kept.{IsKept, IsOrAfter}

module _ {K : Type 0} (members : Ghosts K) (keeper after : K) where
  -- what a crash leaves behind a batch that was kept, or behind none
  left_after : (before now : DeskTables) (batch : List Put) → IsKept members keeper before
      → (batch ≡ [] → after ≡ keeper) → (batch ≡ [] → now ≡ before) → (batch ≢ [] → Rests members after)
      → (Tells members after → kept_items members after ≡ items_of now)
      → (list : List Item) → members.left after list → IsOrAfter now list
  left_after before now [] kept none same rests items list left =
      subst (λ (desk : DeskTables). IsOrAfter desk list) (sym (same refl)) (kept.crash list (subst (λ (it : K). members.left it list) (none refl) left))
  left_after before now (put ∷ puts) kept none same rests items list left =
      let rested = rests (λ e. absurd (let f = e in cc)) list left in
      inl (rested.1 ∙ items rested.0)

  pub kept_after : (before now : DeskTables) (batch : List Put) → IsKept members keeper before → IsOpen members after → (Tells members after → Tells members keeper)
      → (Tells members after → kept_items members after ≡ put_all (kept_items members keeper) batch) → put_all (items_of before) batch ≡ items_of now
      → (batch ≡ [] → after ≡ keeper) → (batch ≡ [] → now ≡ before) → (batch ≢ [] → Rests members after) → IsKept members after now
  kept_after before now batch kept is_open told put reaches none same rests =
      let items : Tells members after → kept_items members after ≡ items_of now =
      λ tells. put tells ∙ ap (λ (xs : List Item). put_all xs batch) (kept.items (told tells)) ∙ reaches in
      record { is_open = is_open; items = items; crash = left_after before now batch kept none same rests items }
