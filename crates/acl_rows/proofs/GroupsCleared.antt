-- What a clearing of the groups makes of the addresses.
use Rattle.std.proofs.Common.{◌≡◌, ℕ, suc, ◌*◌, ◌≤◌, ◌<◌, max, Bool, true, false, cond, ◌||◌, List, [], ◌∷◌, length, refl, sym, ap, subst, ◌∙◌, arith}
use Rattle.std.specs.Prelude.{filter, nat_lt}
use Rattle.std.specs.List.{AllByRecursion, list_any}
use Rattle.std.proofs.lemmas.Bool.{lt-ltb}
use Rattle.base_rows.specs.Sortable.{RowsAndRoom}
use Rattle.mud_base.specs.declared.packet.Direction.{Direction}
use Rattle.acl_rows.specs.declared.row.Owner.{Owner}
use Rattle.acl_rows.specs.declared.row.Row.{Row}
use Rattle.acl_rows.specs.View.{is_at}
use Rattle.acl_rows.specs.ByAddress.{IsCleared, has_row, grouped}
use Rattle.acl_rows.specs.Groups.{Groups, has_rows, group_room, part_at, room_in, AreGrouped}
use Rattle.acl_rows.proofs.GroupLaws.{Group, every, here, grouped_at}

any_by : (p : Row → Bool) (x : Row) (xs : List Row) → list_any p xs ≡ nat_lt 0 (length (filter p xs)) → (b : Bool) → (b || list_any p xs) ≡ nat_lt 0 (length (cond b (x ∷ filter p xs) (filter p xs)))
any_by p x xs rest true = sym (lt-ltb 0 (suc (length (filter p xs))) (omega arith))
any_by p x xs rest false = rest

any_passes : (p : Row → Bool) (xs : List Row) → list_any p xs ≡ nat_lt 0 (length (filter p xs))
any_passes p [] = refl
any_passes p (x ∷ xs) = any_by p x xs (any_passes p xs) (p x)

pub room_len : (gs : Groups) → length (room_in gs) ≡ length gs
unfolding room_in
room_len [] = refl
room_len (g ∷ gs) = ap suc (room_len gs)

left_by : (rows : List Row) (g : Group) (gs kept : Groups) → room_in kept ≡ filter (has_row rows) (room_in gs) → (b : Bool) → has_row rows (group_room g) ≡ b → room_in (cond b (g ∷ kept) kept) ≡ cond (has_row rows (group_room g)) (group_room g ∷ filter (has_row rows) (room_in gs)) (filter (has_row rows) (room_in gs))
unfolding room_in
left_by rows g gs kept rest true e = ap (λ rs. group_room g ∷ rs) rest ∙ sym (ap (λ (b : Bool). cond b (group_room g ∷ filter (has_row rows) (room_in gs)) (filter (has_row rows) (room_in gs))) e)
left_by rows g gs kept rest false e = rest ∙ sym (ap (λ (b : Bool). cond b (group_room g ∷ filter (has_row rows) (room_in gs)) (filter (has_row rows) (room_in gs))) e)

room_left : (rows : List Row) (gs : Groups) → AllByRecursion (λ g. has_row rows (group_room g) ≡ has_rows g) gs → room_in (filter has_rows gs) ≡ filter (has_row rows) (room_in gs)
unfolding room_in
room_left rows [] each = refl
room_left rows (g ∷ gs) each = left_by rows g gs (filter has_rows gs) (room_left rows gs each.1) (has_rows g) each.0

module _ (owner : Owner) (side : Direction) where
  has_row_here : (gs : Groups) → AreGrouped owner side gs → (g : Group) → part_at g.0 gs ≡ g.1 → has_row (grouped gs) (group_room g) ≡ has_rows g
  unfolding has_row is_at
  has_row_here gs are g at =
      any_passes (is_at g.0) (grouped gs)
      ∙ ap (λ (rows : List Row). nat_lt 0 (length rows)) (grouped_at owner side g.0 gs are)
      ∙ ap (λ (p : RowsAndRoom Row). nat_lt 0 (length p.rows)) at

  -- of the groups that are cleared the addresses are
  pub addresses_cleared : (old new : Groups) (limit next : ℕ) → AreGrouped owner side old → IsCleared has_rows old new limit next → IsCleared (has_row (grouped old)) (room_in old) (room_in new) limit next
  addresses_cleared old new limit next are is =
      let was : length (room_in old) ≡ length old = room_len old in
      let now : length (room_in new) ≡ length new = room_len new in
      record {
        stay = λ few. ap room_in (is.stay (subst (λ n. n < limit) was few));
        stays = λ few. is.stays (subst (λ n. n < limit) was few);
        left = λ many.
            ap room_in (is.left (subst (λ n. limit ≤ n) was many))
            ∙ room_left (grouped old) old (every owner side (λ g. has_row (grouped old) (group_room g) ≡ has_rows g) old (λ k g at. has_row_here old are g (here owner side old are k g at)));
        next = λ many. is.next (subst (λ n. limit ≤ n) was many) ∙ ap (λ n. max 16 (2 * n)) (sym now);
      }
