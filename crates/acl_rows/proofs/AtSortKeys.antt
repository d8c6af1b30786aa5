-- At each sort key the rows have what is asked there.
use Rattle.std.proofs.Common.{◌≡◌, ℕ, Bool, true, false, cond, List, [], Option, Some, None, refl, ap, subst, ◌∙◌}
use Rattle.std.specs.List.{list_any}
use Rattle.std.specs.Option.{option_map}
use Rattle.base_rows.specs.Sortable.{row_at, SortKeysAscend}
use Rattle.base_rows.proofs.SortableLaws.{same_sort_key_exact, ascend-set_rows}
use Rattle.base_rows.proofs.RowSets.{row_at-set_alike}
use Rattle.mud_base.specs.declared.addr.Addr.{Addr}
use Rattle.mud_base.specs.declared.packet.Direction.{Direction}
use Rattle.acl_model.specs.declared.binding.Binding.{Binding}
use Rattle.acl_rows.specs.declared.row.Owner.{Owner}
use Rattle.acl_rows.specs.declared.row.Row.{Row}
use Rattle.acl_rows.specs.SortKeys.{row_sort_key, sort_key_at}
use Rattle.acl_rows.specs.Rows.{row, Slots, all_rows, rows_of, expiry_at}
use Rattle.acl_rows.proofs.Coordinates.{AreSame, same_coordinates}
use Rattle.acl_rows.proofs.Lists.{all_implied}
use Rattle.acl_rows.proofs.Sound.{IsAsked, asked, all_rows_sound, all_rows_complete}

cond_none : {A : Type 0} (b : Bool) → cond b (let o : Option A = None in o) None ≡ None
cond_none true = refl
cond_none false = refl

module _ (slots : Slots) (bindings : List Binding) where
  -- the rows that stand at a sort key are the one that is asked for
  alike : (owner : Owner) (side : Direction) (a : Addr) (n : ℕ) (r : Row) → IsAsked slots bindings r → asked owner side a n r ≡ true → option_map (row owner side a n) (expiry_at slots bindings owner side a n) ≡ Some r
  unfolding row row_sort_key
  alike owner side a n r is stands =
      let same : AreSame r.owner owner r.side side r.addr a r.entry n = same_coordinates r.owner owner r.side side r.addr a r.entry n (same_sort_key_exact (row_sort_key r) (sort_key_at owner side a n) stands) in
      let all : option_map (row r.owner r.side r.addr r.entry) (expiry_at slots bindings r.owner r.side r.addr r.entry) ≡ Some r = ap (option_map (row r.owner r.side r.addr r.entry)) is in
      let one : option_map (row owner r.side r.addr r.entry) (expiry_at slots bindings owner r.side r.addr r.entry) ≡ Some r = subst (λ (o : Owner). option_map (row o r.side r.addr r.entry) (expiry_at slots bindings o r.side r.addr r.entry) ≡ Some r) same.owner all in
      let two : option_map (row owner side r.addr r.entry) (expiry_at slots bindings owner side r.addr r.entry) ≡ Some r = subst (λ (s : Direction). option_map (row owner s r.addr r.entry) (expiry_at slots bindings owner s r.addr r.entry) ≡ Some r) same.side one in
      let three : option_map (row owner side a r.entry) (expiry_at slots bindings owner side a r.entry) ≡ Some r = subst (λ (x : Addr). option_map (row owner side x r.entry) (expiry_at slots bindings owner side x r.entry) ≡ Some r) same.addr two in
      subst (λ (m : ℕ). option_map (row owner side a m) (expiry_at slots bindings owner side a m) ≡ Some r) same.number three

  found_by : (owner : Owner) (side : Direction) (a : Addr) (n : ℕ) (o : Option ℕ) → expiry_at slots bindings owner side a n ≡ o → cond (list_any (asked owner side a n) (all_rows slots bindings)) (option_map (row owner side a n) o) None ≡ option_map (row owner side a n) o
  found_by owner side a n None e = cond_none (list_any (asked owner side a n) (all_rows slots bindings))
  found_by owner side a n (Some u) e = ap (λ b. cond b (Some (row owner side a n u)) None) (all_rows_complete slots bindings owner side a n u e)

  -- at each sort key the rows have what is asked there
  pub row_at-rows_of : (owner : Owner) (side : Direction) (a : Addr) (n : ℕ) → row_at row_sort_key (sort_key_at owner side a n) (rows_of slots bindings) ≡ option_map (row owner side a n) (expiry_at slots bindings owner side a n)
  unfolding rows_of
  row_at-rows_of owner side a n =
      row_at-set_alike row_sort_key (sort_key_at owner side a n) (option_map (row owner side a n) (expiry_at slots bindings owner side a n)) (all_rows slots bindings) []
      (all_implied (IsAsked slots bindings) (λ (r : Row). asked owner side a n r ≡ true → option_map (row owner side a n) (expiry_at slots bindings owner side a n) ≡ Some r) (alike owner side a n) (all_rows slots bindings) (all_rows_sound slots bindings))
      ∙ found_by owner side a n (expiry_at slots bindings owner side a n) refl

  pub ascend-rows_of : SortKeysAscend row_sort_key (rows_of slots bindings)
  unfolding rows_of
  ascend-rows_of = ascend-set_rows row_sort_key (all_rows slots bindings) [] tt
