-- What a clearing of the buckets makes of the keys.
use Rattle.std.proofs.Common.{◌≡◌, ℕ, suc, ◌+◌, ◌*◌, ◌<◌, ◌≤◌, max, Bool, true, false, cond, List, [], ◌∷◌, length, Some, refl, sym, ap, subst, ◌∙◌, arith}
use Rattle.std.specs.Prelude.{filter, nat_lt}
use Rattle.std.specs.List.{AllByRecursion, slice_get}
use Rattle.base_rows.specs.Sortable.{RowsAndRoom}
use Rattle.base_rows.specs.declared.edit.Edit.{Edit}
use Rattle.base_rows.proofs.SortableLaws.{row_at_row}
use Rattle.acl_model.specs.declared.binding.MemberKey.{MemberKey}
use Rattle.acl_model.specs.declared.binding.Binding.{Binding}
use Rattle.acl_model.specs.SortKeys.{member_sort_key}
use Rattle.acl_rows.specs.ByAddress.{IsCleared}
use Rattle.acl_buckets.specs.declared.binding_parts.Bucket.{Bucket}
use Rattle.acl_buckets.specs.BindingBuckets.{bindings_of_key, edits_of_key, has_binding, AreKeysCleared}
use Rattle.acl_buckets.specs.BindingParts.{bucket_sort_key, has_rows, has_bucket, key_room, part_of, part_at, joined, room_in, AreBucketed}
use Rattle.acl_buckets.proofs.KeysAdded.{key_there}
use Rattle.acl_buckets.proofs.KeyLaws.{tells_key}
use Rattle.acl_buckets.proofs.BindingPartLaws.{joined_under}

pub room_len : (ss : List Bucket) → length (room_in ss) ≡ length ss
unfolding room_in
room_len [] = refl
room_len (s ∷ ss) = ap suc (room_len ss)

pub room_none : (ss : List Bucket) → ss ≡ [] → room_in ss ≡ []
unfolding room_in
room_none ss empty = ap room_in empty

every : (Q : Bucket → Type 0) (ss : List Bucket) → ((k : ℕ) (s : Bucket) → slice_get ss k ≡ Some s → Q s) → AllByRecursion Q ss
every Q [] each = tt
every Q (s ∷ ss) each = (each 0 s refl, every Q ss (λ k x at. each (suc k) x at))

left_by : (rows : List Binding) (s : Bucket) (ss kept : List Bucket) → room_in kept ≡ filter (has_binding rows) (room_in ss) → (b : Bool) → has_binding rows (key_room s) ≡ b → room_in (cond b (s ∷ kept) kept) ≡ cond (has_binding rows (key_room s)) (key_room s ∷ filter (has_binding rows) (room_in ss)) (filter (has_binding rows) (room_in ss))
unfolding room_in
left_by rows s ss kept rest true e = ap (λ rs. key_room s ∷ rs) rest ∙ sym (ap (λ (b : Bool). cond b (key_room s ∷ filter (has_binding rows) (room_in ss)) (filter (has_binding rows) (room_in ss))) e)
left_by rows s ss kept rest false e = rest ∙ sym (ap (λ (b : Bool). cond b (key_room s ∷ filter (has_binding rows) (room_in ss)) (filter (has_binding rows) (room_in ss))) e)

room_left : (rows : List Binding) (ss : List Bucket) → AllByRecursion (λ s. has_binding rows (key_room s) ≡ has_rows s) ss → room_in (filter has_rows ss) ≡ filter (has_binding rows) (room_in ss)
unfolding room_in
room_left rows [] each = refl
room_left rows (s ∷ ss) each = left_by rows s ss (filter has_rows ss) (room_left rows ss each.1) (has_rows s) each.0

here : (ss : List Bucket) → AreBucketed ss → (k : ℕ) (s : Bucket) → slice_get ss k ≡ Some s → part_at (member_sort_key s.key) ss ≡ s.bindings
unfolding part_at bucket_sort_key
here ss are k s at = ap part_of (row_at_row bucket_sort_key ss k s are.ascend at)

has_binding_here : (ss : List Bucket) → AreBucketed ss → (s : Bucket) → part_at (member_sort_key s.key) ss ≡ s.bindings → has_binding (joined ss) (key_room s) ≡ has_rows s
unfolding has_binding bindings_of_key
has_binding_here ss are s at =
    ap (λ (rows : List Binding). nat_lt 0 (length rows)) (joined_under (member_sort_key s.key) (tells_key s.key) ss are)
    ∙ ap (λ (p : RowsAndRoom Binding). nat_lt 0 (length p.rows)) at

-- of the buckets that are cleared the keys are
keys_cleared : (old new : List Bucket) (limit next : ℕ) → AreBucketed old → IsCleared has_rows old new limit next → IsCleared (has_binding (joined old)) (room_in old) (room_in new) limit next
keys_cleared old new limit next are is =
    let was : length (room_in old) ≡ length old = room_len old in
    let now : length (room_in new) ≡ length new = room_len new in
    record {
      stay = λ few. ap room_in (is.stay (subst (λ n. n < limit) was few));
      stays = λ few. is.stays (subst (λ n. n < limit) was few);
      left = λ many.
          ap room_in (is.left (subst (λ n. limit ≤ n) was many))
          ∙ room_left (joined old) old (every (λ s. has_binding (joined old) (key_room s) ≡ has_rows s) old (λ k s at. has_binding_here old are s (here old are k s at)));
      next = λ many. is.next (subst (λ n. limit ≤ n) was many) ∙ ap (λ n. max 16 (2 * n)) (sym now);
    }

-- after that as many buckets come as told
pub keys_view : (edits : List (Edit Binding)) (old mid new : List Bucket) (limit next : ℕ) → AreBucketed old → IsCleared has_rows old mid limit next → length new ≤ length mid + length edits → ((key : MemberKey) → edits_of_key key edits ≡ [] → has_bucket (member_sort_key key) new ≡ has_bucket (member_sort_key key) mid)
    → AreKeysCleared edits (record { rows = joined old; room = room_in old; limit = limit }) (record { rows = joined new; room = room_in new; limit = next })
keys_view edits old mid new limit next are is most others = record {
  left = room_in mid;
  cleared = keys_cleared old mid limit next are is;
  most = omega (arith, room_len mid, room_len new, most);
  others = λ key none. key_there key new ∙ others key none ∙ sym (key_there key mid);
}
