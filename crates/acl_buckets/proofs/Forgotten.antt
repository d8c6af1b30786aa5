-- Addresses without rows go in the buckets of the edits.
use Rattle.std.proofs.Common.{◌≡◌, ℕ, zero, suc, ◌+◌, ◌<◌, ◌≤◌, Bool, List, [], ◌∷◌, ◌++◌, length, set, get_or, inl, inr, refl, sym, ap, subst, ◌∙◌, arith}
use Rattle.std.specs.List.{AllByRecursion}
use Rattle.std.proofs.lemmas.Bool.{cases_eq}
use Rattle.mud_base.specs.declared.packet.Direction.{Direction}
use Rattle.base_rows.specs.declared.edit.Edit.{Edit}
use Rattle.acl_rows.specs.declared.row.Owner.{Owner}
use Rattle.acl_rows.specs.declared.row.Row.{Row}
use Rattle.acl_rows.specs.View.{rows_of_side}
use Rattle.acl_rows.specs.ByAddress.{SideRows, IsCleared, has_row}
use Rattle.acl_rows.proofs.Lists.{all_implied}
use Rattle.acl_buckets.specs.RowBuckets.{bucket_number, addresses_of, limit_of, AreForgotten}
use Rattle.acl_buckets.specs.RowParts.{row_number, Parts, nothing, part_at, joined, room_in, limits_in, seen, AreSorted, HaveSameRoom, TakeAtMost, IsClearedAt}
use Rattle.acl_buckets.proofs.RowPartLaws.{part_read, set_here, set_other, side_joined}

-- ---- The addresses and the limit of a bucket

addresses_there : (parts : Parts) (o : Owner) (s : Direction) → addresses_of o s (seen parts) ≡ (part_at parts (bucket_number o s)).room
unfolding addresses_of room_in part_at
addresses_there parts o s = at parts (bucket_number o s)
  where
    at : (parts : Parts) (k : ℕ) → get_or (room_in parts) k [] ≡ (get_or parts k nothing).room
    at [] k = refl
    at (x ∷ xs) zero = refl
    at (x ∷ xs) (suc k) = at xs k

limit_there : (parts : Parts) (o : Owner) (s : Direction) → limit_of o s (seen parts) ≡ (part_at parts (bucket_number o s)).limit
unfolding limit_of limits_in part_at
limit_there parts o s = at parts (bucket_number o s)
  where
    at : (parts : Parts) (k : ℕ) → get_or (limits_in parts) k 16 ≡ (get_or parts k nothing).limit
    at [] k = refl
    at (x ∷ xs) zero = refl
    at (x ∷ xs) (suc k) = at xs k

pub room_none : (parts : Parts) → parts ≡ [] → room_in parts ≡ []
unfolding room_in
room_none parts empty = ap room_in empty

-- a bucket is written that has the same limit
pub limits_set : (parts : Parts) (k : ℕ) (x part : SideRows) → k < length parts → x ≡ get_or parts k x → part.limit ≡ x.limit → limits_in (set parts k part) ≡ limits_in parts
unfolding limits_in
limits_set [] k x part lt read same = absurd (omega arith)
limits_set (y ∷ ys) zero x part lt read same = ap (λ n. n ∷ limits_in ys) (same ∙ ap (λ (p : SideRows). p.limit) read)
limits_set (y ∷ ys) (suc k) x part lt read same = ap (λ ns. y.limit ∷ ns) (limits_set ys k x part (omega arith) read same)

-- ---- Buckets are added

pub same_itself : (parts : Parts) → HaveSameRoom parts parts
same_itself parts k = (refl, refl)

pub same_twice : (a b c : Parts) → HaveSameRoom a b → HaveSameRoom b c → HaveSameRoom a c
same_twice a b c first second k = ((second k).0 ∙ (first k).0, (second k).1 ∙ (first k).1)

-- one bucket more, in which there is nothing
pub same_push : (parts : Parts) (s : SideRows) → s.room ≡ [] → s.limit ≡ 16 → HaveSameRoom parts (parts ++ s ∷ [])
unfolding part_at
same_push [] s none limit zero = (none, limit)
same_push [] s none limit (suc k) = (refl, refl)
same_push (x ∷ xs) s none limit zero = (refl, refl)
same_push (x ∷ xs) s none limit (suc k) = same_push xs s none limit k

-- ---- Addresses come

pub take_itself : (n : ℕ) (parts : Parts) → TakeAtMost n parts parts
take_itself n parts k = (omega arith, refl)

pub take_twice : (m n : ℕ) (a b c : Parts) → TakeAtMost m a b → TakeAtMost n b c → TakeAtMost (m + n) a c
take_twice m n a b c first second k = (omega (arith, (first k).0, (second k).0), (second k).1 ∙ (first k).1)

pub take_fewer : (m n : ℕ) (a b : Parts) → m ≤ n → TakeAtMost m a b → TakeAtMost n a b
take_fewer m n a b le few k = (omega (arith, (few k).0, le), (few k).1)

-- in one bucket at most one more
pub take_set : (parts : Parts) (number : ℕ) (x part : SideRows) → number < length parts → x ≡ get_or parts number x → length part.room ≤ length x.room + 1 → part.limit ≡ x.limit → TakeAtMost 1 parts (set parts number part)
take_set parts number x part lt read most limit k = elim (cases_eq k number) [
  | inl same ↦
      let here : (part_at parts k) ≡ x = ap (part_at parts) same ∙ sym (part_read parts number x lt read) in
      let there : part_at (set parts number part) k ≡ part = ap (part_at (set parts number part)) same ∙ set_here parts number part lt in
      (omega (arith, ap (λ (p : SideRows). length p.room) here, ap (λ (p : SideRows). length p.room) there, most), ap (λ (p : SideRows). p.limit) there ∙ limit ∙ sym (ap (λ (p : SideRows). p.limit) here))
  | inr other ↦
      let stays : part_at (set parts number part) k ≡ part_at parts k = set_other parts number k part other in
      (omega (arith, ap (λ (p : SideRows). length p.room) stays), ap (λ (p : SideRows). p.limit) stays)
]

-- ---- All together

recast : {A : Type 0} (p q : A → Bool) (a b c : List A) (l m n o : ℕ) → p ≡ q → a ≡ b → l ≡ m → n ≡ o → IsCleared p a c l n → IsCleared q b c m o
recast p q a b c l m n o ep ea el en is =
    subst (λ x. IsCleared q b c m x) en
    (subst (λ x. IsCleared q b c x n) el
    (subst (λ x. IsCleared q x c l n) ea
    (subst (λ x. IsCleared x a c l n) ep is)))

module _ (edits : List (Edit Row)) (old more cleared new : Parts) (sorted : AreSorted more) (rows : joined more ≡ joined old) (same : HaveSameRoom old more) (few : TakeAtMost (length edits) cleared new) where
  one_forgotten : (e : Edit Row) → IsClearedAt more cleared e → AreForgotten edits (seen old) (seen new) e
  unfolding row_number
  one_forgotten e is =
      let o : Owner = e.row.owner in
      let s : Direction = e.row.side in
      let k : ℕ = bucket_number o s in
      record {
        left = (part_at cleared k).room;
        cleared =
            recast (has_row (part_at more k).rows) (has_row (rows_of_side o s (joined old))) (part_at more k).room (addresses_of o s (seen old)) (part_at cleared k).room (part_at more k).limit (limit_of o s (seen old)) (part_at cleared k).limit (limit_of o s (seen new))
            (ap has_row (sym (side_joined o s more sorted) ∙ ap (rows_of_side o s) rows))
            ((same k).0 ∙ sym (addresses_there old o s))
            ((same k).1 ∙ sym (limit_there old o s))
            (sym (few k).1 ∙ sym (limit_there new o s))
            is;
        most = omega (arith, (few k).0, ap length (addresses_there new o s));
      }

  pub all_forgotten : AllByRecursion (IsClearedAt more cleared) edits → AllByRecursion (AreForgotten edits (seen old) (seen new)) edits
  all_forgotten all = all_implied (IsClearedAt more cleared) (AreForgotten edits (seen old) (seen new)) one_forgotten edits all
