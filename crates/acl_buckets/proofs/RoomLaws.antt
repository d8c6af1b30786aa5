-- Room for each edit, and buckets for all of them.
use Rattle.std.proofs.Common.{◌≡◌, ℕ, zero, suc, ◌+◌, ◌-◌, ◌<◌, ◌≤◌, Bool, true, false, cond, ◌⊎◌, inl, inr, List, [], ◌∷◌, ◌++◌, length, set, get_or, take, slice_get, Some, None, refl, sym, ap, subst, ◌∙◌, arith}
use Rattle.std.specs.List.{AllByRecursion}
use Rattle.std.specs.declared.cmp.Ordering.TheVariants.{Less, Greater}
use Rattle.std.proofs.lemmas.Bool.{cases_eq, cases_lt}
use Rattle.std.proofs.lemmas.Option.{none-some, same_Some}
use Rattle.std.proofs.lemmas.List.{length-set, take_more, take_all}
use Rattle.base_rows.specs.Sortable.{sort_key_cmp, is_under, rows_under, SortKeysAscend, SortKeysAbove}
use Rattle.base_rows.proofs.SortableLaws.{sort_key_cmp_turned}
use Rattle.base_rows.proofs.Lists.{all_push}
use Rattle.mud_base.specs.declared.addr.Addr.{Addr}
use Rattle.mud_base.specs.declared.packet.Direction.{Direction}
use Rattle.base_rows.specs.declared.edit.Edit.{Edit}
use Rattle.base_rows.specs.Edits.{edit_sort_key, edited}
use Rattle.acl_rows.specs.declared.row.Owner.{Owner}
use Rattle.acl_rows.specs.declared.row.Peer.{Peer}
use Rattle.acl_rows.specs.declared.row.Row.{Row}
use Rattle.acl_rows.specs.declared.row.RowKey.{RowKey}
use Rattle.acl_rows.specs.SortKeys.{peer_sort_key, row_sort_key}
use Rattle.acl_rows.specs.ByAddress.{SideRows, room_at, IsRowAt, IsEditAt, IsRoomier}
use Rattle.acl_rows.proofs.Lists.{all_implied}
use Rattle.acl_buckets.specs.RowBuckets.{bucket_number, edits_of_peer, HasRoom}
use Rattle.acl_buckets.specs.RowParts.{row_number, Parts, part_at, joined, room_in, AreSorted, AreKept, AreRoomier, HasRoomFor, HaveBuckets}
use Rattle.acl_buckets.proofs.Numbers.{rows_rise}
use Rattle.acl_buckets.proofs.Beside.{peer_is}
use Rattle.acl_buckets.proofs.RowPartLaws.{part_read, set_here, set_other}
use Rattle.acl_buckets.proofs.RunLaws.{AreEdited, joined_edited, sorted_edited, room_is}

-- ---- All rows stay

pub kept_itself : (parts : Parts) → AreSorted parts → AreKept parts parts
kept_itself parts sorted = record { sorted = sorted; rows = refl; len = omega arith }

pub kept_twice : (a b c : Parts) → AreKept a b → AreKept b c → AreKept a c
kept_twice a b c first second = record { sorted = second.sorted; rows = second.rows ∙ first.rows; len = omega (arith, first.len, second.len) }

no_edit : (parts : Parts) (k : ℕ) (x part : SideRows) → k < length parts → x ≡ get_or parts k x → part.owner ≡ x.owner → part.side ≡ x.side → part.rows ≡ x.rows → AreEdited k [] parts (set parts k part)
unfolding edited
no_edit parts k x part lt read owner side rows =
    let here : x ≡ part_at parts k = part_read parts k x lt read in
    record {
      part = part;
      own = tt;
      within = lt;
      set_is = refl;
      owner_is = owner ∙ ap (λ (p : SideRows). p.owner) here;
      side_is = side ∙ ap (λ (p : SideRows). p.side) here;
      rows = rows ∙ ap (λ (p : SideRows). p.rows) here;
    }

-- the rows of one bucket stay
pub kept_set : (parts : Parts) (k : ℕ) (x part : SideRows) → AreSorted parts → k < length parts → x ≡ get_or parts k x → part.owner ≡ x.owner → part.side ≡ x.side → part.rows ≡ x.rows → AreKept parts (set parts k part)
unfolding edited
kept_set parts k x part sorted lt read owner side rows =
    let is : AreEdited k [] parts (set parts k part) = no_edit parts k x part lt read owner side rows in
    record {
      sorted = sorted_edited k [] parts (set parts k part) is sorted;
      rows = joined_edited k [] parts (set parts k part) is sorted;
      len = omega (arith, length-set parts k part);
    }

-- one empty bucket more
joined_push : (parts : Parts) (s : SideRows) → s.rows ≡ [] → joined (parts ++ s ∷ []) ≡ joined parts
unfolding joined
joined_push [] s none = ap (λ (rows : List Row). rows ++ []) none
joined_push (x ∷ xs) s none = ap (λ (rows : List Row). x.rows ++ rows) (joined_push xs s none)

push_own : (parts : Parts) (s : SideRows) (n : ℕ) → bucket_number s.owner s.side ≡ n + length parts → ((k : ℕ) → k < length parts → bucket_number (part_at parts k).owner (part_at parts k).side ≡ n + k)
    → (k : ℕ) → k < length (parts ++ s ∷ []) → bucket_number (part_at (parts ++ s ∷ []) k).owner (part_at (parts ++ s ∷ []) k).side ≡ n + k
unfolding part_at
push_own [] s n is own zero lt = omega (arith, is)
push_own [] s n is own (suc k) lt = absurd (omega arith)
push_own (x ∷ xs) s n is own zero lt = own 0 (omega arith)
push_own (x ∷ xs) s n is own (suc k) lt =
    let rest = push_own xs s (suc n) (omega (arith, is)) (λ j less. own (suc j) (omega arith) ∙ on_one n j) k (omega arith) in
    rest ∙ sym (on_one n k)
  where
    on_one : (n k : ℕ) → n + suc k ≡ suc n + k
    on_one n k = omega arith

push_each : (parts : Parts) (s : SideRows) (k : ℕ) → s.rows ≡ [] → (part_at (parts ++ s ∷ []) k).rows ≡ (part_at parts k).rows
unfolding part_at
push_each [] s zero none = none
push_each [] s (suc k) none = refl
push_each (x ∷ xs) s zero none = refl
push_each (x ∷ xs) s (suc k) none = push_each xs s k none

pub kept_push : (parts : Parts) (s : SideRows) → AreSorted parts → bucket_number s.owner s.side ≡ length parts → s.rows ≡ [] → AreKept parts (parts ++ s ∷ [])
kept_push parts s sorted is none = record {
  sorted = record {
    own = λ k lt. (let here : bucket_number (part_at (parts ++ s ∷ []) k).owner (part_at (parts ++ s ∷ []) k).side ≡ 0 + k = push_own parts s 0 (omega (arith, is)) (λ j less. omega (arith, sorted.own j less)) k lt in omega (arith, here));
    each = λ k. subst (AllByRecursion (λ r. row_number r ≡ k)) (sym (push_each parts s k none)) (sorted.each k);
    ascend = subst (SortKeysAscend row_sort_key) (sym (joined_push parts s none)) sorted.ascend;
  };
  rows = joined_push parts s none;
  len = longer parts s;
}
  where
    longer : (xs : Parts) (s : SideRows) → length xs ≤ length (xs ++ s ∷ [])
    longer [] s = omega arith
    longer (x ∷ xs) s = let rest : length xs ≤ length (xs ++ s ∷ []) = longer xs s in omega arith

-- ---- More room

pub roomier_itself : (parts : Parts) → AreSorted parts → AreRoomier parts parts
roomier_itself parts sorted = record { kept = kept_itself parts sorted; room = λ k a. omega arith }

pub roomier_twice : (a b c : Parts) → AreRoomier a b → AreRoomier b c → AreRoomier a c
roomier_twice a b c first second = record { kept = kept_twice a b c first.kept second.kept; room = λ k x. omega (arith, first.room k x, second.room k x) }

pub roomier_set : (parts : Parts) (k : ℕ) (x part : SideRows) → AreSorted parts → k < length parts → x ≡ get_or parts k x → IsRoomier x part → AreRoomier parts (set parts k part)
roomier_set parts k x part sorted lt read more = record {
  kept = kept_set parts k x part sorted lt read more.owner_is more.side_is more.rows;
  room = λ j a. elim (cases_eq j k) [
    | inl same ↦
        subst (λ (m : ℕ). room_at a (part_at parts m).room ≤ room_at a (part_at (set parts k part) m).room) (sym same)
        (subst (λ (p : SideRows). room_at a (part_at parts k).room ≤ room_at a p.room) (sym (set_here parts k part lt))
        (subst (λ (p : SideRows). room_at a p.room ≤ room_at a part.room) (part_read parts k x lt read) (more.room a)))
    | inr other ↦ subst (λ (p : SideRows). room_at a (part_at parts j).room ≤ room_at a p.room) (sym (set_other parts k j part other)) (omega arith)
  ];
}

-- ---- Where each edit has room, all have

module _ (o : Owner) (s : Direction) (a : Addr) (m r : ℕ) where
  none_by : (e : Edit Row) (es : List (Edit Row)) → (IsRowAt o s a e.row → m ≤ r) → (m ≤ r) ⊎ (length es ≡ 0) → (b : Bool) → is_under (edit_sort_key row_sort_key) (peer_sort_key o s a) e ≡ b → (m ≤ r) ⊎ (length (cond b (e ∷ es) es) ≡ 0)
  unfolding edit_sort_key
  none_by e es here rest true under = inl (here (peer_is o s a e.row under))
  none_by e es here rest false under = rest

  some_or_none : (es : List (Edit Row)) → AllByRecursion (λ e. IsRowAt o s a e.row → m ≤ r) es → (m ≤ r) ⊎ (length (edits_of_peer o s a es) ≡ 0)
  unfolding edits_of_peer
  some_or_none [] all = inr refl
  some_or_none (e ∷ es) all = none_by e (edits_of_peer o s a es) all.0 (some_or_none es all.1) (is_under (edit_sort_key row_sort_key) (peer_sort_key o s a) e) refl

-- there is room for the edits of this one's owner, side and address
abbrev pub HasOwnRoom : List (Edit Row) → Parts → Edit Row → Type 0
HasOwnRoom edits parts e = HasRoomFor e.row.owner e.row.side e.row.addr edits parts

own_room : (edits : List (Edit Row)) (parts : Parts) (o : Owner) (s : Direction) (a : Addr) (e : Edit Row) → HasOwnRoom edits parts e → IsRowAt o s a e.row → HasRoomFor o s a edits parts
own_room edits parts o s a e has is =
    let count : length (edits_of_peer e.row.owner e.row.side e.row.addr edits) ≡ length (edits_of_peer o s a edits) = λ i. length (edits_of_peer (is.owner_is i) (is.side_is i) (is.addr_is i) edits) in
    let room : room_at e.row.addr (part_at parts (bucket_number e.row.owner e.row.side)).room ≡ room_at a (part_at parts (bucket_number o s)).room = λ i. room_at (is.addr_is i) (part_at parts (bucket_number (is.owner_is i) (is.side_is i))).room in
    omega (arith, has, count, room)

pub room_for_all : (edits : List (Edit Row)) (parts : Parts) → AllByRecursion (HasOwnRoom edits parts) edits → (o : Owner) (s : Direction) (a : Addr) → HasRoomFor o s a edits parts
room_for_all edits parts all o s a =
    elim (some_or_none o s a (length (edits_of_peer o s a edits)) (room_at a (part_at parts (bucket_number o s)).room) edits
    (all_implied (HasOwnRoom edits parts) (λ e. IsRowAt o s a e.row → HasRoomFor o s a edits parts) (own_room edits parts o s a) edits all)) [
      | inl enough ↦ enough
      | inr none ↦ omega (arith, none)
    ]

pub has_room : (edits : List (Edit Row)) (parts : Parts) → AllByRecursion (HasOwnRoom edits parts) edits → HasRoom edits (room_in parts)
has_room edits parts all = record { each = λ o s a. omega (arith, room_for_all edits parts all o s a, room_is parts o s a) }

-- ---- One edit after the other

-- the edits before an index have their room
abbrev pub HaveOwnRoom : List (Edit Row) → Parts → ℕ → Type 0
HaveOwnRoom edits parts i = AllByRecursion (HasOwnRoom edits parts) (take i edits)

roomier_own : (edits : List (Edit Row)) (old new : Parts) → AreRoomier old new → (e : Edit Row) → HasOwnRoom edits old e → HasOwnRoom edits new e
roomier_own edits old new more e has = omega (arith, has, more.room (bucket_number e.row.owner e.row.side) e.row.addr)

pub next_room : (edits lent : List (Edit Row)) (old new : Parts) (i : ℕ) (e : Edit Row) → lent ≡ edits → AreRoomier old new → i < length lent → e ≡ get_or lent i e → HasOwnRoom edits new e → HaveOwnRoom edits old i → HaveOwnRoom edits new (i + 1)
next_room edits lent old new i e is more lt read here before =
    let lt' : i < length edits = subst (λ ws. i < length ws) is lt in
    let read' : e ≡ get_or edits i e = subst (λ ws. e ≡ get_or ws i e) is read in
    subst (AllByRecursion (HasOwnRoom edits new)) (sym (take_more edits i e lt' ∙ ap (λ x. take i edits ++ x ∷ []) (sym read')))
    (all_push (HasOwnRoom edits new) (take i edits) e (all_implied (HasOwnRoom edits old) (HasOwnRoom edits new) (roomier_own edits old new more) (take i edits) before) here)

pub all_room : (edits lent : List (Edit Row)) (parts : Parts) (i : ℕ) → lent ≡ edits → length lent ≤ i → HaveOwnRoom edits parts i → HasRoom edits (room_in parts)
all_room edits lent parts i is past before = has_room edits parts (subst (AllByRecursion (HasOwnRoom edits parts)) (take_all i edits (subst (λ ws. length ws ≤ i) is past)) before)

-- the room of the last owner, side and address is this edit's
pub same_room : (edits : List (Edit Row)) (parts : Parts) (o : Owner) (s : Direction) (a : Addr) (e : Edit Row) → is_under (edit_sort_key row_sort_key) (peer_sort_key o s a) e ≡ true → HasRoomFor o s a edits parts → HasOwnRoom edits parts e
unfolding edit_sort_key
same_room edits parts o s a e under has =
    let is : IsRowAt o s a e.row = peer_is o s a e.row under in
    let count : length (edits_of_peer e.row.owner e.row.side e.row.addr edits) ≡ length (edits_of_peer o s a edits) = λ i. length (edits_of_peer (is.owner_is i) (is.side_is i) (is.addr_is i) edits) in
    let room : room_at e.row.addr (part_at parts (bucket_number e.row.owner e.row.side)).room ≡ room_at a (part_at parts (bucket_number o s)).room = λ i. room_at (is.addr_is i) (part_at parts (bucket_number (is.owner_is i) (is.side_is i))).room in
    omega (arith, has, count, room)

-- ---- Room at one address more

-- the row's edit is of an owner, side and address
pub own_peer : (e : Edit Row) (key : RowKey) (peer : Peer) → key ≡ record { owner = e.row.owner; side = e.row.side; addr = e.row.addr; entry = e.row.entry } → peer ≡ record { owner = key.owner; side = key.side; addr = key.addr } → IsEditAt peer.owner peer.side peer.addr e
own_peer e key peer key_is is = record {
  owner_is = sym (ap (λ (p : Peer). p.owner) is ∙ ap (λ (k : RowKey). k.owner) key_is);
  side_is = sym (ap (λ (p : Peer). p.side) is ∙ ap (λ (k : RowKey). k.side) key_is);
  addr_is = sym (ap (λ (p : Peer). p.addr) is ∙ ap (λ (k : RowKey). k.addr) key_is);
}

pub own_within : (o : Owner) (s : Direction) (a : Addr) (e : Edit Row) (number n : ℕ) → IsEditAt o s a e → number ≡ bucket_number o s → bucket_number e.row.owner e.row.side < n → number < n
own_within o s a e number n own is lt =
    let same : bucket_number e.row.owner e.row.side ≡ bucket_number o s = λ i. bucket_number (own.owner_is i) (own.side_is i) in
    omega (arith, is, lt, same)

pub reserved_room : (edits : List (Edit Row)) (parts : Parts) (o : Owner) (s : Direction) (a : Addr) (e : Edit Row) (number more : ℕ) (part : SideRows) → IsEditAt o s a e → number ≡ bucket_number o s → number < length parts
    → more ≡ length (rows_under (edit_sort_key row_sort_key) (peer_sort_key o s a) edits) → more ≤ room_at a part.room → HasOwnRoom edits (set parts number part) e
unfolding edits_of_peer
reserved_room edits parts o s a e number more part own is lt count enough =
    let edits_are : length (edits_of_peer e.row.owner e.row.side e.row.addr edits) ≡ length (edits_of_peer o s a edits) = λ i. length (edits_of_peer (own.owner_is i) (own.side_is i) (own.addr_is i) edits) in
    let room : room_at e.row.addr (part_at (set parts number part) (bucket_number e.row.owner e.row.side)).room ≡ room_at a part.room =
    (λ i. room_at (own.addr_is i) (part_at (set parts number part) (bucket_number (own.owner_is i) (own.side_is i))).room)
    ∙ ap (λ (k : ℕ). room_at a (part_at (set parts number part) k).room) (sym is)
    ∙ ap (λ (p : SideRows). room_at a p.room) (set_here parts number part lt)
    in
    omega (arith, edits_are, room, count, enough)

-- the owner, side and address of this edit are the last ones
pub next_last : (edits : List (Edit Row)) (parts : Parts) (e : Edit Row) (peer p : Peer) → IsEditAt peer.owner peer.side peer.addr e → Some peer ≡ Some p → HasOwnRoom edits parts e → HasRoomFor p.owner p.side p.addr edits parts
next_last edits parts e peer p own is has =
    subst (λ (q : Peer). HasRoomFor q.owner q.side q.addr edits parts) (same_Some peer p is)
    (own_room edits parts peer.owner peer.side peer.addr e has (record { owner_is = own.owner_is; side_is = own.side_is; addr_is = own.addr_is }))

-- ---- Buckets

pub buckets_more : (edits : List (Edit Row)) (m n : ℕ) → m ≤ n → HaveBuckets edits m → HaveBuckets edits n
buckets_more edits m n le have = all_implied (λ e. row_number e.row < m) (λ e. row_number e.row < n) (λ e lt. omega (arith, lt, le)) edits have

all_read : {X : Type 0} (P : X → Type 0) (xs : List X) (i : ℕ) (x : X) → AllByRecursion P xs → i < length xs → x ≡ get_or xs i x → P x
all_read P [] i x all lt is = absurd (omega arith)
all_read P (y ∷ ys) zero x all lt is = subst P (sym is) all.0
all_read P (y ∷ ys) (suc i) x all lt is = all_read P ys i x all.1 (omega arith) is

pub row_number_is : (r : Row) → row_number r ≡ bucket_number r.owner r.side
unfolding row_number
row_number_is r = refl

pub bucket_of : (edits lent : List (Edit Row)) (n i : ℕ) (e : Edit Row) → lent ≡ edits → HaveBuckets edits n → i < length lent → e ≡ get_or lent i e → bucket_number e.row.owner e.row.side < n
bucket_of edits lent n i e is have lt read =
    subst (λ (k : ℕ). k < n) (row_number_is e.row)
    (all_read (λ x. row_number x.row < n) edits i e have (subst (λ ws. i < length ws) is lt) (subst (λ ws. e ≡ get_or ws i e) is read))

pub no_buckets : (edits : List (Edit Row)) (n : ℕ) → slice_get edits (length edits - 1) ≡ None → HaveBuckets edits n
no_buckets edits n none = subst (λ ws. HaveBuckets ws n) (sym (last_none edits none)) tt
  where
    some_at : (x : Edit Row) (xs : List (Edit Row)) → slice_get (x ∷ xs) (length xs) ≡ None → ⊥
    some_at x [] e = none-some x (sym e)
    some_at x (y ∷ ys) e = some_at y ys e

    one_less : (n : ℕ) → n ≡ suc n - 1
    one_less n = omega arith

    last_none : (xs : List (Edit Row)) → slice_get xs (length xs - 1) ≡ None → xs ≡ []
    last_none [] e = refl
    last_none (x ∷ xs) e = absurd (some_at x xs (ap (slice_get (x ∷ xs)) (one_less (length xs)) ∙ e))

not_less : Greater ≡ Less → ⊥
not_less h = cc

-- a row before another stands in no later bucket
no_later : (x y : Row) → sort_key_cmp (row_sort_key x) (row_sort_key y) ≡ Less → row_number x ≤ row_number y
no_later x y less = elim (cases_lt (row_number y) (row_number x)) [
  | inl later ↦ absurd (not_less (sym (sort_key_cmp_turned (row_sort_key x) (row_sort_key y) Less less) ∙ rows_rise y x later))
  | inr le ↦ le
]

above_at : (p : List ℕ) (es : List (Edit Row)) (i : ℕ) (e : Edit Row) → SortKeysAbove (edit_sort_key row_sort_key) p es → slice_get es i ≡ Some e → sort_key_cmp p (edit_sort_key row_sort_key e) ≡ Less
above_at p [] i e above at = absurd (none-some e at)
above_at p (y ∷ ys) zero e above at = subst (λ z. sort_key_cmp p (edit_sort_key row_sort_key z) ≡ Less) (same_Some y e at) above.0
above_at p (y ∷ ys) (suc i) e above at = above_at p ys i e above.1 at

buckets_to : (es : List (Edit Row)) (i n : ℕ) (e : Edit Row) → SortKeysAscend (edit_sort_key row_sort_key) es → slice_get es i ≡ Some e → length es ≤ i + 1 → row_number e.row < n → HaveBuckets es n
unfolding edit_sort_key
buckets_to [] i n e up at long lt = tt
buckets_to (x ∷ xs) zero n e up at long lt = (subst (λ z. row_number z.row < n) (sym (same_Some x e at)) lt, none_more xs (omega arith))
  where
    none_more : (xs : List (Edit Row)) → length xs ≤ 0 → HaveBuckets xs n
    none_more [] le = tt
    none_more (y ∷ ys) le = absurd (omega arith)
buckets_to (x ∷ xs) (suc i) n e up at long lt = (omega (arith, no_later x.row e.row (above_at (edit_sort_key row_sort_key x) xs i e up.0 at), lt), buckets_to xs i n e up.1 at (omega arith) lt)

-- there is a bucket for the last edit, so there is one for each
pub buckets_all : (edits lent : List (Edit Row)) (e : Edit Row) (number n : ℕ) → lent ≡ edits → SortKeysAscend (edit_sort_key row_sort_key) edits → slice_get lent (length lent - 1) ≡ Some e → number ≡ bucket_number e.row.owner e.row.side → number < n → HaveBuckets edits n
buckets_all edits lent e number n is up at number_is lt =
    buckets_to edits (length edits - 1) n e up (subst (λ ws. slice_get ws (length ws - 1) ≡ Some e) is at) (omega arith) (omega (arith, row_number_is e.row, number_is, lt))
