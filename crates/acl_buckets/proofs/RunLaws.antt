-- What edits of one owner, side and address, made at once, make of the buckets.
use Rattle.std.proofs.Common.{◌≡◌, ℕ, zero, suc, ◌+◌, ◌<◌, ◌≤◌, Bool, true, false, cond, List, [], ◌∷◌, ◌++◌, length, set, get_or, take, drop, inl, inr, refl, sym, ap, subst, ◌∙◌, arith, length-append, length-drop, length-take-le}
use Rattle.std.specs.Prelude.{filter}
use Rattle.std.specs.List.{AllByRecursion}
use Rattle.std.proofs.lemmas.Bool.{cases_eq}
use Rattle.std.proofs.lemmas.List.{length-set, take-append-drop}
use Rattle.std.proofs.lemmas.List.Elements.{filter-append}
use Rattle.base_rows.specs.Sortable.{is_under, index_in, set_row, without_row, SortKeysAbove, SortKeysBelow, SortKeysAscend}
use Rattle.base_rows.proofs.RowLaws.{all-set_row, all-without_row}
use Rattle.mud_base.specs.Addresses.{same_addr}
use Rattle.mud_base.specs.declared.addr.Addr.{Addr}
use Rattle.mud_base.specs.declared.packet.Direction.{Direction}
use Rattle.base_rows.specs.declared.edit.Edit.{Edit}
use Rattle.base_rows.specs.Edits.{edit_sort_key, edit_made, edited}
use Rattle.base_rows.proofs.EditLaws.{ascend-edited}
use Rattle.base_rows.proofs.EditRunLaws.{all_right, edited-append, edited_before, edited_behind}
use Rattle.acl_model.proofs.BindingLaws.{same_addr_exact}
use Rattle.acl_rows.specs.declared.row.Owner.{Owner}
use Rattle.acl_rows.specs.declared.row.Row.{Row}
use Rattle.acl_rows.specs.SortKeys.{peer_sort_key, row_sort_key}
use Rattle.acl_rows.specs.ByAddress.{SideRows, room_at, rows_of_peer, index_beside, IsEditAt}
use Rattle.acl_rows.proofs.Lists.{all_implied}
use Rattle.acl_buckets.specs.RowBuckets.{bucket_number, room_on, edits_of_peer, AreFoundBeside, HasRoom}
use Rattle.acl_buckets.specs.RowParts.{row_number, Parts, nothing, part_at, joined, room_in, AreSorted, AreLeft}
use Rattle.acl_buckets.proofs.Numbers.{AreOne, same_bucket}
use Rattle.acl_buckets.proofs.Beside.{peer_under}
use Rattle.acl_buckets.proofs.IndexLaws.{index_edited, above_right}
use Rattle.acl_buckets.proofs.RowPartLaws.{On, from_zero, first_on, rest_on, part_read, set_here, set_other, below_list, above_joined, peer_joined}

-- in a bucket these edits are made; the other buckets stay
pub record AreEdited (number : ℕ) (run : List (Edit Row)) (old new : Parts) : Type 0 where
  pub part : SideRows
  pub own : AllByRecursion (λ e. row_number e.row ≡ number) run
  pub within : number < length old
  pub set_is : new ≡ set old number part
  pub owner_is : part.owner ≡ (part_at old number).owner
  pub side_is : part.side ≡ (part_at old number).side
  pub rows : part.rows ≡ edited row_sort_key run (part_at old number).rows

-- ---- All rows

joined_set : (n : ℕ) (parts : Parts) (k : ℕ) (run : List (Edit Row)) (part : SideRows) → On n parts → AllByRecursion (λ e. row_number e.row ≡ n + k) run → k < length parts → part.rows ≡ edited row_sort_key run (part_at parts k).rows → joined (set parts k part) ≡ edited row_sort_key run (joined parts)
unfolding joined part_at
joined_set n [] k run part on own lt is = absurd (omega arith)
joined_set n (s ∷ ss) zero run part on own lt is =
    ap (λ (rows : List Row). rows ++ joined ss) is
    ∙ sym (edited_before row_sort_key run s.rows (joined ss) (all_implied (λ e. row_number e.row ≡ n + 0) (λ e. SortKeysAbove row_sort_key (row_sort_key e.row) (joined ss)) (λ e same. above_joined (suc n) ss e.row (rest_on n s ss on) (omega (arith, same))) run own))
joined_set n (s ∷ ss) (suc k) run part on own lt is =
    ap (λ (rows : List Row). s.rows ++ rows) (joined_set (suc n) ss k run part (rest_on n s ss on) (all_implied (λ e. row_number e.row ≡ n + suc k) (λ e. row_number e.row ≡ suc n + k) (λ e same. omega (arith, same)) run own) (omega arith) is)
    ∙ sym (edited_behind row_sort_key run s.rows (joined ss) (all_implied (λ e. row_number e.row ≡ n + suc k) (λ e. SortKeysBelow row_sort_key (row_sort_key e.row) s.rows) (λ e same. below_list e.row n s.rows (first_on n s ss on) (omega (arith, same))) run own))

-- ---- Rows stay in their buckets

all_by : (P : Row → Type 0) (e : Edit Row) (rows : List Row) → P e.row → AllByRecursion P rows → (b : Bool) → AllByRecursion P (cond b (set_row row_sort_key e.row rows) (without_row row_sort_key (row_sort_key e.row) rows))
all_by P e rows own all true = all-set_row row_sort_key P e.row rows own all
all_by P e rows own all false = all-without_row row_sort_key P (row_sort_key e.row) rows all

all_edited : (P : Row → Type 0) (run : List (Edit Row)) (rows : List Row) → AllByRecursion (λ e. P e.row) run → AllByRecursion P rows → AllByRecursion P (edited row_sort_key run rows)
unfolding edited edit_made
all_edited P [] rows own all = all
all_edited P (e ∷ es) rows own all = all_by P e (edited row_sort_key es rows) own.0 (all_edited P es rows own.1 all) e.comes

module _ (number : ℕ) (run : List (Edit Row)) (old new : Parts) (is : AreEdited number run old new) where
  part_here : part_at new number ≡ is.part
  part_here = ap (λ (ps : Parts). part_at ps number) is.set_is ∙ set_here old number is.part is.within

  part_other : (k : ℕ) → (k ≡ number → ⊥) → part_at new k ≡ part_at old k
  part_other k other = ap (λ (ps : Parts). part_at ps k) is.set_is ∙ set_other old number k is.part other

  -- in its bucket each edit is made, so it is made of all rows
  pub joined_edited : AreSorted old → joined new ≡ edited row_sort_key run (joined old)
  joined_edited sorted =
      ap joined is.set_is
      ∙ joined_set 0 old number run is.part (from_zero old sorted) (all_implied (λ e. row_number e.row ≡ number) (λ e. row_number e.row ≡ 0 + number) (λ e same. omega (arith, same)) run is.own) is.within is.rows

  own_here : AreSorted old → bucket_number (part_at new number).owner (part_at new number).side ≡ number
  own_here sorted =
      ap (λ (p : SideRows). bucket_number p.owner p.side) part_here
      ∙ (λ i. bucket_number (is.owner_is i) (is.side_is i))
      ∙ sorted.own number is.within

  each_here : AreSorted old → AllByRecursion (λ r. row_number r ≡ number) (part_at new number).rows
  each_here sorted =
      subst (λ (p : SideRows). AllByRecursion (λ r. row_number r ≡ number) p.rows) (sym part_here)
      (subst (AllByRecursion (λ r. row_number r ≡ number)) (sym is.rows) (all_edited (λ r. row_number r ≡ number) run (part_at old number).rows is.own (sorted.each number)))

  pub sorted_edited : AreSorted old → AreSorted new
  sorted_edited sorted = record {
    own = λ k lt. elim (cases_eq k number) [
      | inl same ↦ subst (λ (m : ℕ). bucket_number (part_at new m).owner (part_at new m).side ≡ m) (sym same) (own_here sorted)
      | inr other ↦ ap (λ (p : SideRows). bucket_number p.owner p.side) (part_other k other) ∙ sorted.own k (omega (arith, lt, ap length is.set_is, length-set old number is.part))
    ];
    each = λ k. elim (cases_eq k number) [
      | inl same ↦ subst (λ (m : ℕ). AllByRecursion (λ r. row_number r ≡ m) (part_at new m).rows) (sym same) (each_here sorted)
      | inr other ↦ subst (λ (p : SideRows). AllByRecursion (λ r. row_number r ≡ k) p.rows) (sym (part_other k other)) (sorted.each k)
    ];
    ascend = subst (SortKeysAscend row_sort_key) (sym (joined_edited sorted)) (ascend-edited row_sort_key run (joined old) sorted.ascend);
  }

-- ---- Sort keys before those of the edits keep their indices

pub found_left : (left run : List (Edit Row)) (rows : List Row) → SortKeysAscend row_sort_key rows → SortKeysAscend (edit_sort_key row_sort_key) (left ++ run) → AreFoundBeside rows (left ++ run) → AreFoundBeside (edited row_sort_key run rows) left
unfolding index_beside rows_of_peer edit_sort_key
found_left [] run rows up order found = tt
found_left (x ∷ xs) run rows up order found =
    (found.0 ∙ sym (index_edited row_sort_key (is_under row_sort_key (peer_sort_key x.row.owner x.row.side x.row.addr)) (row_sort_key x.row) run rows up (above_right (edit_sort_key row_sort_key) (row_sort_key x.row) xs run order.0)), found_left xs run rows up order.1 found.1)

-- ---- Room

-- how much room there is for rows of an owner, side and address
pub room_is : (parts : Parts) (o : Owner) (s : Direction) (a : Addr) → room_on (room_in parts) o s a ≡ room_at a (part_at parts (bucket_number o s)).room
unfolding room_on room_in part_at
room_is parts o s a = ap (room_at a) (at parts (bucket_number o s))
  where
    at : (parts : Parts) (k : ℕ) → get_or (room_in parts) k [] ≡ (get_or parts k nothing).room
    at [] k = refl
    at (x ∷ xs) zero = refl
    at (x ∷ xs) (suc k) = at xs k

-- where there is room, there is a bucket
room_within : (parts : Parts) (a : Addr) (k : ℕ) → 1 ≤ room_at a (part_at parts k).room → k < length parts
unfolding part_at room_at
room_within [] a k room = absurd (omega arith)
room_within (x ∷ xs) a zero room = omega arith
room_within (x ∷ xs) a (suc k) room = let rest : k < length xs = room_within xs a k room in omega arith

peer_more : (o : Owner) (s : Direction) (a : Addr) (left run : List (Edit Row)) → length (edits_of_peer o s a (left ++ run)) ≡ length (edits_of_peer o s a left) + length (edits_of_peer o s a run)
unfolding edits_of_peer
peer_more o s a left run =
    ap length (filter-append (is_under (edit_sort_key row_sort_key) (peer_sort_key o s a)) left run)
    ∙ length-append (filter (is_under (edit_sort_key row_sort_key) (peer_sort_key o s a)) left) (filter (is_under (edit_sort_key row_sort_key) (peer_sort_key o s a)) run)

pub edit_under : (o : Owner) (s : Direction) (a : Addr) (e : Edit Row) → IsEditAt o s a e → is_under (edit_sort_key row_sort_key) (peer_sort_key o s a) e ≡ true
unfolding edit_sort_key
edit_under o s a e is = peer_under o s a e.row (record { owner_is = is.owner_is; side_is = is.side_is; addr_is = is.addr_is })

own_kept : (o : Owner) (s : Direction) (a : Addr) (run : List (Edit Row)) → AllByRecursion (IsEditAt o s a) run → edits_of_peer o s a run ≡ run
unfolding edits_of_peer
own_kept o s a [] own = refl
own_kept o s a (e ∷ es) own =
    ap (λ (b : Bool). cond b (e ∷ filter (is_under (edit_sort_key row_sort_key) (peer_sort_key o s a)) es) (filter (is_under (edit_sort_key row_sort_key) (peer_sort_key o s a)) es)) (edit_under o s a e own.0)
    ∙ ap (λ ws. e ∷ ws) (own_kept o s a es own.1)

run_room : (o : Owner) (s : Direction) (a : Addr) (left run : List (Edit Row)) (parts : Parts) → AllByRecursion (IsEditAt o s a) run → HasRoom (left ++ run) (room_in parts) → length run ≤ room_at a (part_at parts (bucket_number o s)).room
run_room o s a left run parts own has = omega (arith, has.each o s a, room_is parts o s a, peer_more o s a left run, ap length (own_kept o s a run own))

-- ---- The bucket is there, has room, and each index is one in it

own_number : (o : Owner) (s : Direction) (a : Addr) (e : Edit Row) → IsEditAt o s a e → row_number e.row ≡ bucket_number o s
unfolding row_number
own_number o s a e is = λ i. bucket_number (is.owner_is i) (is.side_is i)

pub own_numbers : (o : Owner) (s : Direction) (a : Addr) (run : List (Edit Row)) → AllByRecursion (IsEditAt o s a) run → AllByRecursion (λ e. row_number e.row ≡ bucket_number o s) run
own_numbers o s a run own = all_implied (IsEditAt o s a) (λ e. row_number e.row ≡ bucket_number o s) (own_number o s a) run own

-- the edits may be made in this bucket
pub record IsReady (a : Addr) (run : List (Edit Row)) (x : SideRows) : Type 0 where
  pub own : AllByRecursion (IsEditAt x.owner x.side a) run
  pub room : length run ≤ room_at a x.room
  pub found : AllByRecursion (λ e. e.found ≡ index_beside x.owner x.side a (row_sort_key e.row) x.rows) run

found_on : (o : Owner) (s : Direction) (a : Addr) (parts : Parts) (run : List (Edit Row)) → AreSorted parts → AllByRecursion (IsEditAt o s a) run → AreFoundBeside (joined parts) run → AllByRecursion (λ e. e.found ≡ index_beside o s a (row_sort_key e.row) (part_at parts (bucket_number o s)).rows) run
unfolding index_beside
found_on o s a parts [] sorted own found = tt
found_on o s a parts (e ∷ es) sorted own found =
    (found.0 ∙ (λ i. index_in row_sort_key (row_sort_key e.row) (rows_of_peer (own.0.owner_is i) (own.0.side_is i) (own.0.addr_is i) (joined parts))) ∙ ap (index_in row_sort_key (row_sort_key e.row)) (peer_joined o s a parts sorted), found_on o s a parts es sorted own.1 found.1)

ready_at : (o : Owner) (s : Direction) (a : Addr) (run : List (Edit Row)) (x : SideRows) → x.owner ≡ o → x.side ≡ s → AllByRecursion (IsEditAt o s a) run → length run ≤ room_at a x.room → AllByRecursion (λ e. e.found ≡ index_beside o s a (row_sort_key e.row) x.rows) run → IsReady a run x
ready_at o s a run x owner side own room found = record {
  own = subst (λ (q : Owner). AllByRecursion (IsEditAt q x.side a) run) (sym owner) (subst (λ (u : Direction). AllByRecursion (IsEditAt o u a) run) (sym side) own);
  room = room;
  found = subst (λ (q : Owner). AllByRecursion (λ e. e.found ≡ index_beside q x.side a (row_sort_key e.row) x.rows) run) (sym owner) (subst (λ (u : Direction). AllByRecursion (λ e. e.found ≡ index_beside o u a (row_sort_key e.row) x.rows) run) (sym side) found);
}

-- ---- The edits of the last one's owner, side and address

-- the last of some edits are those of an owner, side and address
pub record IsLastRun (o : Owner) (s : Direction) (a : Addr) (es left run : List (Edit Row)) : Type 0 where
  pub split : es ≡ left ++ run
  pub some : 0 < length run
  pub own : AllByRecursion (IsEditAt o s a) run
  pub others : edits_of_peer o s a left ≡ []
  pub order : SortKeysAscend (edit_sort_key row_sort_key) es

pub last_run : (o : Owner) (s : Direction) (a : Addr) (es all : List (Edit Row)) (start : ℕ) → all ≡ es → SortKeysAscend (edit_sort_key row_sort_key) es → start < length all → AllByRecursion (IsEditAt o s a) (drop start all) → edits_of_peer o s a (take start all) ≡ [] → IsLastRun o s a es (take start es) (drop start es)
last_run o s a es all start is order lt own others =
    let lt' : start < length es = subst (λ ws. start < length ws) is lt in
    record {
      split = sym (take-append-drop start es);
      some = omega (arith, lt', length-drop start es);
      own = subst (λ ws. AllByRecursion (IsEditAt o s a) (drop start ws)) is own;
      others = subst (λ ws. edits_of_peer o s a (take start ws) ≡ []) is others;
      order = order;
    }

module _ (o : Owner) (s : Direction) (a : Addr) (es left run : List (Edit Row)) (last : IsLastRun o s a es left run) where
  pub last_room : (parts : Parts) → HasRoom es (room_in parts) → length run ≤ room_at a (part_at parts (bucket_number o s)).room
  last_room parts has = run_room o s a left run parts last.own (subst (λ ws. HasRoom ws (room_in parts)) last.split has)

  pub last_within : (parts : Parts) → HasRoom es (room_in parts) → bucket_number o s < length parts
  last_within parts has = room_within parts a (bucket_number o s) (omega (arith, last.some, last_room parts has))

  pub last_ready : (parts : Parts) (x : SideRows) → x ≡ get_or parts (bucket_number o s) x → AreSorted parts → HasRoom es (room_in parts) → AreFoundBeside (joined parts) es → IsReady a run x
  last_ready parts x read sorted has found =
      let within : bucket_number o s < length parts = last_within parts has in
      let one : AreOne (part_at parts (bucket_number o s)).owner o (part_at parts (bucket_number o s)).side s = same_bucket (part_at parts (bucket_number o s)).owner o (part_at parts (bucket_number o s)).side s (sorted.own (bucket_number o s) within) in
      let behind : AreFoundBeside (joined parts) run = all_right (λ e. e.found ≡ index_beside e.row.owner e.row.side e.row.addr (row_sort_key e.row) (joined parts)) left run (subst (AreFoundBeside (joined parts)) last.split found) in
      subst (IsReady a run) (sym (part_read parts (bucket_number o s) x within read))
      (ready_at o s a run (part_at parts (bucket_number o s)) one.owner one.side last.own (last_room parts has) (found_on o s a parts run sorted last.own behind))

  module _ (old new : Parts) (is : AreEdited (bucket_number o s) run old new) (others : (b : Addr) → same_addr b a ≡ false → room_at b is.part.room ≡ room_at b (part_at old (bucket_number o s)).room) where
    -- ---- What is left

    left_few : (p : Owner) (t : Direction) (b : Addr) → HasRoom es (room_in old) → length (edits_of_peer p t b left) ≤ room_at b (part_at old (bucket_number p t)).room
    left_few p t b has = omega (arith, (subst (λ ws. HasRoom ws (room_in old)) last.split has).each p t b, room_is old p t b, peer_more p t b left run)

    room_here : (p : Owner) (t : Direction) (b : Addr) → HasRoom es (room_in old) → bucket_number p t ≡ bucket_number o s → (c : Bool) → same_addr b a ≡ c → length (edits_of_peer p t b left) ≤ room_at b is.part.room
    room_here p t b has same true e =
        let one : AreOne p o t s = same_bucket p o t s same in
        let none : edits_of_peer p t b left ≡ [] = (λ i. edits_of_peer (one.owner i) (one.side i) (same_addr_exact b a e i) left) ∙ last.others in
        omega (arith, ap length none)
    room_here p t b has same false e =
        let here : length (edits_of_peer p t b left) ≤ room_at b (part_at old (bucket_number o s)).room = subst (λ (k : ℕ). length (edits_of_peer p t b left) ≤ room_at b (part_at old k).room) same (left_few p t b has) in
        omega (arith, here, others b e)

    room_at_each : (p : Owner) (t : Direction) (b : Addr) → HasRoom es (room_in old) → length (edits_of_peer p t b left) ≤ room_at b (part_at new (bucket_number p t)).room
    room_at_each p t b has = elim (cases_eq (bucket_number p t) (bucket_number o s)) [
      | inl same ↦
          subst (λ (k : ℕ). length (edits_of_peer p t b left) ≤ room_at b (part_at new k).room) (sym same)
          (subst (λ (q : SideRows). length (edits_of_peer p t b left) ≤ room_at b q.room) (sym (part_here (bucket_number o s) run old new is)) (room_here p t b has same (same_addr b a) refl))
      | inr other ↦ subst (λ (q : SideRows). length (edits_of_peer p t b left) ≤ room_at b q.room) (sym (part_other (bucket_number o s) run old new is (bucket_number p t) other)) (left_few p t b has)
    ]

    -- once these edits are made, the others are left
    pub edits_left : AreSorted old → HasRoom es (room_in old) → AreFoundBeside (joined old) es → AreLeft es left old new
    edits_left sorted has found =
        let rows : joined new ≡ edited row_sort_key run (joined old) = joined_edited (bucket_number o s) run old new is sorted in
        record {
          sorted = sorted_edited (bucket_number o s) run old new is sorted;
          room = record { each = λ p t b. omega (arith, room_at_each p t b has, room_is new p t b) };
          found =
              subst (λ (ws : List Row). AreFoundBeside ws left) (sym rows)
              (found_left left run (joined old) sorted.ascend (subst (SortKeysAscend (edit_sort_key row_sort_key)) last.split last.order) (subst (AreFoundBeside (joined old)) last.split found));
          made = ap (edited row_sort_key left) rows ∙ sym (edited-append row_sort_key left run (joined old)) ∙ ap (λ ws. edited row_sort_key ws (joined old)) (sym last.split);
        }

-- what is written in a bucket are these edits
pub edited_on : (o : Owner) (s : Direction) (a : Addr) (old : Parts) (x part : SideRows) (run : List (Edit Row)) → bucket_number o s < length old → x ≡ get_or old (bucket_number o s) x → AllByRecursion (IsEditAt o s a) run
    → part.owner ≡ x.owner → part.side ≡ x.side → part.rows ≡ edited row_sort_key run x.rows → AreEdited (bucket_number o s) run old (set old (bucket_number o s) part)
edited_on o s a old x part run lt read own owner side rows =
    let here : x ≡ part_at old (bucket_number o s) = part_read old (bucket_number o s) x lt read in
    record {
      part = part;
      own = own_numbers o s a run own;
      within = lt;
      set_is = refl;
      owner_is = owner ∙ ap (λ (p : SideRows). p.owner) here;
      side_is = side ∙ ap (λ (p : SideRows). p.side) here;
      rows = rows ∙ ap (λ (p : SideRows). edited row_sort_key run p.rows) here;
    }

-- ---- The last edits in their bucket, by its number

module _ (o : Owner) (s : Direction) (a : Addr) (es : List (Edit Row)) (start number : ℕ) (parts : Parts) (last : IsLastRun o s a es (take start es) (drop start es)) (is : number ≡ bucket_number o s) where
  pub within_by : HasRoom es (room_in parts) → number < length parts
  within_by has = omega (arith, is, last_within o s a es (take start es) (drop start es) last parts has)

  pub ready_by : (x : SideRows) → x ≡ get_or parts number x → AreSorted parts → HasRoom es (room_in parts) → AreFoundBeside (joined parts) es → IsReady a (drop start es) x
  ready_by x read sorted has found = last_ready o s a es (take start es) (drop start es) last parts x (subst (λ k. x ≡ get_or parts k x) is read) sorted has found

  pub left_by : (left : List (Edit Row)) (x part : SideRows) → x ≡ get_or parts number x → left ≡ take start es → part.owner ≡ x.owner → part.side ≡ x.side → part.rows ≡ edited row_sort_key (drop start es) x.rows
      → ((b : Addr) → same_addr b a ≡ false → room_at b part.room ≡ room_at b x.room) → AreSorted parts → HasRoom es (room_in parts) → AreFoundBeside (joined parts) es → AreLeft es left parts (set parts number part)
  unfolding edited_on
  left_by left x part read left_is owner side rows others sorted has found =
      let within : bucket_number o s < length parts = last_within o s a es (take start es) (drop start es) last parts has in
      let read' : x ≡ get_or parts (bucket_number o s) x = subst (λ k. x ≡ get_or parts k x) is read in
      let made : AreEdited (bucket_number o s) (drop start es) parts (set parts (bucket_number o s) part) = edited_on o s a parts x part (drop start es) within read' last.own owner side rows in
      subst (λ k. AreLeft es left parts (set parts k part)) (sym is)
      (subst (λ ws. AreLeft es ws parts (set parts (bucket_number o s) part)) (sym left_is)
      (edits_left o s a es (take start es) (drop start es) last parts (set parts (bucket_number o s) part) made
      (λ b other. others b other ∙ ap (λ (p : SideRows). room_at b p.room) (part_read parts (bucket_number o s) x within read')) sorted has found))

pub left_long : (es all left : List (Edit Row)) (start : ℕ) → all ≡ es → start < length all → left ≡ take start es → length left ≡ start
left_long es all left start is lt left_is =
    let lt' : start < length es = subst (λ ws. start < length ws) is lt in
    ap length left_is ∙ length-take-le start es (omega (arith, lt'))
