-- What an edit makes of the buckets.
use Rattle.std.proofs.Common.{◌≡◌, ℕ, zero, suc, ◌+◌, ◌<◌, ◌≤◌, Bool, true, false, cond, List, [], ◌∷◌, ◌++◌, length, set, get_or, Some, Ok, inl, inr, refl, sym, ap, subst, ◌∙◌, arith, length-append}
use Rattle.std.specs.Prelude.{filter}
use Rattle.std.specs.List.{AllByRecursion, slice_get}
use Rattle.std.specs.declared.cmp.Ordering.TheVariants.{Less}
use Rattle.std.proofs.lemmas.Bool.{cases_eq}
use Rattle.std.proofs.lemmas.Option.{same_Some, slice_get_read, slice_get_within}
use Rattle.std.proofs.lemmas.List.Elements.{filter-append}
use Rattle.base_rows.specs.Sortable.{sort_key_cmp, same_sort_key, row_at, is_under, rows_under, index_in, set_row, without_row, SortKeysBelow, SortKeysAscend, RowsAndRoom}
use Rattle.base_rows.proofs.SortableLaws.{same_sort_key_exact, same_sort_key_itself, set_row_found}
use Rattle.base_rows.proofs.RowLaws.{all-set_row, all-without_row}
use Rattle.base_rows.proofs.RowSets.{same_rows_by}
use Rattle.base_rows.proofs.IndexLaws.{index_in-set_row_behind, index_in-without_row_behind}
use Rattle.base_rows.proofs.ChangeLaws.{same_sort_key_turned}
use Rattle.acl_model.specs.declared.binding.MemberKey.{MemberKey}
use Rattle.acl_model.specs.declared.binding.Binding.{Binding}
use Rattle.acl_model.specs.SortKeys.{member_sort_key, binding_sort_key}
use Rattle.base_rows.specs.declared.edit.Edit.{Edit}
use Rattle.base_rows.specs.Edits.{edit_sort_key, row_after, edit_made, edited}
use Rattle.base_rows.proofs.EditLaws.{ascend-edit_made, row_at-edit_made, edited-last, last_split, below_last}
use Rattle.acl_buckets.specs.declared.binding_parts.Bucket.{Bucket}
use Rattle.acl_buckets.specs.BindingBuckets.{KeyRoom, bindings_of_key, index_by_key, AreFoundByKey, edits_of_key, HasRoomByKey}
use Rattle.acl_buckets.specs.BindingParts.{bucket_sort_key, part_at, joined, room_in, IsOwn, AreBucketed, AreRoomier, AreFoundIn, IsEdited}
use Rattle.acl_buckets.proofs.KeyLaws.{tells_key, binding_sort_key_is, sort_keys_differ}
use Rattle.acl_buckets.proofs.BindingPartLaws.{joined_under, row_joined, joined_ascend, part_ascend, IsBucketAt, bucket_found, part_set, bucketed_set, own_read, room_is}

-- ---- The bucket of the edit

-- an edit keeps what holds of its binding and of all others
all_by : (P : Binding → Type 0) (e : Edit Binding) (rows : List Binding) → P e.row → AllByRecursion P rows → (b : Bool) → AllByRecursion P (cond b (set_row binding_sort_key e.row rows) (without_row binding_sort_key (binding_sort_key e.row) rows))
all_by P e rows new all true = all-set_row binding_sort_key P e.row rows new all
all_by P e rows new all false = all-without_row binding_sort_key P (binding_sort_key e.row) rows all

own_made : (e : Edit Binding) (x s : Bucket) → IsOwn x → bucket_sort_key x ≡ member_sort_key e.row.key → bucket_sort_key s ≡ bucket_sort_key x → s.bindings.rows ≡ edit_made binding_sort_key e x.bindings.rows → IsOwn s
unfolding edit_made
own_made e x s own at same is = record {
  keys =
      subst (AllByRecursion (λ b. member_sort_key b.key ≡ bucket_sort_key s)) (sym is)
      (all_by (λ b. member_sort_key b.key ≡ bucket_sort_key s) e x.bindings.rows (sym (same ∙ at)) (subst (λ (p : List ℕ). AllByRecursion (λ b. member_sort_key b.key ≡ p) x.bindings.rows) (sym same) own.keys) e.comes);
  ascend = subst (SortKeysAscend binding_sort_key) (sym is) (ascend-edit_made binding_sort_key e x.bindings.rows own.ascend);
}

-- what is written in the bucket is the edit
pub made_on : (e : Edit Binding) (old : List Bucket) (i : ℕ) (x s : Bucket) → AreBucketed old → index_in bucket_sort_key (member_sort_key e.row.key) old ≡ Ok i → x ≡ get_or old i x → bucket_sort_key s ≡ bucket_sort_key x
    → s.bindings.rows ≡ edit_made binding_sort_key e x.bindings.rows → x.bindings.room ≤ s.bindings.room + 1 → IsEdited e old (set old i s)
made_on e old i x s bucketed found is same rows room =
    let at : IsBucketAt (member_sort_key e.row.key) old i x = bucket_found (member_sort_key e.row.key) old i x bucketed found is in
    let here : bucket_sort_key s ≡ member_sort_key e.row.key = same ∙ at.sort_key_is in
    record {
      part = s;
      sort_key = here;
      own = own_made e x s (own_read old i x bucketed at.within is) at.sort_key_is same rows;
      set = sym (set_row_found bucket_sort_key s old i (ap (λ (p : List ℕ). index_in bucket_sort_key p old) here ∙ found));
      rows = rows ∙ ap (λ (p : RowsAndRoom Binding). edit_made binding_sort_key e p.rows) (sym at.part_is);
      room = subst (λ (p : RowsAndRoom Binding). p.room ≤ s.bindings.room + 1) (sym at.part_is) room;
    }

module _ (e : Edit Binding) (old new : List Bucket) (is : IsEdited e old new) where
  part_new : (sort_key : List ℕ) → part_at sort_key new ≡ cond (same_sort_key (member_sort_key e.row.key) sort_key) is.part.bindings (part_at sort_key old)
  part_new sort_key =
      ap (part_at sort_key) is.set
      ∙ part_set sort_key is.part old
      ∙ ap (λ (p : List ℕ). cond (same_sort_key p sort_key) is.part.bindings (part_at sort_key old)) is.sort_key

  part_here : (sort_key : List ℕ) → same_sort_key (member_sort_key e.row.key) sort_key ≡ true → part_at sort_key new ≡ is.part.bindings
  part_here sort_key same = part_new sort_key ∙ ap (λ (b : Bool). cond b is.part.bindings (part_at sort_key old)) same

  part_other : (sort_key : List ℕ) → same_sort_key (member_sort_key e.row.key) sort_key ≡ false → part_at sort_key new ≡ part_at sort_key old
  part_other sort_key other = part_new sort_key ∙ ap (λ (b : Bool). cond b is.part.bindings (part_at sort_key old)) other

  rows_here : (sort_key : List ℕ) → same_sort_key (member_sort_key e.row.key) sort_key ≡ true → (part_at sort_key new).rows ≡ edit_made binding_sort_key e (part_at sort_key old).rows
  rows_here sort_key same =
      ap (λ (p : RowsAndRoom Binding). p.rows) (part_here sort_key same)
      ∙ is.rows
      ∙ ap (λ (p : List ℕ). edit_made binding_sort_key e (part_at p old).rows) (same_sort_key_exact (member_sort_key e.row.key) sort_key same)

  pub bucketed_edited : AreBucketed old → AreBucketed new
  bucketed_edited bucketed = subst AreBucketed (sym is.set) (bucketed_set is.part old is.own bucketed)

  -- ---- All bindings

  module _ (bucketed : AreBucketed old) where
    -- the binding at a binding's sort key
    row_of : (r : Binding) (ss : List Bucket) → AreBucketed ss → row_at binding_sort_key (binding_sort_key r) (joined ss) ≡ row_at binding_sort_key (binding_sort_key r) (part_at (member_sort_key r.key) ss).rows
    row_of r ss up = subst (λ (p : List ℕ). row_at binding_sort_key p (joined ss) ≡ row_at binding_sort_key p (part_at (member_sort_key r.key) ss).rows) (sym (binding_sort_key_is r)) (row_joined (member_sort_key r.key) (tells_key r.key) r.addr ss up)

    row_by : (r : Binding) (b : Bool) → same_sort_key (member_sort_key e.row.key) (member_sort_key r.key) ≡ b → row_at binding_sort_key (binding_sort_key r) (joined new) ≡ row_at binding_sort_key (binding_sort_key r) (edit_made binding_sort_key e (joined old))
    unfolding edit_sort_key
    row_by r true same =
        row_of r new (bucketed_edited bucketed)
        ∙ ap (row_at binding_sort_key (binding_sort_key r)) (rows_here (member_sort_key r.key) same)
        ∙ row_at-edit_made binding_sort_key (binding_sort_key r) e (part_at (member_sort_key r.key) old).rows (part_ascend (member_sort_key r.key) old bucketed)
        ∙ ap (cond (same_sort_key (binding_sort_key e.row) (binding_sort_key r)) (row_after e)) (sym (row_of r old bucketed))
        ∙ sym (row_at-edit_made binding_sort_key (binding_sort_key r) e (joined old) (joined_ascend old bucketed))
    row_by r false other =
        row_of r new (bucketed_edited bucketed)
        ∙ ap (λ (p : RowsAndRoom Binding). row_at binding_sort_key (binding_sort_key r) p.rows) (part_other (member_sort_key r.key) other)
        ∙ sym (row_of r old bucketed)
        ∙ ap (λ (b : Bool). cond b (row_after e) (row_at binding_sort_key (binding_sort_key r) (joined old))) (sym (sort_keys_differ e.row r other (same_sort_key (binding_sort_key e.row) (binding_sort_key r)) refl))
        ∙ sym (row_at-edit_made binding_sort_key (binding_sort_key r) e (joined old) (joined_ascend old bucketed))

    -- in its bucket the edit is made, so it is made of all bindings
    pub joined_edited : joined new ≡ edit_made binding_sort_key e (joined old)
    joined_edited =
        same_rows_by binding_sort_key (joined new) (edit_made binding_sort_key e (joined old)) (joined_ascend new (bucketed_edited bucketed)) (ascend-edit_made binding_sort_key e (joined old) (joined_ascend old bucketed))
        (λ r. row_by r (same_sort_key (member_sort_key e.row.key) (member_sort_key r.key)) refl)

    -- ---- Indices in the buckets

    index_made_by : (x : Binding) (rows : List Binding) → SortKeysAscend binding_sort_key rows → sort_key_cmp (binding_sort_key x) (binding_sort_key e.row) ≡ Less → (b : Bool)
        → index_in binding_sort_key (binding_sort_key x) (cond b (set_row binding_sort_key e.row rows) (without_row binding_sort_key (binding_sort_key e.row) rows)) ≡ index_in binding_sort_key (binding_sort_key x) rows
    index_made_by x rows up less true = index_in-set_row_behind binding_sort_key (binding_sort_key x) e.row rows less
    index_made_by x rows up less false = index_in-without_row_behind binding_sort_key (binding_sort_key x) (binding_sort_key e.row) rows up less

    index_made : (x : Binding) (rows : List Binding) → SortKeysAscend binding_sort_key rows → sort_key_cmp (binding_sort_key x) (binding_sort_key e.row) ≡ Less → index_in binding_sort_key (binding_sort_key x) (edit_made binding_sort_key e rows) ≡ index_in binding_sort_key (binding_sort_key x) rows
    unfolding edit_made
    index_made x rows up less = index_made_by x rows up less e.comes

    index_by : (x : Binding) → sort_key_cmp (binding_sort_key x) (binding_sort_key e.row) ≡ Less → (b : Bool) → same_sort_key (member_sort_key e.row.key) (member_sort_key x.key) ≡ b
        → index_in binding_sort_key (binding_sort_key x) (part_at (member_sort_key x.key) new).rows ≡ index_in binding_sort_key (binding_sort_key x) (part_at (member_sort_key x.key) old).rows
    index_by x less true same = ap (index_in binding_sort_key (binding_sort_key x)) (rows_here (member_sort_key x.key) same) ∙ index_made x (part_at (member_sort_key x.key) old).rows (part_ascend (member_sort_key x.key) old bucketed) less
    index_by x less false other = ap (λ (p : RowsAndRoom Binding). index_in binding_sort_key (binding_sort_key x) p.rows) (part_other (member_sort_key x.key) other)

    pub found_edited : (es : List (Edit Binding)) → SortKeysBelow (edit_sort_key binding_sort_key) (binding_sort_key e.row) es → AreFoundIn old es → AreFoundIn new es
    unfolding edit_sort_key
    found_edited [] below found = tt
    found_edited (x ∷ xs) below found = (found.0 ∙ sym (index_by x.row below.0 (same_sort_key (member_sort_key e.row.key) (member_sort_key x.row.key)) refl), found_edited xs below.1 found.1)

  -- ---- Room

  room_by : (sort_key : List ℕ) (n m : ℕ) (b : Bool) → same_sort_key (member_sort_key e.row.key) sort_key ≡ b → n ≤ (part_at sort_key old).room → n ≡ m + cond b 1 0 → m ≤ (part_at sort_key new).room
  room_by sort_key n m true same few is' =
      let there : (part_at sort_key old).room ≤ is.part.bindings.room + 1 = subst (λ (p : List ℕ). (part_at p old).room ≤ is.part.bindings.room + 1) (same_sort_key_exact (member_sort_key e.row.key) sort_key same) is.room in
      subst (λ (p : RowsAndRoom Binding). m ≤ p.room) (sym (part_here sort_key same)) (omega arith)
  room_by sort_key n m false other few is' = subst (λ (p : RowsAndRoom Binding). m ≤ p.room) (sym (part_other sort_key other)) (omega arith)

-- the edits of a key, with one more
one_by : (e : Edit Binding) (b : Bool) → length (cond b (e ∷ []) []) ≡ cond b 1 0
one_by e true = refl
one_by e false = refl

edits_last : (key : MemberKey) (es : List (Edit Binding)) (e : Edit Binding) → length (edits_of_key key (es ++ e ∷ [])) ≡ length (edits_of_key key es) + cond (same_sort_key (member_sort_key e.row.key) (member_sort_key key)) 1 0
unfolding edits_of_key edit_sort_key
edits_last key es e =
    ap length (filter-append (is_under (edit_sort_key binding_sort_key) (member_sort_key key)) es (e ∷ []))
    ∙ length-append (filter (is_under (edit_sort_key binding_sort_key) (member_sort_key key)) es) (filter (is_under (edit_sort_key binding_sort_key) (member_sort_key key)) (e ∷ []))
    ∙ ap (λ (n : ℕ). length (filter (is_under (edit_sort_key binding_sort_key) (member_sort_key key)) es) + n)
    (one_by e (is_under binding_sort_key (member_sort_key key) e.row) ∙ ap (λ (b : Bool). cond b 1 0) (tells_key key e.row ∙ same_sort_key_turned (member_sort_key key) (member_sort_key e.row.key)))

pub room_edited : (e : Edit Binding) (es : List (Edit Binding)) (old new : List Bucket) → IsEdited e old new → HasRoomByKey (es ++ e ∷ []) (room_in old) → HasRoomByKey es (room_in new)
room_edited e es old new is has = record {
  each = λ key.
      let few : length (edits_of_key key (es ++ e ∷ [])) ≤ (part_at (member_sort_key key) old).room = omega (arith, has.each key, room_is key old) in
      let left = room_by e old new is (member_sort_key key) (length (edits_of_key key (es ++ e ∷ []))) (length (edits_of_key key es)) (same_sort_key (member_sort_key e.row.key) (member_sort_key key)) refl few (edits_last key es e) in
      omega (arith, left, room_is key new);
}

last_room : (e : Edit Binding) (es : List (Edit Binding)) (ss : List Bucket) → HasRoomByKey (es ++ e ∷ []) (room_in ss) → 1 ≤ (part_at (member_sort_key e.row.key) ss).room
last_room e es ss has =
    let one = edits_last e.row.key es e ∙ ap (λ (b : Bool). length (edits_of_key e.row.key es) + cond b 1 0) (same_sort_key_itself (member_sort_key e.row.key)) in
    omega (arith, has.each e.row.key, room_is e.row.key ss, one)

-- ---- The last of the edits that are left

last_found : (ss : List Bucket) (es : List (Edit Binding)) (e : Edit Binding) → AreFoundIn ss (es ++ e ∷ []) → e.found ≡ index_in binding_sort_key (binding_sort_key e.row) (part_at (member_sort_key e.row.key) ss).rows
last_found ss [] e found = found.0
last_found ss (x ∷ xs) e found = last_found ss xs e found.1

others_found : (ss : List Bucket) (es : List (Edit Binding)) (e : Edit Binding) → AreFoundIn ss (es ++ e ∷ []) → AreFoundIn ss es
others_found ss [] e found = tt
others_found ss (x ∷ xs) e found = (found.0, others_found ss xs e found.1)

-- the edits are the last one and those that are left without it
pub record IsLast (es rest : List (Edit Binding)) (e : Edit Binding) : Type 0 where
  pub split : es ≡ rest ++ e ∷ []
  pub below : SortKeysBelow (edit_sort_key binding_sort_key) (edit_sort_key binding_sort_key e) rest
  pub long : length es ≡ length rest + 1

pub is_last : (es rest : List (Edit Binding)) (e : Edit Binding) (i : ℕ) → SortKeysAscend (edit_sort_key binding_sort_key) es → length es ≡ i + 1 → slice_get es i ≡ Some e → rest ≡ without_row (edit_sort_key binding_sort_key) (edit_sort_key binding_sort_key e) es → IsLast es rest e
is_last es rest e i up long at left =
    let split : es ≡ rest ++ e ∷ [] = last_split (edit_sort_key binding_sort_key) es i e up (sym long) at ∙ ap (λ (ws : List (Edit Binding)). ws ++ e ∷ []) (sym left) in
    record {
      split = split;
      below = below_last (edit_sort_key binding_sort_key) rest e (subst (SortKeysAscend (edit_sort_key binding_sort_key)) split up);
      long = ap length split ∙ length-append rest (e ∷ []);
    }

module _ (es rest : List (Edit Binding)) (e : Edit Binding) (last : IsLast es rest e) where
  pub here_room : (ss : List Bucket) → HasRoomByKey es (room_in ss) → 1 ≤ (part_at (member_sort_key e.row.key) ss).room
  here_room ss has = last_room e rest ss (subst (λ (ws : List (Edit Binding)). HasRoomByKey ws (room_in ss)) last.split has)

  pub here_found : (ss : List Bucket) → AreFoundIn ss es → e.found ≡ index_in binding_sort_key (binding_sort_key e.row) (part_at (member_sort_key e.row.key) ss).rows
  here_found ss found = last_found ss rest e (subst (AreFoundIn ss) last.split found)

  module _ (old new : List Bucket) (is : IsEdited e old new) where
    pub left_room : HasRoomByKey es (room_in old) → HasRoomByKey rest (room_in new)
    left_room has = room_edited e rest old new is (subst (λ (ws : List (Edit Binding)). HasRoomByKey ws (room_in old)) last.split has)

    pub left_found : AreBucketed old → AreFoundIn old es → AreFoundIn new rest
    unfolding edit_sort_key
    left_found bucketed found = found_edited e old new is bucketed rest last.below (others_found old rest e (subst (AreFoundIn old) last.split found))

    pub left_made : AreBucketed old → edited binding_sort_key rest (joined new) ≡ edited binding_sort_key es (joined old)
    left_made bucketed =
        ap (edited binding_sort_key rest) (joined_edited e old new is bucketed)
        ∙ sym (edited-last binding_sort_key rest e (joined old))
        ∙ ap (λ (ws : List (Edit Binding)). edited binding_sort_key ws (joined old)) (sym last.split)

-- ---- Edits by their indices among all bindings

pub found_in : (ss : List Bucket) (edits : List (Edit Binding)) → AreBucketed ss → AreFoundByKey (joined ss) edits → AreFoundIn ss edits
unfolding index_by_key bindings_of_key
found_in ss [] bucketed found = tt
found_in ss (e ∷ es) bucketed found = (found.0 ∙ ap (index_in binding_sort_key (binding_sort_key e.row)) (joined_under (member_sort_key e.row.key) (tells_key e.row.key) ss bucketed), found_in ss es bucketed found.1)

-- ---- Room for the edits of a key by each of its edits

-- an edit of a key, where there is one
record IsAmong (Q : Edit Binding → Type 0) (key : MemberKey) : Type 0 where
  edit : Edit Binding
  same : same_sort_key (member_sort_key key) (member_sort_key edit.row.key) ≡ true
  holds : Q edit

among_by : (Q : Edit Binding → Type 0) (key : MemberKey) (e : Edit Binding) (n : ℕ) (es : List (Edit Binding)) → Q e → (length es ≤ n → (1 ≤ length es → IsAmong Q key) → (b : Bool) → same_sort_key (member_sort_key key) (member_sort_key e.row.key) ≡ b → 1 ≤ length (cond b (e ∷ es) es) → IsAmong Q key)
among_by Q key e n es q few rest true same some = record { edit = e; same = same; holds = q }
among_by Q key e n es q few rest false same some = rest some

among : (Q : Edit Binding → Type 0) (key : MemberKey) (es : List (Edit Binding)) → AllByRecursion Q es → 1 ≤ length (edits_of_key key es) → IsAmong Q key
unfolding edits_of_key edit_sort_key
among Q key [] all some = absurd (omega arith)
among Q key (e ∷ es) all some =
    among_by Q key e (length (rows_under (edit_sort_key binding_sort_key) (member_sort_key key) es)) (rows_under (edit_sort_key binding_sort_key) (member_sort_key key) es) all.0 (omega arith) (among Q key es all.1) (same_sort_key (member_sort_key key) (member_sort_key e.row.key)) refl
    (subst (λ (b : Bool). 1 ≤ length (cond b (e ∷ rows_under (edit_sort_key binding_sort_key) (member_sort_key key) es) (rows_under (edit_sort_key binding_sort_key) (member_sort_key key) es))) (tells_key key e.row) some)

-- there is room for the edits of the key of an edit
abbrev pub HasOwnRoom : List (Edit Binding) → List Bucket → Edit Binding → Type 0
HasOwnRoom edits ss e = length (edits_of_key e.row.key edits) ≤ (part_at (member_sort_key e.row.key) ss).room

own_room : (edits : List (Edit Binding)) (ss : List Bucket) → AllByRecursion (HasOwnRoom edits ss) edits → (key : MemberKey) (n : ℕ) → n ≡ length (edits_of_key key edits) → n ≤ (part_at (member_sort_key key) ss).room
unfolding edits_of_key
own_room edits ss all key zero is = omega arith
own_room edits ss all key (suc n) is =
    let one : IsAmong (HasOwnRoom edits ss) key = among (HasOwnRoom edits ss) key edits all (omega arith) in
    let same : member_sort_key key ≡ member_sort_key one.edit.row.key = same_sort_key_exact (member_sort_key key) (member_sort_key one.edit.row.key) one.same in
    subst (λ (m : ℕ). m ≤ (part_at (member_sort_key key) ss).room) (sym is) (subst (λ (p : List ℕ). length (rows_under (edit_sort_key binding_sort_key) p edits) ≤ (part_at p ss).room) (sym same) one.holds)

pub has_room : (edits : List (Edit Binding)) (ss : List Bucket) → AllByRecursion (HasOwnRoom edits ss) edits → HasRoomByKey edits (room_in ss)
has_room edits ss all = record { each = λ key. omega (arith, own_room edits ss all key (length (edits_of_key key edits)) refl, room_is key ss) }

-- each edit before an index has its room
abbrev pub HaveOwnRoom : List (Edit Binding) → List Bucket → ℕ → Type 0
HaveOwnRoom edits ss i = (k : ℕ) (x : Edit Binding) → k < i → slice_get edits k ≡ Some x → HasOwnRoom edits ss x

pub next_room : (edits : List (Edit Binding)) (old new : List Bucket) (i : ℕ) (e : Edit Binding) → AreRoomier old new → i < length edits → e ≡ get_or edits i e → HasOwnRoom edits new e → HaveOwnRoom edits old i → HaveOwnRoom edits new (i + 1)
next_room edits old new i e roomier within is here before k x lt at = elim (cases_eq k i) [
  | inl same ↦ subst (HasOwnRoom edits new) (same_Some e x (sym (slice_get_read edits (length edits) i e refl within is) ∙ ap (slice_get edits) (sym same) ∙ at)) here
  | inr other ↦ omega (arith, roomier.room (member_sort_key x.row.key), before k x (omega arith) at)
]

every : (Q : Edit Binding → Type 0) (es : List (Edit Binding)) → ((k : ℕ) (x : Edit Binding) → slice_get es k ≡ Some x → Q x) → AllByRecursion Q es
every Q [] each = tt
every Q (e ∷ es) each = (each 0 e refl, every Q es (λ k x at. each (suc k) x at))

pub all_room : (edits : List (Edit Binding)) (ss : List Bucket) (i : ℕ) → length edits ≤ i → HaveOwnRoom edits ss i → HasRoomByKey edits (room_in ss)
all_room edits ss i past before = has_room edits ss (every (HasOwnRoom edits ss) edits (λ k x at. before k x (within k x at) at))
  where
    within : (k : ℕ) (x : Edit Binding) → slice_get edits k ≡ Some x → k < i
    within k x at = let lt = slice_get_within edits k x at in omega (arith, lt)

-- the number of edits that are counted is that of the edits of the key
pub counted_key : (edits : List (Edit Binding)) (key : MemberKey) (t : List ℕ) → t ≡ member_sort_key key → length (rows_under (edit_sort_key binding_sort_key) t edits) ≡ length (edits_of_key key edits)
unfolding edits_of_key
counted_key edits key t is = ap (λ (p : List ℕ). length (rows_under (edit_sort_key binding_sort_key) p edits)) is

-- no edits need no room
pub no_edits : (room : List KeyRoom) → HasRoomByKey [] room
unfolding edits_of_key
no_edits room = record { each = λ key. omega arith }
