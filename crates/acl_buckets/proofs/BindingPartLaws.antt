-- What the buckets hold, one after the other.
use Rattle.std.proofs.Common.{◌≡◌, ℕ, zero, suc, ◌<◌, ◌≤◌, Bool, true, false, cond, List, [], ◌∷◌, ◌++◌, length, set, get_or, Option, Some, Result, Ok, Err, refl, sym, ap, subst, ◌∙◌, arith, append-nil}
use Rattle.std.specs.Prelude.{filter}
use Rattle.std.specs.List.{AllByRecursion, insert, slice_get}
use Rattle.std.specs.declared.cmp.Ordering.TheVariants.{Less}
use Rattle.std.proofs.lemmas.Option.{slice_get_read}
use Rattle.std.proofs.lemmas.List.Elements.{filter-append}
use Rattle.base_rows.specs.Sortable.{sort_key_cmp, same_sort_key, row_at, is_under, rows_under, index_in, set_row, SortKeysAbove, SortKeysAscend, ComeBefore, RowsAndRoom}
use Rattle.base_rows.specs.Addresses.{addr_sort_key}
use Rattle.base_rows.proofs.SortableLaws.{same_sort_key-cmp, same_sort_key_exact, same_sort_key_itself, row_at_found, row_at_missed, sort_key_found, row_at-set_row, set_row_found, set_row_missed, ascend-set_row, found_within, missed_within, index_in_row}
use Rattle.base_rows.proofs.RowLaws.{all-set_row}
use Rattle.base_rows.proofs.IndexLaws.{above-append, ascend-append}
use Rattle.base_rows.proofs.ChangeLaws.{differ_turned}
use Rattle.base_rows.proofs.EditRunLaws.{empty_out}
use Rattle.mud_base.specs.declared.addr.Addr.{Addr}
use Rattle.acl_model.specs.declared.binding.MemberKey.{MemberKey}
use Rattle.acl_model.specs.declared.binding.Binding.{Binding}
use Rattle.acl_model.specs.SortKeys.{key_kind, key_text, text_sort_key, member_sort_key, binding_sort_key}
use Rattle.acl_buckets.specs.declared.binding_parts.Bucket.{Bucket}
use Rattle.acl_buckets.specs.BindingBuckets.{room_of_key, bindings_of_key}
use Rattle.acl_buckets.specs.BindingParts.{bucket_sort_key, has_rows, nothing, part_of, part_at, joined, room_in, IsOwn, AreBucketed, AreKept, AreRoomier}
use Rattle.acl_buckets.proofs.KeyLaws.{at_front, key_less}

-- the sort keys of bindings tell whether they are of the key with this sort key
abbrev pub Tells : List ℕ → Type 0
Tells t = (b : Binding) → is_under binding_sort_key t b ≡ same_sort_key t (member_sort_key b.key)

-- ---- The bindings of a key are those in its bucket

module _ (t : List ℕ) (tells : Tells t) where
  abbrev own_of : List Binding → List Binding
  own_of xs = filter (is_under binding_sort_key t) xs

  kept_on : (p : List ℕ) (xs : List Binding) → AllByRecursion (λ b. member_sort_key b.key ≡ p) xs → p ≡ t → own_of xs ≡ xs
  kept_on p [] own is = refl
  kept_on p (x ∷ xs) own is =
      ap (λ (b : Bool). cond b (x ∷ own_of xs) (own_of xs)) (tells x ∙ ap (same_sort_key t) (own.0 ∙ is) ∙ same_sort_key_itself t)
      ∙ ap (λ (rs : List Binding). x ∷ rs) (kept_on p xs own.1 is)

  left_out : (p : List ℕ) (xs : List Binding) → AllByRecursion (λ b. member_sort_key b.key ≡ p) xs → same_sort_key t p ≡ false → own_of xs ≡ []
  left_out p [] own other = refl
  left_out p (x ∷ xs) own other =
      ap (λ (b : Bool). cond b (x ∷ own_of xs) (own_of xs)) (tells x ∙ ap (same_sort_key t) own.0 ∙ other)
      ∙ left_out p xs own.1 other

  none_above : (ss : List Bucket) → SortKeysAbove bucket_sort_key t ss → AllByRecursion IsOwn ss → own_of (joined ss) ≡ []
  unfolding joined
  none_above [] above own = refl
  none_above (s ∷ ss) above own =
      filter-append (is_under binding_sort_key t) s.bindings.rows (joined ss)
      ∙ (λ i. left_out (bucket_sort_key s) s.bindings.rows own.0.keys (same_sort_key-cmp t (bucket_sort_key s) Less above.0) i ++ none_above ss above.1 own.1 i)

  under_by : (s : Bucket) (ss : List Bucket) → SortKeysAbove bucket_sort_key (bucket_sort_key s) ss → IsOwn s → AllByRecursion IsOwn ss → own_of (joined ss) ≡ (part_of (row_at bucket_sort_key t ss)).rows
      → (b : Bool) → same_sort_key (bucket_sort_key s) t ≡ b → own_of s.bindings.rows ++ own_of (joined ss) ≡ (part_of (cond b (Some s) (row_at bucket_sort_key t ss))).rows
  under_by s ss above own owns rest true e =
      let is : bucket_sort_key s ≡ t = same_sort_key_exact (bucket_sort_key s) t e in
      (λ i. kept_on (bucket_sort_key s) s.bindings.rows own.keys is i ++ none_above ss (subst (λ (p : List ℕ). SortKeysAbove bucket_sort_key p ss) is above) owns i)
      ∙ append-nil s.bindings.rows
  under_by s ss above own owns rest false e =
      λ i. left_out (bucket_sort_key s) s.bindings.rows own.keys (differ_turned (bucket_sort_key s) t e) i ++ rest i

  under_all : (ss : List Bucket) → SortKeysAscend bucket_sort_key ss → AllByRecursion IsOwn ss → own_of (joined ss) ≡ (part_of (row_at bucket_sort_key t ss)).rows
  unfolding joined
  under_all [] up own = refl
  under_all (s ∷ ss) up own =
      filter-append (is_under binding_sort_key t) s.bindings.rows (joined ss)
      ∙ under_by s ss up.0 own.0 own.1 (under_all ss up.1 own.1) (same_sort_key (bucket_sort_key s) t) refl

  pub joined_under : (ss : List Bucket) → AreBucketed ss → rows_under binding_sort_key t (joined ss) ≡ (part_at t ss).rows
  unfolding part_at
  joined_under ss bucketed = under_all ss bucketed.ascend bucketed.each

  -- ---- The binding of a sort key is in the bucket of its key

  row_by : (p : List ℕ) (x : Binding) (xs : List Binding) → (same_sort_key (binding_sort_key x) p ≡ true → is_under binding_sort_key t x ≡ true) → row_at binding_sort_key p (own_of xs) ≡ row_at binding_sort_key p xs
      → (b c : Bool) → same_sort_key (binding_sort_key x) p ≡ b → is_under binding_sort_key t x ≡ c → row_at binding_sort_key p (cond c (x ∷ own_of xs) (own_of xs)) ≡ cond b (Some x) (row_at binding_sort_key p xs)
  row_by p x xs passes rest true true at is = ap (λ (b : Bool). cond b (Some x) (row_at binding_sort_key p (own_of xs))) at
  row_by p x xs passes rest true false at is = absurd (not_both (sym is ∙ passes at))
    where
      not_both : false ≡ true → ⊥
      not_both h = cc
  row_by p x xs passes rest false true at is = ap (λ (b : Bool). cond b (Some x) (row_at binding_sort_key p (own_of xs))) at ∙ rest
  row_by p x xs passes rest false false at is = rest

  row_kept : (p : List ℕ) → ((x : Binding) → same_sort_key (binding_sort_key x) p ≡ true → is_under binding_sort_key t x ≡ true) → (rows : List Binding) → row_at binding_sort_key p (own_of rows) ≡ row_at binding_sort_key p rows
  row_kept p passes [] = refl
  row_kept p passes (x ∷ xs) = row_by p x xs (passes x) (row_kept p passes xs) (same_sort_key (binding_sort_key x) p) (is_under binding_sort_key t x) refl refl

  pub row_under : (a : Addr) (rows : List Binding) → row_at binding_sort_key (t ++ addr_sort_key a) (rows_under binding_sort_key t rows) ≡ row_at binding_sort_key (t ++ addr_sort_key a) rows
  row_under a rows = row_kept (t ++ addr_sort_key a) (at_front t a) rows

  pub row_joined : (a : Addr) (ss : List Bucket) → AreBucketed ss → row_at binding_sort_key (t ++ addr_sort_key a) (joined ss) ≡ row_at binding_sort_key (t ++ addr_sort_key a) (part_at t ss).rows
  row_joined a ss bucketed = sym (row_under a (joined ss)) ∙ ap (row_at binding_sort_key (t ++ addr_sort_key a)) (joined_under ss bucketed)

kept_few : (x : Binding) (n : ℕ) (ys : List Binding) (b : Bool) → length ys ≤ n → length (cond b (x ∷ ys) ys) ≤ suc n
kept_few x n ys true few = omega arith
kept_few x n ys false few = omega arith

-- there are no more bindings of a key than bindings
pub under_few : (t : List ℕ) (rows : List Binding) → length (rows_under binding_sort_key t rows) ≤ length rows
under_few t [] = omega arith
under_few t (x ∷ xs) = kept_few x (length xs) (rows_under binding_sort_key t xs) (is_under binding_sort_key t x) (under_few t xs)

-- ---- All bindings are in order

above_own : (b : Binding) (p : List ℕ) (xs : List Binding) → AllByRecursion (λ x. member_sort_key x.key ≡ p) xs → sort_key_cmp (member_sort_key b.key) p ≡ Less → SortKeysAbove binding_sort_key (binding_sort_key b) xs
above_own b p [] own less = tt
above_own b p (x ∷ xs) own less = (key_less b x (ap (sort_key_cmp (member_sort_key b.key)) own.0 ∙ less), above_own b p xs own.1 less)

above_joined : (b : Binding) (ss : List Bucket) → SortKeysAbove bucket_sort_key (member_sort_key b.key) ss → AllByRecursion IsOwn ss → SortKeysAbove binding_sort_key (binding_sort_key b) (joined ss)
unfolding joined
above_joined b [] above own = tt
above_joined b (s ∷ ss) above own = above-append binding_sort_key (binding_sort_key b) s.bindings.rows (joined ss) (above_own b (bucket_sort_key s) s.bindings.rows own.0.keys above.0) (above_joined b ss above.1 own.1)

before_joined : (p : List ℕ) (xs : List Binding) (ss : List Bucket) → AllByRecursion (λ x. member_sort_key x.key ≡ p) xs → SortKeysAbove bucket_sort_key p ss → AllByRecursion IsOwn ss → ComeBefore binding_sort_key xs (joined ss)
before_joined p [] ss own above owns = tt
before_joined p (x ∷ xs) ss own above owns = (above_joined x ss (subst (λ (q : List ℕ). SortKeysAbove bucket_sort_key q ss) (sym own.0) above) owns, before_joined p xs ss own.1 above owns)

ascend_all : (ss : List Bucket) → SortKeysAscend bucket_sort_key ss → AllByRecursion IsOwn ss → SortKeysAscend binding_sort_key (joined ss)
unfolding joined
ascend_all [] up own = tt
ascend_all (s ∷ ss) up own = ascend-append binding_sort_key s.bindings.rows (joined ss) own.0.ascend (ascend_all ss up.1 own.1) (before_joined (bucket_sort_key s) s.bindings.rows ss own.0.keys up.0 own.1)

pub joined_ascend : (ss : List Bucket) → AreBucketed ss → SortKeysAscend binding_sort_key (joined ss)
joined_ascend ss bucketed = ascend_all ss bucketed.ascend bucketed.each

-- ---- One bucket

own_by : (sort_key : List ℕ) (s : Bucket) (o : Option Bucket) → IsOwn s → SortKeysAscend binding_sort_key (part_of o).rows → (b : Bool) → SortKeysAscend binding_sort_key (part_of (cond b (Some s) o)).rows
own_by sort_key s o own rest true = own.ascend
own_by sort_key s o own rest false = rest

part_up : (sort_key : List ℕ) (ss : List Bucket) → AllByRecursion IsOwn ss → SortKeysAscend binding_sort_key (part_of (row_at bucket_sort_key sort_key ss)).rows
part_up sort_key [] own = tt
part_up sort_key (s ∷ ss) own = own_by sort_key s (row_at bucket_sort_key sort_key ss) own.0 (part_up sort_key ss own.1) (same_sort_key (bucket_sort_key s) sort_key)

pub part_ascend : (sort_key : List ℕ) (ss : List Bucket) → AreBucketed ss → SortKeysAscend binding_sort_key (part_at sort_key ss).rows
unfolding part_at
part_ascend sort_key ss bucketed = part_up sort_key ss bucketed.each

-- the bucket that is found stands at the sort key
pub record IsBucketAt (sort_key : List ℕ) (ss : List Bucket) (i : ℕ) (s : Bucket) : Type 0 where
  pub within : i < length ss
  pub sort_key_is : bucket_sort_key s ≡ sort_key
  pub part_is : part_at sort_key ss ≡ s.bindings

pub bucket_found : (sort_key : List ℕ) (ss : List Bucket) (i : ℕ) (s : Bucket) → AreBucketed ss → index_in bucket_sort_key sort_key ss ≡ Ok i → s ≡ get_or ss i s → IsBucketAt sort_key ss i s
unfolding part_at
bucket_found sort_key ss i s bucketed found is =
    let within : i < length ss = found_within bucket_sort_key sort_key ss i found in
    let at : slice_get ss i ≡ Some s = slice_get_read ss (length ss) i s refl within is in
    record {
      within = within;
      sort_key_is = sort_key_found bucket_sort_key sort_key ss i s found at;
      part_is = ap part_of (row_at_found bucket_sort_key sort_key ss i bucketed.ascend found ∙ at);
    }

pub bucket_missed : (sort_key : List ℕ) (ss : List Bucket) (i : ℕ) → AreBucketed ss → index_in bucket_sort_key sort_key ss ≡ Err i → part_at sort_key ss ≡ nothing
unfolding part_at
bucket_missed sort_key ss i bucketed missed = ap part_of (row_at_missed bucket_sort_key sort_key ss i bucketed.ascend missed)

-- a bucket that is put in is the one of its sort key
part_by : (b : Bool) (s : Bucket) (o : Option Bucket) → part_of (cond b (Some s) o) ≡ cond b s.bindings (part_of o)
part_by true s o = refl
part_by false s o = refl

pub part_set : (sort_key : List ℕ) (s : Bucket) (ss : List Bucket) → part_at sort_key (set_row bucket_sort_key s ss) ≡ cond (same_sort_key (bucket_sort_key s) sort_key) s.bindings (part_at sort_key ss)
unfolding part_at
part_set sort_key s ss = ap part_of (row_at-set_row bucket_sort_key s ss sort_key) ∙ part_by (same_sort_key (bucket_sort_key s) sort_key) s (row_at bucket_sort_key sort_key ss)

pub bucketed_set : (s : Bucket) (ss : List Bucket) → IsOwn s → AreBucketed ss → AreBucketed (set_row bucket_sort_key s ss)
bucketed_set s ss own bucketed = record {
  ascend = ascend-set_row bucket_sort_key s ss bucketed.ascend;
  each = all-set_row bucket_sort_key IsOwn s ss own bucketed.each;
}

-- ---- More room

pub roomier_itself : (ss : List Bucket) → AreBucketed ss → AreRoomier ss ss
roomier_itself ss bucketed = record { bucketed = bucketed; rows = refl; room = λ sort_key. omega arith }

pub roomier_twice : (a b c : List Bucket) → AreRoomier a b → AreRoomier b c → AreRoomier a c
roomier_twice a b c first second = record {
  bucketed = second.bucketed;
  rows = second.rows ∙ first.rows;
  room = λ sort_key. omega (arith, first.room sort_key, second.room sort_key);
}

room_by : (b : Bool) (part : RowsAndRoom Binding) (old : RowsAndRoom Binding) → (b ≡ true → old.room ≤ part.room) → old.room ≤ (cond b part old).room
room_by true part old more = more refl
room_by false part old more = omega arith

room_set : (s : Bucket) (ss : List Bucket) → (part_at (bucket_sort_key s) ss).room ≤ s.bindings.room → (sort_key : List ℕ) → (part_at sort_key ss).room ≤ (part_at sort_key (set_row bucket_sort_key s ss)).room
room_set s ss more sort_key =
    subst (λ (p : RowsAndRoom Binding). (part_at sort_key ss).room ≤ p.room) (sym (part_set sort_key s ss))
    (room_by (same_sort_key (bucket_sort_key s) sort_key) s.bindings (part_at sort_key ss) (λ e. subst (λ (q : List ℕ). (part_at q ss).room ≤ s.bindings.room) (same_sort_key_exact (bucket_sort_key s) sort_key e) more))

joined_insert : (ss : List Bucket) (i : ℕ) (s : Bucket) → s.bindings.rows ≡ [] → joined (insert ss i s) ≡ joined ss
unfolding joined
joined_insert ss zero s none = ap (λ (rows : List Binding). rows ++ joined ss) none
joined_insert [] (suc i) s none = ap (λ (rows : List Binding). rows ++ joined []) none
joined_insert (x ∷ xs) (suc i) s none = ap (λ (rows : List Binding). x.bindings.rows ++ rows) (joined_insert xs i s none)

-- one empty bucket more
pub roomier_insert : (sort_key : List ℕ) (ss : List Bucket) (i : ℕ) (s : Bucket) → AreBucketed ss → index_in bucket_sort_key sort_key ss ≡ Err i → bucket_sort_key s ≡ sort_key → s.bindings.rows ≡ [] → AreRoomier ss (insert ss i s)
roomier_insert sort_key ss i s bucketed missed is none =
    let missed' : index_in bucket_sort_key (bucket_sort_key s) ss ≡ Err i = ap (λ (p : List ℕ). index_in bucket_sort_key p ss) is ∙ missed in
    let put : set_row bucket_sort_key s ss ≡ insert ss i s = set_row_missed bucket_sort_key s ss i missed' in
    record {
      bucketed = subst AreBucketed put (bucketed_set s ss (record { keys = subst (AllByRecursion (λ b. member_sort_key b.key ≡ bucket_sort_key s)) (sym none) tt; ascend = subst (SortKeysAscend binding_sort_key) (sym none) tt }) bucketed);
      rows = joined_insert ss i s none;
      room = λ p. subst (λ (new : List Bucket). (part_at p ss).room ≤ (part_at p new).room) put (room_set s ss (subst (λ (part : RowsAndRoom Binding). part.room ≤ s.bindings.room) (sym (bucket_missed (bucket_sort_key s) ss i bucketed missed')) (omega arith)) p);
    }

-- it is found where it was put in
pub index_inserted : (sort_key : List ℕ) (ss : List Bucket) (i : ℕ) (s : Bucket) → AreBucketed ss → index_in bucket_sort_key sort_key ss ≡ Err i → bucket_sort_key s ≡ sort_key → s.bindings.rows ≡ [] → index_in bucket_sort_key sort_key (insert ss i s) ≡ Ok i
index_inserted sort_key ss i s bucketed missed is none =
    let up : SortKeysAscend bucket_sort_key (insert ss i s) = (roomier_insert sort_key ss i s bucketed missed is none).bucketed.ascend in
    ap (λ (p : List ℕ). index_in bucket_sort_key p (insert ss i s)) (sym is) ∙ index_in_row bucket_sort_key (insert ss i s) i s up (get_inserted ss i s (missed_within bucket_sort_key sort_key ss i missed))
  where
    get_inserted : (xs : List Bucket) (i : ℕ) (s : Bucket) → i ≤ length xs → slice_get (insert xs i s) i ≡ Some s
    get_inserted [] zero s le = refl
    get_inserted [] (suc i) s le = absurd (omega arith)
    get_inserted (x ∷ xs) zero s le = refl
    get_inserted (x ∷ xs) (suc i) s le = get_inserted xs i s (omega arith)

joined_set : (ss : List Bucket) (i : ℕ) (x s : Bucket) → i < length ss → x ≡ get_or ss i x → s.bindings.rows ≡ x.bindings.rows → joined (set ss i s) ≡ joined ss
unfolding joined
joined_set [] i x s lt is same = absurd (omega arith)
joined_set (y ∷ ys) zero x s lt is same = ap (λ (rows : List Binding). rows ++ joined ys) (same ∙ ap (λ (z : Bucket). z.bindings.rows) is)
joined_set (y ∷ ys) (suc i) x s lt is same = ap (λ (rows : List Binding). y.bindings.rows ++ rows) (joined_set ys i x s (omega arith) is same)

own_at : (ss : List Bucket) (i : ℕ) (x : Bucket) → AllByRecursion IsOwn ss → i < length ss → x ≡ get_or ss i x → IsOwn x
own_at [] i x own lt is = absurd (omega arith)
own_at (y ∷ ys) zero x own lt is = subst IsOwn (sym is) own.0
own_at (y ∷ ys) (suc i) x own lt is = own_at ys i x own.1 (omega arith) is

pub own_read : (ss : List Bucket) (i : ℕ) (x : Bucket) → AreBucketed ss → i < length ss → x ≡ get_or ss i x → IsOwn x
own_read ss i x bucketed lt is = own_at ss i x bucketed.each lt is

pub own_same : (x s : Bucket) → bucket_sort_key s ≡ bucket_sort_key x → s.bindings.rows ≡ x.bindings.rows → IsOwn x → IsOwn s
own_same x s sort_key rows own = record {
  keys = subst (λ (p : List ℕ). AllByRecursion (λ b. member_sort_key b.key ≡ p) s.bindings.rows) (sym sort_key) (subst (AllByRecursion (λ b. member_sort_key b.key ≡ bucket_sort_key x)) (sym rows) own.keys);
  ascend = subst (SortKeysAscend binding_sort_key) (sym rows) own.ascend;
}

-- more room in one bucket
pub roomier_set : (sort_key : List ℕ) (ss : List Bucket) (i : ℕ) (x s : Bucket) → AreBucketed ss → index_in bucket_sort_key sort_key ss ≡ Ok i → x ≡ get_or ss i x → bucket_sort_key s ≡ bucket_sort_key x → s.bindings.rows ≡ x.bindings.rows → x.bindings.room ≤ s.bindings.room → AreRoomier ss (set ss i s)
roomier_set sort_key ss i x s bucketed found is key rows room =
    let at : IsBucketAt sort_key ss i x = bucket_found sort_key ss i x bucketed found is in
    let here : bucket_sort_key s ≡ sort_key = key ∙ at.sort_key_is in
    let found' : index_in bucket_sort_key (bucket_sort_key s) ss ≡ Ok i = ap (λ (p : List ℕ). index_in bucket_sort_key p ss) here ∙ found in
    let put : set_row bucket_sort_key s ss ≡ set ss i s = set_row_found bucket_sort_key s ss i found' in
    record {
      bucketed = subst AreBucketed put (bucketed_set s ss (own_same x s key rows (own_read ss i x bucketed at.within is)) bucketed);
      rows = joined_set ss i x s at.within is rows;
      room = λ p. subst (λ (new : List Bucket). (part_at p ss).room ≤ (part_at p new).room) put (room_set s ss (subst (λ (part : RowsAndRoom Binding). part.room ≤ s.bindings.room) (sym (ap (λ (q : List ℕ). part_at q ss) here ∙ at.part_is)) room) p);
    }

-- there the room is that of the bucket
pub set_part : (sort_key : List ℕ) (ss : List Bucket) (i : ℕ) (x s : Bucket) → AreBucketed ss → index_in bucket_sort_key sort_key ss ≡ Ok i → x ≡ get_or ss i x → bucket_sort_key s ≡ bucket_sort_key x → part_at sort_key (set ss i s) ≡ s.bindings
set_part sort_key ss i x s bucketed found is key =
    let at : IsBucketAt sort_key ss i x = bucket_found sort_key ss i x bucketed found is in
    let here : bucket_sort_key s ≡ sort_key = key ∙ at.sort_key_is in
    let found' : index_in bucket_sort_key (bucket_sort_key s) ss ≡ Ok i = ap (λ (p : List ℕ). index_in bucket_sort_key p ss) here ∙ found in
    ap (part_at sort_key) (sym (set_row_found bucket_sort_key s ss i found'))
    ∙ part_set sort_key s ss
    ∙ ap (λ (b : Bool). cond b s.bindings (part_at sort_key ss)) (ap (λ (p : List ℕ). same_sort_key p sort_key) here ∙ same_sort_key_itself sort_key)

-- ---- Without the empty buckets

clear_by : (s : Bucket) (ss kept : List Bucket) → joined kept ≡ joined ss → (b : Bool) → has_rows s ≡ b → joined (cond b (s ∷ kept) kept) ≡ s.bindings.rows ++ joined ss
unfolding joined
clear_by s ss kept rest true e = ap (λ (rows : List Binding). s.bindings.rows ++ rows) rest
clear_by s ss kept rest false e = rest ∙ empty_out s.bindings.rows (joined ss) e

pub joined_clear : (ss : List Bucket) → joined (filter has_rows ss) ≡ joined ss
unfolding joined
joined_clear [] = refl
joined_clear (s ∷ ss) = clear_by s ss (filter has_rows ss) (joined_clear ss) (has_rows s) refl

above_by : (p : List ℕ) (s : Bucket) (kept : List Bucket) → sort_key_cmp p (bucket_sort_key s) ≡ Less → SortKeysAbove bucket_sort_key p kept → (b : Bool) → SortKeysAbove bucket_sort_key p (cond b (s ∷ kept) kept)
above_by p s kept less rest true = (less, rest)
above_by p s kept less rest false = rest

above_clear : (p : List ℕ) (ss : List Bucket) → SortKeysAbove bucket_sort_key p ss → SortKeysAbove bucket_sort_key p (filter has_rows ss)
above_clear p [] above = tt
above_clear p (s ∷ ss) above = above_by p s (filter has_rows ss) above.0 (above_clear p ss above.1) (has_rows s)

ascend_by : (s : Bucket) (kept : List Bucket) → SortKeysAbove bucket_sort_key (bucket_sort_key s) kept → SortKeysAscend bucket_sort_key kept → (b : Bool) → SortKeysAscend bucket_sort_key (cond b (s ∷ kept) kept)
ascend_by s kept above rest true = (above, rest)
ascend_by s kept above rest false = rest

ascend_clear : (ss : List Bucket) → SortKeysAscend bucket_sort_key ss → SortKeysAscend bucket_sort_key (filter has_rows ss)
ascend_clear [] up = tt
ascend_clear (s ∷ ss) up = ascend_by s (filter has_rows ss) (above_clear (bucket_sort_key s) ss up.0) (ascend_clear ss up.1) (has_rows s)

each_by : (s : Bucket) (kept : List Bucket) → IsOwn s → AllByRecursion IsOwn kept → (b : Bool) → AllByRecursion IsOwn (cond b (s ∷ kept) kept)
each_by s kept own rest true = (own, rest)
each_by s kept own rest false = rest

each_clear : (ss : List Bucket) → AllByRecursion IsOwn ss → AllByRecursion IsOwn (filter has_rows ss)
each_clear [] own = tt
each_clear (s ∷ ss) own = each_by s (filter has_rows ss) own.0 (each_clear ss own.1) (has_rows s)

pub bucketed_clear : (ss : List Bucket) → AreBucketed ss → AreBucketed (filter has_rows ss)
bucketed_clear ss bucketed = record { ascend = ascend_clear ss bucketed.ascend; each = each_clear ss bucketed.each }

-- ---- Room, by key

room_is_by : (b : Bool) (s : Bucket) (o : Option Bucket) (rest : ℕ) → rest ≡ (part_of o).room → cond b s.bindings.room rest ≡ (part_of (cond b (Some s) o)).room
room_is_by true s o rest is = refl
room_is_by false s o rest is = is

room_is_all : (key : MemberKey) (ss : List Bucket) → room_of_key key (room_in ss) ≡ (part_of (row_at bucket_sort_key (member_sort_key key) ss)).room
unfolding room_of_key room_in bucket_sort_key
room_is_all key [] = refl
room_is_all key (s ∷ ss) = room_is_by (same_sort_key (member_sort_key s.key) (member_sort_key key)) s (row_at bucket_sort_key (member_sort_key key) ss) (room_of_key key (room_in ss)) (room_is_all key ss)

pub room_is : (key : MemberKey) (ss : List Bucket) → room_of_key key (room_in ss) ≡ (part_at (member_sort_key key) ss).room
unfolding part_at
room_is key ss = room_is_all key ss

-- ---- Before anything stands there

pub nothing_bucketed : (ss : List Bucket) (none : List Binding) → ss ≡ [] → none ≡ [] → AreKept ss none
nothing_bucketed ss none empty none_is = record {
  bucketed = record { ascend = subst (SortKeysAscend bucket_sort_key) (sym empty) tt; each = subst (AllByRecursion IsOwn) (sym empty) tt };
  none_is = none_is;
}

pub joined_none : (ss : List Bucket) → ss ≡ [] → joined ss ≡ []
unfolding joined
joined_none ss empty = ap joined empty

-- ---- Answers

pub looked : (ss lent : List Bucket) (key : MemberKey) (kind : ℕ) (text : List ℕ) (r : Result ℕ ℕ) → lent ≡ ss → kind ≡ key_kind key → text ≡ key_text key → r ≡ index_in bucket_sort_key (text_sort_key kind text) lent → r ≡ index_in bucket_sort_key (member_sort_key key) ss
unfolding member_sort_key
looked ss lent key kind text r same kind_is text_is is = is ∙ (λ i. index_in bucket_sort_key (text_sort_key (kind_is i) (text_is i)) (same i))

-- a bucket with a key stands at the sort key of that key
pub key_bucket : (s : Bucket) (key : MemberKey) → s.key ≡ key → bucket_sort_key s ≡ member_sort_key key
unfolding bucket_sort_key
key_bucket s key is = ap member_sort_key is

pub same_key_bucket : (s x : Bucket) → s.key ≡ x.key → bucket_sort_key s ≡ bucket_sort_key x
unfolding bucket_sort_key
same_key_bucket s x is = ap member_sort_key is

-- a kind of key and a text, of which a key is
pub key_is : (key : MemberKey) (kind : ℕ) (text : List ℕ) → kind ≡ key_kind key → text ≡ key_text key → text_sort_key kind text ≡ member_sort_key key
unfolding member_sort_key
key_is key kind text kind_is text_is = λ i. text_sort_key (kind_is i) (text_is i)

pub own_rows : (key : MemberKey) (kind : ℕ) (text : List ℕ) (lent rows : List Binding) → kind ≡ key_kind key → text ≡ key_text key → lent ≡ rows_under binding_sort_key (text_sort_key kind text) rows → lent ≡ bindings_of_key key rows
unfolding bindings_of_key
own_rows key kind text lent rows kind_is text_is is = is ∙ ap (λ (t : List ℕ). rows_under binding_sort_key t rows) (key_is key kind text kind_is text_is)
