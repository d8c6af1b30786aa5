-- The slots of a generation, of which those with addresses of IPv4 stand by themselves.
use Rattle.std.proofs.Common.{◌≡◌, Bool, true, false, cond, List, [], ◌∷◌, ◌++◌, Option, Some, None, if◌then◌else◌, refl, sym, ap, ◌∙◌, subst}
use Rattle.std.specs.Map.{lookup}
use Rattle.std.specs.Ordering.{nat_cmp, is_eq}
use Rattle.std.specs.BTreeMap.{is_at}
use Rattle.std.specs.Cmp.{both_ways}
use Rattle.std.specs.declared.cmp.Ordering.TheVariants.{Equal}
use Rattle.table_model.specs.History.{Begun}
use Rattle.table_model.specs.declared.segment.Segment.{Segment}
use Rattle.flow_table.specs.Kept.{kept_after}
use Rattle.flow_table.specs.Keys.{Key, key_cmp}
use Rattle.flow_table.specs.Held.{slot_at, IsWritten}
use Rattle.flow_table.specs.Slots.{ShortKey, short_cmp, widened, shortened, narrowed, wide_slot, wide_slots, slots_of, IsPut}
use Rattle.std.specs.Prelude.{IsSome, OnOk}
use Rattle.std.specs.declared.result.Result.{Result}
use Rattle.std.specs.declared.result.Result.TheVariants.{Ok, Err}
use Rattle.flow_table.proofs.PairLaws.{then_equal}
use Rattle.flow_table.proofs.HeldLaws.{written_by}
use Rattle.flow_table.proofs.KeyLaws.{is_equal, same_number, number_itself, equal_then, at_same, at_itself}

abbrev Kept : Type 0
Kept = Option (Option Begun)

abbrev pub Slots : Type 0
Slots = List (Key × Option Begun)

abbrev Shorts : Type 0
Shorts = List (ShortKey × Option Begun)

-- ---- Short keys that compare as equal are one

short_tie : (k l : ShortKey) → short_cmp k l ≡ Equal → k ≡ l
short_tie k l e =
    let near = then_equal (nat_cmp k.near l.near) _ e in
    let ports = then_equal (nat_cmp k.first_port l.first_port) (nat_cmp k.second_port l.second_port) near.1 in
    λ i. record {
      near = same_number k.near l.near near.0 i;
      first_port = same_number k.first_port l.first_port ports.0 i;
      second_port = same_number k.second_port l.second_port ports.1 i;
    }

short_same : (k l : ShortKey) → is_at (short_cmp k) l ≡ true → k ≡ l
short_same k l e = short_tie k l (is_equal (short_cmp k l) e)

short_itself : (k : ShortKey) → is_at (short_cmp k) k ≡ true
short_itself k = ap is_eq (equal_then _ _ (number_itself k.near) (equal_then _ _ (number_itself k.first_port) (number_itself k.second_port)))

-- ---- The short key of a key

is_narrowed : (q : Key) (s : ShortKey) → Some s ≡ narrowed q → q ≡ widened s
unfolding narrowed
is_narrowed q s e = by (is_at (key_cmp q) (widened (shortened q))) refl e
  where
    by : (b : Bool) → is_at (key_cmp q) (widened (shortened q)) ≡ b → Some s ≡ (if b then Some (shortened q) else None) → q ≡ widened s
    by true h f = at_same q (widened (shortened q)) h ∙ ap widened (inner (shortened q) s f)
      where
        inner : (k l : ShortKey) → Some l ≡ Some k → k ≡ l
        inner k l g = cc
    by false h f = cc

short_of_wide : (s : ShortKey) → shortened (widened s) ≡ s
unfolding shortened widened
short_of_wide s = refl

narrows : (s : ShortKey) → narrowed (widened s) ≡ Some s
unfolding narrowed
narrows s =
    let test : is_at (key_cmp (widened s)) (widened (shortened (widened s))) ≡ true = ap (λ k. is_at (key_cmp (widened s)) (widened k)) (short_of_wide s) ∙ at_itself (widened s) in
    ap (λ b. if b then Some (shortened (widened s)) else None) test ∙ ap (λ k. Some k) (short_of_wide s)

some_same : (k l : ShortKey) → Some k ≡ Some l → k ≡ l
some_same k l e = cc

none_some : (A : Type 0) (s : ShortKey) → None ≡ Some s → A
none_some A s e = absurd (cc)

at_wide : (s k : ShortKey) → is_at (key_cmp (widened s)) (widened k) ≡ is_at (short_cmp s) k
at_wide s k =
    both_ways (is_at (key_cmp (widened s)) (widened k)) (is_at (short_cmp s) k)
    (λ e. let f : s ≡ k = some_same s k (sym (narrows s) ∙ ap narrowed (at_same (widened s) (widened k) e) ∙ narrows k) in let P : ShortKey → Type 0 = λ m. is_at (short_cmp s) m ≡ true in subst P f (short_itself s))
    (λ e. let P : ShortKey → Type 0 = λ m. is_at (key_cmp (widened s)) (widened m) ≡ true in subst P (short_same s k e) (at_itself (widened s)))

not_at_wide : (q : Key) (k : ShortKey) → None ≡ narrowed q → is_at (key_cmp q) (widened k) ≡ false
not_at_wide q k e = by (is_at (key_cmp q) (widened k)) refl
  where
    by : (b : Bool) → is_at (key_cmp q) (widened k) ≡ b → b ≡ false
    by true h = none_some _ k (e ∙ ap narrowed (at_same q (widened k) h) ∙ narrows k)
    by false h = refl

-- ---- A look-up

over : Kept → Kept → Kept
over None below = below
over (Some begun) below = Some begun

slot_in_both : (above below : Slots) (q : Key) → slot_at (above ++ below) q ≡ over (slot_at above q) (slot_at below q)
unfolding slot_at over
slot_in_both [] below q = refl
slot_in_both (one ∷ above) below q = by (is_at (key_cmp q) one.0) (slot_in_both above below q)
  where
    by : (b : Bool) → slot_at (above ++ below) q ≡ over (slot_at above q) (slot_at below q) → cond b (Some one.1) (slot_at (above ++ below) q) ≡ over (cond b (Some one.1) (slot_at above q)) (slot_at below q)
    by true rest = refl
    by false rest = rest

pub slot_above : (above below : Slots) (q : Key) (begun : Option Begun) → Some begun ≡ slot_at above q → Some begun ≡ slot_at (above ++ below) q
unfolding over
slot_above above below q begun e = ap (λ o. over o (slot_at below q)) e ∙ sym (slot_in_both above below q)

pub slot_below : (above below : Slots) (q : Key) → None ≡ slot_at above q → slot_at below q ≡ slot_at (above ++ below) q
unfolding over
slot_below above below q e = ap (λ o. over o (slot_at below q)) e ∙ sym (slot_in_both above below q)

-- ---- A look-up among slots of IPv4

slot_in_short : (short : Shorts) (s : ShortKey) → slot_at (wide_slots short) (widened s) ≡ lookup (is_at (short_cmp s)) short
unfolding slot_at wide_slot wide_slots
slot_in_short [] s = refl
slot_in_short (one ∷ short) s = ap (λ b. cond b (Some one.1) (slot_at (wide_slots short) (widened s))) (at_wide s one.0) ∙ ap (λ o. cond (is_at (short_cmp s) one.0) (Some one.1) o) (slot_in_short short s)

pub not_in_short : (short : Shorts) (q : Key) → None ≡ narrowed q → slot_at (wide_slots short) q ≡ None
unfolding slot_at wide_slot wide_slots
not_in_short [] q e = refl
not_in_short (one ∷ short) q e = ap (λ b. cond b (Some one.1) (slot_at (wide_slots short) q)) (not_at_wide q one.0 e) ∙ not_in_short short q e

pub none_in_short : (short : Shorts) (q : Key) → None ≡ narrowed q → None ≡ slot_at (wide_slots short) q
none_in_short short q e = sym (not_in_short short q e)

pub by_short : (short : Shorts) (q : Key) (s : ShortKey) → Some s ≡ narrowed q → lookup (is_at (short_cmp s)) short ≡ slot_at (wide_slots short) q
by_short short q s e =
    let P : Key → Type 0 = λ k. lookup (is_at (short_cmp s)) short ≡ slot_at (wide_slots short) k in
    subst P (sym (is_narrowed q s e)) (sym (slot_in_short short s))

-- ---- A slot that is put among those of IPv4

abbrev pub IsShortPut : ShortKey → Option Begun → Shorts → Shorts → Type 0
IsShortPut s v before after = (q : ShortKey) → lookup (is_at (short_cmp q)) after ≡ cond (is_at (short_cmp s) q) (Some v) (lookup (is_at (short_cmp q)) before)

pub put_wide : (s : ShortKey) (v : Option Begun) (before after : Shorts) → IsShortPut s v before after → IsPut (widened s) v (wide_slots before) (wide_slots after)
put_wide s v before after u q = by (narrowed q) refl
  where
    Goal : Key → Type 0
    Goal k = slot_at (wide_slots after) k ≡ cond (is_at (key_cmp (widened s)) k) (Some v) (slot_at (wide_slots before) k)

    at : (t : ShortKey) → Goal (widened t)
    at t =
        slot_in_short after t ∙ u t
        ∙ ap (λ b. cond b (Some v) (lookup (is_at (short_cmp t)) before)) (sym (at_wide s t))
        ∙ ap (λ o. cond (is_at (key_cmp (widened s)) (widened t)) (Some v) o) (sym (slot_in_short before t))

    apart : None ≡ narrowed q → (b : Bool) → is_at (key_cmp (widened s)) q ≡ b → b ≡ false
    apart e true h = none_some _ s (e ∙ ap narrowed (sym (at_same (widened s) q h)) ∙ narrows s)
    apart e false h = refl

    by : (o : Option ShortKey) → o ≡ narrowed q → Goal q
    by (Some t) e = subst Goal (sym (is_narrowed q t e)) (at t)
    by None e =
        not_in_short after q e ∙ sym (not_in_short before q e)
        ∙ ap (λ b. cond b (Some v) (slot_at (wide_slots before) q)) (sym (apart e (is_at (key_cmp (widened s)) q) refl))

put_narrowed : (k : Key) (s : ShortKey) (v : Option Begun) (before after : Shorts) → Some s ≡ narrowed k → IsShortPut s v before after → IsPut k v (wide_slots before) (wide_slots after)
put_narrowed k s v before after e u =
    let P : Key → Type 0 = λ j. IsPut j v (wide_slots before) (wide_slots after) in
    subst P (sym (is_narrowed k s e)) (put_wide s v before after u)

pub written_short : (k : Key) (s : ShortKey) (p : Segment) (before after : Shorts) (old w : Option Begun) → Some s ≡ narrowed k → Some old ≡ lookup (is_at (short_cmp s)) before → w ≡ kept_after p old → IsShortPut s w before after → IsWritten k p (wide_slots before) (wide_slots after)
written_short k s p before after old w e f g u = written_by k p (wide_slots before) (wide_slots after) old w (f ∙ by_short before k s e) g (put_narrowed k s w before after e u)

-- ---- A slot of all that is put

pub put_above : (k : Key) (s : ShortKey) (v : Option Begun) (before after below : Slots) → Some s ≡ narrowed k → IsPut (widened s) v before after → IsPut k v (before ++ below) (after ++ below)
unfolding over
put_above k s v before after below e u q =
    slot_in_both after below q
    ∙ ap (λ o. over o (slot_at below q)) (u q ∙ ap (λ j. cond (is_at (key_cmp j) q) (Some v) (slot_at before q)) (sym (is_narrowed k s e)))
    ∙ by (is_at (key_cmp k) q)
    ∙ ap (λ o. cond (is_at (key_cmp k) q) (Some v) o) (sym (slot_in_both before below q))
  where
    by : (b : Bool) → over (cond b (Some v) (slot_at before q)) (slot_at below q) ≡ cond b (Some v) (over (slot_at before q) (slot_at below q))
    by true = refl
    by false = refl

put_under : (k : Key) (v : Option Begun) (above before after : Slots) → slot_at above k ≡ None → IsPut k v before after → IsPut k v (above ++ before) (above ++ after)
unfolding over
put_under k v above before after none u q = slot_in_both above after q ∙ by (is_at (key_cmp k) q) refl ∙ ap (λ o. cond (is_at (key_cmp k) q) (Some v) o) (sym (slot_in_both above before q))
  where
    at : (b : Bool) → is_at (key_cmp k) q ≡ b → (o : Kept) → slot_at above q ≡ o → over o (cond b (Some v) (slot_at before q)) ≡ cond b (Some v) (over o (slot_at before q))
    at true h None f = refl
    at true h (Some w) f = let P : Key → Type 0 = λ j. slot_at above j ≡ None in let g = subst P (at_same k q h) none in absurd (cc)
    at false h o f = refl

    by : (b : Bool) → is_at (key_cmp k) q ≡ b → over (slot_at above q) (slot_at after q) ≡ cond b (Some v) (over (slot_at above q) (slot_at before q))
    by b h = ap (λ o. over (slot_at above q) o) (u q ∙ ap (λ c. cond c (Some v) (slot_at before q)) h) ∙ at b h (slot_at above q) refl

pub put_below : (k : Key) (v : Option Begun) (short : Shorts) (before after : Slots) → None ≡ narrowed k → IsPut k v before after → IsPut k v (wide_slots short ++ before) (wide_slots short ++ after)
put_below k v short before after e u = put_under k v (wide_slots short) before after (not_in_short short k e) u

-- ---- A slot of all that is written

there_above : (above below : Slots) (q : Key) (begun : Option Begun) → slot_at above q ≡ Some begun → slot_at (above ++ below) q ≡ Some begun
unfolding over
there_above above below q begun e = slot_in_both above below q ∙ ap (λ o. over o (slot_at below q)) e

pub some_above : (above below : Slots) (q : Key) → IsSome (slot_at above q) → IsSome (slot_at (above ++ below) q)
unfolding over
some_above above below q h = rw (slot_in_both above below q) (by (slot_at above q) h)
  where
    by : (o : Kept) → IsSome o → IsSome (over o (slot_at below q))
    by None i = absurd (cc)
    by (Some begun) i = i

pub written_above : (k : Key) (p : Segment) (before after below : Slots) → IsSome (slot_at before k) → IsWritten k p before after → IsWritten k p (before ++ below) (after ++ below)
unfolding over
written_above k p before after below h w = record {
  here = λ begun e. there_above after below k (kept_after p begun) (w.here begun (kept (slot_at before k) refl h begun (sym (slot_in_both before below k) ∙ e)));
  others = λ q c. slot_in_both after below q ∙ ap (λ o. over o (slot_at below q)) (w.others q c) ∙ sym (slot_in_both before below q);
}
  where
    kept : (o : Kept) → slot_at before k ≡ o → IsSome o → (begun : Option Begun) → over (slot_at before k) (slot_at below k) ≡ Some begun → slot_at before k ≡ Some begun
    kept None e i begun f = absurd (cc)
    kept (Some one) e i begun f = e ∙ sym (ap (λ o. over o (slot_at below k)) e) ∙ f

pub written_below : (k : Key) (p : Segment) (above before after : Slots) → slot_at above k ≡ None → IsWritten k p before after → IsWritten k p (above ++ before) (above ++ after)
unfolding over
written_below k p above before after none w = record {
  here = λ begun e. down after ∙ w.here begun (sym (down before) ∙ e);
  others = λ q c. slot_in_both above after q ∙ ap (λ o. over (slot_at above q) o) (w.others q c) ∙ sym (slot_in_both above before q);
}
  where
    down : (below : Slots) → slot_at (above ++ below) k ≡ slot_at below k
    down below = slot_in_both above below k ∙ ap (λ o. over o (slot_at below k)) none

pub some_below : (above below : Slots) (q : Key) → slot_at above q ≡ None → IsSome (slot_at below q) → IsSome (slot_at (above ++ below) q)
unfolding over
some_below above below q e h = rw (slot_in_both above below q ∙ ap (λ o. over o (slot_at below q)) e) h

pub none_below : (above below : Slots) (q : Key) → slot_at above q ≡ None → slot_at below q ≡ None → slot_at (above ++ below) q ≡ None
unfolding over
none_below above below q e f = slot_in_both above below q ∙ ap (λ o. over o (slot_at below q)) e ∙ f

-- ---- Where there is memory, and where there are none

pub put_above_ok : {V E : Type 0} (k : Key) (s : ShortKey) (v : Option Begun) (before after below : Slots) (result : Result V E) → Some s ≡ narrowed k → OnOk result (IsPut (widened s) v before after) → OnOk result (IsPut k v (before ++ below) (after ++ below))
put_above_ok k s v before after below (Ok one) e u = put_above k s v before after below e u
put_above_ok k s v before after below (Err one) e u = u

pub put_below_ok : {V E : Type 0} (k : Key) (v : Option Begun) (short : Shorts) (before after : Slots) (result : Result V E) → None ≡ narrowed k → OnOk result (IsPut k v before after) → OnOk result (IsPut k v (wide_slots short ++ before) (wide_slots short ++ after))
put_below_ok k v short before after (Ok one) e u = put_below k v short before after e u
put_below_ok k v short before after (Err one) e u = u

pub no_slots : (short : Shorts) (long : Slots) → short ≡ [] → long ≡ [] → slots_of short long ≡ []
unfolding slots_of wide_slots
no_slots short long e f = rw (e, f) refl
