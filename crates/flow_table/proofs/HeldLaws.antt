-- What a table holds, as slots are made, written and forgotten.
use Rattle.std.proofs.Common.{◌≡◌, ℕ, ◌+◌, ◌-◌, ◌<◌, ◌≤◌, Bool, true, false, ◌||◌, nat_le, cond, IsTrue, List, [], ◌∷◌, ◌++◌, Option, Some, None, inl, inr, if◌then◌else◌, refl, sym, ap, ◌∙◌, subst, arith}
use Rattle.std.specs.Prelude.{IsSome, option_map}
use Rattle.std.specs.List.{list_any}
use Rattle.std.specs.Option.{is_none}
use Rattle.std.specs.BTreeMap.{is_at}
use Rattle.std.proofs.lemmas.Bool.Decides.{nat_tests}
use Rattle.table_model.specs.History.{Endpoint, Begun, last_packet_at, is_between, is_past, opens, resets, with_moment}
use Rattle.table_model.specs.declared.segment.Segment.{Segment}
use Rattle.flow_table.specs.Kept.{StandsFor, is_since, beginner_kept, kept_after}
use Rattle.flow_table.specs.Keys.{Key, key_cmp, key_of}
use Rattle.flow_table.specs.Held.{Held, with_newest, slot_at, filled, slot_first, held_at, held_between, flows_of, IsNoted, BeginsInTime, IsSound, is_of_generation, AreOfGeneration, HoldsAll, IsWritten, held_of}
use Rattle.flow_table.specs.Slots.{IsPut}
use Rattle.flow_table.proofs.KeyLaws.{at_same, at_itself, at_turned, between_at}
use Rattle.flow_table.proofs.Histories.{MayForget, HasNoted, and_both, any_push, nothing_stands, noted_stands}

abbrev Slots : Type 0
Slots = List (Key × Option Begun)

-- ---- A look-up

pub held_in : (t : Held) (q : Key) (begun : Option Begun) → Some begun ≡ slot_at t.younger q → begun ≡ held_at t q
unfolding held_at slot_first
held_in t q begun e = ap (λ y. slot_first y (slot_at t.elder q)) e

pub held_out : (t : Held) (q : Key) (elder : Option (Option Begun)) → None ≡ slot_at t.younger q → elder ≡ slot_at t.elder q → filled elder ≡ held_at t q
unfolding held_at slot_first
held_out t q elder e f = ap filled f ∙ ap (λ y. slot_first y (slot_at t.elder q)) e

pub held_nowhere : (t : Held) (q : Key) → None ≡ slot_at t.younger q → None ≡ slot_at t.elder q → None ≡ held_at t q
unfolding filled
held_nowhere t q e f = held_out t q None e f

-- ---- The slot that stands apart

over : Option (Option Begun) → Option (Option Begun) → Option (Option Begun)
over None below = below
over (Some begun) below = Some begun

slot_over : (newest : Option (Key × Option Begun)) (slots : Slots) (q : Key) → slot_at (with_newest newest slots) q ≡ over (slot_at (with_newest newest []) q) (slot_at slots q)
unfolding slot_at with_newest over
slot_over None slots q = refl
slot_over (Some one) slots q = by (is_at (key_cmp q) one.0)
  where
    by : (b : Bool) → cond b (Some one.1) (slot_at slots q) ≡ over (cond b (Some one.1) None) (slot_at slots q)
    by true = refl
    by false = refl

pub held_apart : (last : Option ℕ) (since : ℕ) (newest : Option (Key × Option Begun)) (younger elder : Slots) (q : Key) (begun : Option Begun) → Some begun ≡ slot_at (with_newest newest []) q → begun ≡ held_at (held_of last since newest younger elder) q
unfolding over
held_apart last since newest younger elder q begun e = held_in (held_of last since newest younger elder) q begun (ap (λ y. over y (slot_at younger q)) e ∙ sym (slot_over newest younger q))

below_apart : (newest : Option (Key × Option Begun)) (younger : Slots) (q : Key) → None ≡ slot_at (with_newest newest []) q → slot_at younger q ≡ slot_at (with_newest newest younger) q
unfolding slot_at over
below_apart newest younger q e = ap (λ y. over y (slot_at younger q)) e ∙ sym (slot_over newest younger q)

pub held_below : (last : Option ℕ) (since : ℕ) (newest : Option (Key × Option Begun)) (younger elder : Slots) (q : Key) → None ≡ slot_at (with_newest newest []) q → slot_first (slot_at younger q) (slot_at elder q) ≡ held_at (held_of last since newest younger elder) q
unfolding held_at
held_below last since newest younger elder q e = ap (λ y. slot_first y (slot_at elder q)) (below_apart newest younger q e)

held_roomy : (last : Option ℕ) (since : ℕ) (newest : Option (Key × Option Begun)) (younger elder : Slots) (q : Key) → IsTrue (is_none newest) → slot_first (slot_at younger q) (slot_at elder q) ≡ held_at (held_of last since newest younger elder) q
unfolding held_at with_newest
held_roomy last since None younger elder q room = refl
held_roomy last since (Some one) younger elder q room = absurd (cc)

-- ---- The new table

nowhere : (slots : Slots) (q : Key) → slots ≡ [] → slot_at slots q ≡ None
unfolding slot_at
nowhere slots q e = rw e refl

no_slot : (slots : Slots) (q : Key) → slots ≡ [] → IsSome (slot_at slots q) → ⊥
no_slot slots q e = by (slot_at slots q) (nowhere slots q e)
  where
    by : (o : Option (Option Begun)) → o ≡ None → IsSome o → ⊥
    by None e h = cc
    by (Some begun) e h = cc

new_sound : (younger elder : Slots) → younger ≡ [] → elder ≡ [] → IsSound (held_of None 0 None younger elder)
unfolding with_newest
new_sound younger elder e f = record {
  begun = refl;
  elder = λ q begun h. let n = nowhere elder q f in absurd (cc);
  noted = λ q begun h. let n = nowhere elder q f in absurd (cc);
  younger = λ q begun h. let n = nowhere younger q e in absurd (cc);
}

new_stands : (since : ℕ) (younger elder : Slots) → younger ≡ [] → elder ≡ [] → StandsFor [] (flows_of (held_of None since None younger elder))
unfolding flows_of held_between with_newest
new_stands since younger elder e f =
    let t : Held = held_of None since None younger elder in
    nothing_stands (flows_of t) refl (λ a b. sym (held_nowhere t (key_of a b) (sym (nowhere younger (key_of a b) e)) (sym (nowhere elder (key_of a b) f))))

pub new_holds : (history : List Segment) (younger elder : Slots) → history ≡ [] → younger ≡ [] → elder ≡ [] → HoldsAll history (held_of None 0 None younger elder)
unfolding with_newest
new_holds history younger elder none e f = record {
  sound = new_sound younger elder e f;
  stands = subst (λ (h : List Segment). StandsFor h (flows_of (held_of None 0 None younger elder))) (sym none) (new_stands 0 younger elder e f);
  recent = λ q h. absurd (no_slot younger q e h);
  elder = (0, λ q h. absurd (no_slot elder q f h));
}

-- ---- A slot more

flows_same : (t u : Held) → u.last ≡ t.last → ((q : Key) → held_at u q ≡ held_at t q) → flows_of u ≡ flows_of t
unfolding flows_of held_between
flows_same t u e h = λ i. record { last = e i; kept = λ a b. h (key_of a b) i }

puts_first : (k : Key) (v : Option Begun) (slots : Slots) → IsPut k v slots ((k, v) ∷ slots)
unfolding slot_at
puts_first k v slots q = ap (λ b. cond b (Some v) (slot_at slots q)) (at_turned k q)

-- the slot that stood apart is in the younger generation
slots_alike : (k : Key) (v : Option Begun) (before after : Slots) → IsPut k v before after → (q : Key) → slot_at after q ≡ slot_at (with_newest (Some (k, v)) before) q
unfolding with_newest
slots_alike k v before after u q = u q ∙ sym (puts_first k v before q)

room_same : (last : Option ℕ) (since : ℕ) (newest : Option (Key × Option Begun)) (younger after elder : Slots) (k : Key) (v : Option Begun) → newest ≡ Some (k, v) → IsPut k v younger after → flows_of (held_of last since None after elder) ≡ flows_of (held_of last since newest younger elder)
unfolding held_at with_newest
room_same last since newest younger after elder k v e u =
    let P : Option (Key × Option Begun) → Type 0 = λ o. flows_of (held_of last since None after elder) ≡ flows_of (held_of last since o younger elder) in
    subst P (sym e) (flows_same (held_of last since (Some (k, v)) younger elder) (held_of last since None after elder) refl (λ q. ap (λ y. slot_first y (slot_at elder q)) (slots_alike k v younger after u q)))

room_sound : (last : Option ℕ) (since : ℕ) (newest : Option (Key × Option Begun)) (younger after elder : Slots) (k : Key) (v : Option Begun) → IsSound (held_of last since newest younger elder) → newest ≡ Some (k, v) → IsPut k v younger after → IsSound (held_of last since None after elder)
unfolding slot_at with_newest
room_sound last since newest younger after elder k v s e u =
    let S : Option (Key × Option Begun) → Type 0 = λ o. IsSound (held_of last since o younger elder) in
    let sound : IsSound (held_of last since (Some (k, v)) younger elder) = subst S e s in
    record { begun = sound.begun; elder = sound.elder; noted = sound.noted; younger = λ q begun h. sound.younger q begun (sym (slots_alike k v younger after u q) ∙ h) }

room_recent : (history : List Segment) (since : ℕ) (newest : Option (Key × Option Begun)) (younger after : Slots) (k : Key) (v : Option Begun) → AreOfGeneration history since (with_newest newest younger) → newest ≡ Some (k, v) → IsPut k v younger after → AreOfGeneration history since after
room_recent history since newest younger after k v are e u q h =
    let S : Option (Key × Option Begun) → Type 0 = λ o. AreOfGeneration history since (with_newest o younger) in
    let apart : AreOfGeneration history since (with_newest (Some (k, v)) younger) = subst S e are in
    apart q (subst (λ (o : Option (Option Begun)). IsSome o) (slots_alike k v younger after u q) h)

pub room_holds : (history : List Segment) (last : Option ℕ) (since : ℕ) (newest : Option (Key × Option Begun)) (younger after elder : Slots) (k : Key) (v : Option Begun) → HoldsAll history (held_of last since newest younger elder) → newest ≡ Some (k, v) → IsPut k v younger after → HoldsAll history (held_of last since None after elder)
unfolding with_newest
room_holds history last since newest younger after elder k v holds e u = record {
  sound = room_sound last since newest younger after elder k v holds.sound e u;
  stands = subst (StandsFor history) (sym (room_same last since newest younger after elder k v e u)) holds.stands;
  recent = room_recent history since newest younger after k v holds.recent e u;
  elder = holds.elder;
}

inner_same : (a b : Option Begun) → Some a ≡ Some b → a ≡ b
inner_same a b e = cc

-- ---- A packet noted

forget_nothing : (m : ℕ) (kept : Option Begun) → MayForget m kept kept
forget_nothing m None = refl
forget_nothing m (Some begun) = inl refl

between_slot : (k : Key) (p : Segment) (a b : Endpoint) (c : Bool) → k ≡ key_of p.source p.destination → is_between a b p ≡ c → is_at (key_cmp k) (key_of a b) ≡ c
between_slot k p a b c e h = ap (λ j. is_at (key_cmp j) (key_of a b)) e ∙ sym (between_at a b p) ∙ h

-- at k what is kept after the packet, and else what was there before
pub record Writes (t : Held) (before : Slots) (k : Key) (p : Segment) (after : Slots) : Type 0 where
  pub here : slot_at after k ≡ Some (kept_after p (held_at t k))
  pub others : (q : Key) → is_at (key_cmp k) q ≡ false → slot_at after q ≡ slot_at before q

writes_at : (t : Held) (before after : Slots) (k q : Key) (p : Segment) → Writes t before k p after → is_at (key_cmp k) q ≡ true → slot_at after q ≡ Some (kept_after p (held_at t q))
writes_at t before after k q p w e = let P : Key → Type 0 = λ j. slot_at after j ≡ Some (kept_after p (held_at t j)) in subst P (at_same k q e) w.here

-- without a turn
abbrev pub kept_on : Held → Bool → Slots → ℕ → Held
kept_on t room after m = record { last = Some m; since = t.since; has_room = room; younger = after; elder = t.elder }

pub kept_on_noted : (t : Held) (room : Bool) (after : Slots) (k : Key) (p : Segment) → k ≡ key_of p.source p.destination → Writes t t.younger k p after → HasNoted p (flows_of t) (flows_of (kept_on t room after p.at))
unfolding flows_of held_between held_at slot_first
kept_on_noted t room after k p e w = record {
  last = refl;
  here = λ a b c. ap (λ y. slot_first y (slot_at t.elder (key_of a b))) (writes_at t t.younger after k (key_of a b) p w (between_slot k p a b true e c));
  others = λ a b c. let P : Option (Option Begun) → Type 0 = λ y. MayForget p.at (held_at t (key_of a b)) (slot_first y (slot_at t.elder (key_of a b))) in subst P (sym (w.others (key_of a b) (between_slot k p a b false e c))) (forget_nothing p.at (held_at t (key_of a b)));
}

-- with a turn: the elder generation goes, and the younger one becomes it
abbrev pub turned : Held → Bool → Slots → ℕ → Held
turned t room after m = record { last = Some m; since = m; has_room = room; younger = after; elder = t.younger }

long_past : (at since m : ℕ) → at ≤ since → 7440 < m - since → IsTrue (is_past (Some m) at)
unfolding is_past
long_past at since m h i = grind (arith, nat_tests)

-- what is only in the elder generation is past
forget_elder : (t : Held) (q : Key) (m : ℕ) → IsSound t → 7440 < m - t.since → MayForget m (held_at t q) (filled (slot_at t.younger q))
unfolding held_at slot_first filled
forget_elder t q m s h = by (slot_at t.younger q)
  where
    old : (o : Option (Option Begun)) → slot_at t.elder q ≡ o → MayForget m (filled o) None
    old None e = refl
    old (Some None) e = refl
    old (Some (Some begun)) e = inr (refl, long_past begun.1 t.since m (s.elder q begun e) h)

    by : (o : Option (Option Begun)) → MayForget m (slot_first o (slot_at t.elder q)) (filled o)
    by None = old (slot_at t.elder q) refl
    by (Some kept) = forget_nothing m kept

turned_noted : (t : Held) (room : Bool) (none after : Slots) (k : Key) (p : Segment) → IsSound t → 7440 < p.at - t.since → none ≡ [] → k ≡ key_of p.source p.destination → Writes t none k p after → HasNoted p (flows_of t) (flows_of (turned t room after p.at))
unfolding flows_of held_between held_at slot_first
turned_noted t room none after k p s late n e w = record {
  last = refl;
  here = λ a b c. ap (λ y. slot_first y (slot_at t.younger (key_of a b))) (writes_at t none after k (key_of a b) p w (between_slot k p a b true e c));
  others = λ a b c. let P : Option (Option Begun) → Type 0 = λ y. MayForget p.at (held_at t (key_of a b)) (slot_first y (slot_at t.younger (key_of a b))) in subst P (sym (w.others (key_of a b) (between_slot k p a b false e c) ∙ nowhere none (key_of a b) n)) (forget_elder t (key_of a b) p.at s late);
}

-- ---- Soundness of a packet noted

noted_on : (last : Option ℕ) (m at : ℕ) → IsTrue (is_since last m) → IsNoted last at → at ≤ m
unfolding is_since
noted_on None m at h i = absurd i
noted_on (Some l) m at h i = grind (arith, nat_tests)

kept_by : (o r : Bool) (source : Endpoint) (m : ℕ) (began : Option Endpoint) (begun : Begun) → (if o then Some (source, m) else (if r then None else option_map (with_moment m) began)) ≡ Some begun → begun.1 ≡ m
unfolding with_moment
kept_by true r source m began begun e = cc
kept_by false true source m began begun e = cc
kept_by false false source m None begun e = cc
kept_by false false source m (Some b) begun e = cc

kept_at : (p : Segment) (kept : Option Begun) (begun : Begun) → kept_after p kept ≡ Some begun → begun.1 ≡ p.at
unfolding kept_after
kept_at p kept begun e = kept_by (opens p) (resets p) p.source p.at (beginner_kept kept p.at) begun e

writes_noted : (t : Held) (before after : Slots) (k : Key) (p : Segment) → ((q : Key) (begun : Begun) → slot_at before q ≡ Some (Some begun) → begun.1 ≤ p.at) → Writes t before k p after → (q : Key) (begun : Begun) → slot_at after q ≡ Some (Some begun) → begun.1 ≤ p.at
writes_noted t before after k p h w q begun e = by (is_at (key_cmp k) q) refl
  where
    by : (b : Bool) → is_at (key_cmp k) q ≡ b → begun.1 ≤ p.at
    by true c = let f : begun.1 ≡ p.at = kept_at p (held_at t q) begun (inner_same _ (Some begun) (sym (writes_at t before after k q p w c) ∙ e)) in omega arith
    by false c = h q begun (sym (w.others q c) ∙ e)

younger_noted : (t : Held) (p : Segment) → IsSound t → IsTrue (is_since t.last p.at) → (q : Key) (begun : Begun) → slot_at t.younger q ≡ Some (Some begun) → begun.1 ≤ p.at
younger_noted t p s i q begun e = noted_on t.last p.at begun.1 i (s.younger q begun e)

since_before : (last : Option ℕ) (since m : ℕ) → IsTrue (is_since last m) → BeginsInTime last since → since ≤ m
unfolding is_since
since_before None since m h b = omega arith
since_before (Some l) since m h b = grind (arith, nat_tests)

pub kept_on_sound : (t : Held) (room : Bool) (after : Slots) (k : Key) (p : Segment) → IsSound t → IsTrue (is_since t.last p.at) → p.at ≤ t.since + 7440 → Writes t t.younger k p after → IsSound (kept_on t room after p.at)
kept_on_sound t room after k p s i near w = record {
  begun = (since_before t.last t.since p.at i s.begun, near);
  elder = s.elder;
  noted = λ q begun e. noted_on t.last p.at begun.1 i (s.noted q begun e);
  younger = writes_noted t t.younger after k p (younger_noted t p s i) w;
}

turned_sound : (t : Held) (room : Bool) (none after : Slots) (k : Key) (p : Segment) → IsSound t → IsTrue (is_since t.last p.at) → none ≡ [] → Writes t none k p after → IsSound (turned t room after p.at)
turned_sound t room none after k p s i n w = record {
  begun = (omega arith, omega arith);
  elder = younger_noted t p s i;
  noted = younger_noted t p s i;
  younger = writes_noted t none after k p (λ q begun e. let f = nowhere none q n in absurd (cc)) w;
}

-- ---- Of which generation slots are, with one packet more

or_left : (a b : Bool) → IsTrue a → IsTrue (a || b)
or_left true b h = refl
or_left false b h = absurd (cc)

or_right : (a b : Bool) → IsTrue b → IsTrue (a || b)
or_right true b h = refl
or_right false b h = h

is_of : (since : ℕ) (k q : Key) (p : Segment) → k ≡ key_of p.source p.destination → since ≤ p.at → p.at ≤ since + 7440 → is_at (key_cmp k) q ≡ true → IsTrue (is_of_generation since q p)
unfolding is_of_generation
is_of since k q p e from to h =
    let begun : IsTrue (nat_le since p.at) = grind (arith, nat_tests) in
    let ended : IsTrue (nat_le p.at (since + 7440)) = grind (arith, nat_tests) in
    and_both _ _ (ap (λ j. is_at (key_cmp q) j) (sym e) ∙ at_turned k q ∙ h) (and_both _ _ begun ended)

-- slots stay those of their generation
generation_stays : (history : List Segment) (p : Segment) (since : ℕ) (slots : Slots) → AreOfGeneration history since slots → AreOfGeneration (history ++ p ∷ []) since slots
generation_stays history p since slots are q h = rw (any_push (is_of_generation since q) history p) (or_left _ _ (are q h))

pub elder_stays : (history : List Segment) (p : Segment) (slots : Slots) → (since : ℕ) × AreOfGeneration history since slots → (since : ℕ) × AreOfGeneration (history ++ p ∷ []) since slots
elder_stays history p slots are = (are.0, generation_stays history p are.0 slots are.1)

-- and the packet's is one of them, where it comes in time
generation_noted : (history : List Segment) (t : Held) (before after : Slots) (k : Key) (p : Segment) (since : ℕ) → k ≡ key_of p.source p.destination → since ≤ p.at → p.at ≤ since + 7440 → Writes t before k p after → AreOfGeneration history since before → AreOfGeneration (history ++ p ∷ []) since after
generation_noted history t before after k p since e from to w are q h = rw (any_push (is_of_generation since q) history p) (by (is_at (key_cmp k) q) refl)
  where
    by : (b : Bool) → is_at (key_cmp k) q ≡ b → IsTrue (list_any (is_of_generation since q) history || is_of_generation since q p)
    by true c = or_right _ _ (is_of since k q p e from to c)
    by false c = or_left _ _ (are q (subst (λ (o : Option (Option Begun)). IsSome o) (w.others q c) h))

pub kept_on_recent : (history : List Segment) (t : Held) (after : Slots) (k : Key) (p : Segment) → IsSound t → IsTrue (is_since t.last p.at) → p.at ≤ t.since + 7440 → k ≡ key_of p.source p.destination → Writes t t.younger k p after → AreOfGeneration history t.since t.younger → AreOfGeneration (history ++ p ∷ []) t.since after
kept_on_recent history t after k p s i near e w are = generation_noted history t t.younger after k p t.since e (since_before t.last t.since p.at i s.begun) near w are

-- ---- The three ways in which a packet is noted, where nothing stands apart

some_of : (o : Option (Option Begun)) → IsSome o → (begun : Option Begun) × (o ≡ Some begun)
some_of None h = absurd (cc)
some_of (Some begun) h = (begun, refl)

-- in its place
pub writes_slot : (last : Option ℕ) (since : ℕ) (newest : Option (Key × Option Begun)) (younger after elder : Slots) (k : Key) (p : Segment) → IsTrue (is_none newest) → IsSome (slot_at younger k) → IsWritten k p younger after → Writes (held_of last since newest younger elder) (with_newest newest younger) k p (with_newest newest after)
unfolding with_newest
writes_slot last since None younger after elder k p room h w =
    let found = some_of (slot_at younger k) h in
    record {
      here = w.here found.0 found.1 ∙ ap (λ b. Some (kept_after p b)) (held_in (held_of last since None younger elder) k found.0 (sym found.1));
      others = w.others;
    }
writes_slot last since (Some one) younger after elder k p room h w = absurd (cc)

first_writes : (t : Held) (before : Slots) (k : Key) (p : Segment) (v : Option Begun) → v ≡ kept_after p (held_at t k) → Writes t before k p ((k, v) ∷ before)
first_writes t before k p v e = record {
  here = puts_first k v before k ∙ ap (λ b. cond b (Some v) (slot_at before k)) (at_itself k) ∙ ap (λ b. Some b) e;
  others = λ q c. puts_first k v before q ∙ ap (λ b. cond b (Some v) (slot_at before q)) c;
}

-- apart, where it has no slot
pub writes_apart : (last : Option ℕ) (since : ℕ) (newest : Option (Key × Option Begun)) (younger after elder : Slots) (k : Key) (p : Segment) (v : Option Begun) → IsTrue (is_none newest) → slot_at younger k ≡ None → after ≡ younger → v ≡ kept_after p (filled (slot_at elder k)) → Writes (held_of last since newest younger elder) (with_newest newest younger) k p (with_newest (Some (k, v)) after)
unfolding with_newest
writes_apart last since None younger after elder k p v room h same e =
    let t : Held = held_of last since None younger elder in
    let P : Slots → Type 0 = λ slots. Writes t younger k p ((k, v) ∷ slots) in
    subst P (sym same) (first_writes t younger k p v (e ∙ ap (kept_after p) (held_out t k (slot_at elder k) (sym h) refl)))
writes_apart last since (Some one) younger after elder k p v room h same e = absurd (cc)

-- apart, where it is the first one of its generation
writes_late : (last : Option ℕ) (since : ℕ) (newest : Option (Key × Option Begun)) (younger elder none : Slots) (k : Key) (p : Segment) (v : Option Begun) → IsTrue (is_none newest) → v ≡ kept_after p (slot_first (slot_at younger k) (slot_at elder k)) → Writes (held_of last since newest younger elder) none k p (with_newest (Some (k, v)) none)
unfolding with_newest
writes_late last since newest younger elder none k p v room e =
    first_writes (held_of last since newest younger elder) none k p v (e ∙ ap (kept_after p) (held_roomy last since newest younger elder k room))

room_none : (newest : Option (Key × Option Begun)) (slots : Slots) → IsTrue (is_none newest) → with_newest newest slots ≡ slots
unfolding with_newest
room_none None slots h = refl
room_none (Some one) slots h = absurd (cc)

pub late_sound : (last : Option ℕ) (since : ℕ) (newest : Option (Key × Option Begun)) (younger elder none : Slots) (k : Key) (p : Segment) (v : Option Begun) → IsSound (held_of last since newest younger elder) → IsTrue (is_since last p.at) → IsTrue (is_none newest) → none ≡ [] → v ≡ kept_after p (slot_first (slot_at younger k) (slot_at elder k)) → IsSound (held_of (Some p.at) p.at (Some (k, v)) none younger)
late_sound last since newest younger elder none k p v s i room n e =
    let P : Slots → Type 0 = λ slots. IsSound (record { last = Some p.at; since = p.at; has_room = false; younger = with_newest (Some (k, v)) none; elder = slots }) in
    subst P (room_none newest younger room) (turned_sound (held_of last since newest younger elder) false none (with_newest (Some (k, v)) none) k p s i n (writes_late last since newest younger elder none k p v room e))

pub late_noted : (last : Option ℕ) (since : ℕ) (newest : Option (Key × Option Begun)) (younger elder none : Slots) (k : Key) (p : Segment) (v : Option Begun) → IsSound (held_of last since newest younger elder) → 7440 < p.at - since → IsTrue (is_none newest) → none ≡ [] → k ≡ key_of p.source p.destination → v ≡ kept_after p (slot_first (slot_at younger k) (slot_at elder k)) → HasNoted p (flows_of (held_of last since newest younger elder)) (flows_of (held_of (Some p.at) p.at (Some (k, v)) none younger))
late_noted last since newest younger elder none k p v s late room n f e =
    let P : Slots → Type 0 = λ slots. HasNoted p (flows_of (held_of last since newest younger elder)) (flows_of (record { last = Some p.at; since = p.at; has_room = false; younger = with_newest (Some (k, v)) none; elder = slots })) in
    subst P (room_none newest younger room) (turned_noted (held_of last since newest younger elder) false none (with_newest (Some (k, v)) none) k p s late n f (writes_late last since newest younger elder none k p v room e))

pub late_recent : (history : List Segment) (last : Option ℕ) (since : ℕ) (newest : Option (Key × Option Begun)) (younger elder none : Slots) (k : Key) (p : Segment) (v : Option Begun) → IsTrue (is_none newest) → none ≡ [] → k ≡ key_of p.source p.destination → v ≡ kept_after p (slot_first (slot_at younger k) (slot_at elder k)) → AreOfGeneration (history ++ p ∷ []) p.at (with_newest (Some (k, v)) none)
late_recent history last since newest younger elder none k p v room n e f =
    generation_noted history (held_of last since newest younger elder) none (with_newest (Some (k, v)) none) k p p.at e (omega arith) (omega arith) (writes_late last since newest younger elder none k p v room f) (λ q h. absurd (no_slot none q n h))

-- the younger generation becomes the elder one, with its beginning
pub late_elder : (history : List Segment) (since : ℕ) (newest : Option (Key × Option Begun)) (younger : Slots) (p : Segment) → IsTrue (is_none newest) → AreOfGeneration history since (with_newest newest younger) → (before : ℕ) × AreOfGeneration (history ++ p ∷ []) before younger
late_elder history since newest younger p room are = (since, generation_stays history p since younger (subst (AreOfGeneration history since) (room_none newest younger room) are))

-- ---- A packet noted, and the history with it

-- where the table answered as the history does, and has noted this packet
pub noted_holds : (history after : List Segment) (p : Segment) (before : Held) (now : Held) → HoldsAll history before → IsTrue (is_since (last_packet_at history) p.at) → IsSound now → HasNoted p (flows_of before) (flows_of now) → AreOfGeneration (history ++ p ∷ []) now.since now.younger → ((from : ℕ) × AreOfGeneration (history ++ p ∷ []) from now.elder) → after ≡ history ++ p ∷ [] → HoldsAll after now
noted_holds history after p before now holds since sound noted recent elder e = subst (λ (h : List Segment). HoldsAll h now) (sym e) (record {
  sound = sound;
  stands = noted_stands history p (flows_of before) (flows_of now) holds.stands (rw holds.stands.last since) noted;
  recent = recent;
  elder = elder;
})

pub last_since : (history : List Segment) (held : Held) (at : ℕ) → HoldsAll history held → IsTrue (is_since (last_packet_at history) at) → IsTrue (is_since held.last at)
unfolding flows_of
last_since history held at holds since = subst (λ (last : Option ℕ). IsTrue (is_since last at)) (sym holds.stands.last) since

pub since_by_last : (history : List Segment) (held : Held) (now : ℕ) → HoldsAll history held → is_since held.last now ≡ is_since (last_packet_at history) now
unfolding flows_of
since_by_last history held now holds = ap (λ last. is_since last now) holds.stands.last

-- ---- Writing into a slot

pub written_by : (k : Key) (p : Segment) (before after : Slots) (old w : Option Begun) → Some old ≡ slot_at before k → w ≡ kept_after p old → IsPut k w before after → IsWritten k p before after
written_by k p before after old w e f u = record {
  here = λ begun h. u k ∙ ap (λ b. cond b (Some w) (slot_at before k)) (at_itself k) ∙ ap (λ v. Some v) (f ∙ ap (kept_after p) (inner_same old begun (e ∙ h)));
  others = λ q c. u q ∙ ap (λ b. cond b (Some w) (slot_at before q)) c;
}
