-- What is kept of two endpoints answers as the history does, and goes on with each packet.
use Rattle.std.proofs.Common.{◌≡◌, ℕ, ◌-◌, ◌⊎◌, Bool, true, false, ◌&&◌, ◌||◌, nat_le, IsTrue, List, [], ◌∷◌, ◌++◌, map, filter, Option, Some, None, inl, inr, if◌then◌else◌, refl, sym, ap, ◌∙◌, subst, arith}
use Rattle.std.specs.Prelude.{option_map}
use Rattle.std.specs.List.{list_any}
use Rattle.std.proofs.lemmas.Bool.Decides.{nat_tests}
use Rattle.mud_base.specs.declared.packet.Fields.{Fields}
use Rattle.mud_base.specs.declared.packet.Direction.{Direction}
use Rattle.table_model.specs.History.{Endpoint, Begun, segment_of, is_between, between, opens, resets, beginner_of, side_of, begun_of, last_packet_at, is_forward, with_moment, begun_at, begun_between, is_past, MayKeep}
use Rattle.table_model.specs.declared.segment.Segment.{Segment}
use Rattle.table_model.proofs.TypeFacts.{segment_at}
use Rattle.flow_table.specs.Kept.{Flows, StandsFor, is_since, beginner_kept, kept_after}
use Rattle.table_model.proofs.Parts.{moment_of, since_opened, is_unbroken, beginner_since}

-- ---- One packet more

-- it stays, or it is forgotten where it is past
abbrev pub MayForget : ℕ → Option Begun → Option Begun → Type 0
MayForget now None kept = kept ≡ None
MayForget now (Some begun) kept = (kept ≡ Some begun) ⊎ ((kept ≡ None) × IsTrue (is_past (Some now) begun.1))

-- the table with one packet more
pub record HasNoted (p : Segment) (before : Flows) (after : Flows) : Type 0 where
  pub last : after.last ≡ Some p.at
  pub here : (a b : Endpoint) → is_between a b p ≡ true → after.kept a b ≡ kept_after p (before.kept a b)
  pub others : (a b : Endpoint) → is_between a b p ≡ false → MayForget p.at (before.kept a b) (after.kept a b)

-- ---- Lists with one packet more

pub last_push : (xs : List Segment) (p : Segment) → last_packet_at (xs ++ p ∷ []) ≡ Some p.at
unfolding last_packet_at
last_push [] p = refl
last_push (q ∷ []) p = refl
last_push (q ∷ (r ∷ rs)) p = last_push (r ∷ rs) p

pub and_both : (a b : Bool) → IsTrue a → IsTrue b → IsTrue (a && b)
and_both true b h i = i
and_both false b h i = h

and_left : (a b : Bool) → IsTrue (a && b) → IsTrue a
and_left true b h = refl
and_left false b h = h

and_right : (a b : Bool) → IsTrue (a && b) → IsTrue b
and_right true b h = h
and_right false b h = absurd (cc)

pub forward_push : (xs : List Segment) (p : Segment) → IsTrue (is_forward xs) → IsTrue (is_since (last_packet_at xs) p.at) → IsTrue (is_forward (xs ++ p ∷ []))
unfolding is_forward last_packet_at is_since
forward_push [] p h i = refl
forward_push (q ∷ []) p h i = and_both _ _ i refl
forward_push (q ∷ (r ∷ rs)) p h i =
    and_both (nat_le q.at r.at) _ (and_left (nat_le q.at r.at) (is_forward (r ∷ rs)) h) (forward_push (r ∷ rs) p (and_right (nat_le q.at r.at) (is_forward (r ∷ rs)) h) i)

pub any_push : (f : Segment → Bool) (xs : List Segment) (p : Segment) → list_any f (xs ++ p ∷ []) ≡ (list_any f xs || f p)
any_push f [] p = by (f p)
  where
    by : (b : Bool) → (b || false) ≡ b
    by true = refl
    by false = refl
any_push f (x ∷ xs) p = by (f x) (any_push f xs p)
  where
    by : (b : Bool) → list_any f (xs ++ p ∷ []) ≡ (list_any f xs || f p) → (b || list_any f (xs ++ p ∷ [])) ≡ ((b || list_any f xs) || f p)
    by true e = refl
    by false e = e

filter_push : (f : Segment → Bool) (xs : List Segment) (p : Segment) → filter f (xs ++ p ∷ []) ≡ filter f xs ++ (if f p then p ∷ [] else [])
filter_push f [] p = refl
filter_push f (x ∷ xs) p = by (f x) (filter_push f xs p)
  where
    by : (b : Bool) → filter f (xs ++ p ∷ []) ≡ filter f xs ++ (if f p then p ∷ [] else []) → (if b then x ∷ filter f (xs ++ p ∷ []) else filter f (xs ++ p ∷ [])) ≡ (if b then x ∷ filter f xs else filter f xs) ++ (if f p then p ∷ [] else [])
    by true e = ap (λ ys. x ∷ ys) e
    by false e = e

-- a list that has begun, with one packet more
unfoldable followed : List Segment → Segment → List Segment
followed [] p = []
followed (q ∷ qs) p = q ∷ (qs ++ p ∷ [])

since_by : (a o x : Bool) (y p : Segment) (ys s t : List Segment) → s ≡ (if o then p ∷ [] else followed t p) → (if a || o then s else (if x then y ∷ (ys ++ p ∷ []) else [])) ≡ (if o then p ∷ [] else followed (if a then t else (if x then y ∷ ys else [])) p)
unfolding followed
since_by true o x y p ys s t e = e
since_by false true x y p ys s t e = e
since_by false false true y p ys s t e = refl
since_by false false false y p ys s t e = refl

since_push : (xs : List Segment) (p : Segment) → since_opened (xs ++ p ∷ []) ≡ (if opens p then p ∷ [] else followed (since_opened xs) p)
unfolding followed
since_push [] p = refl
since_push (x ∷ xs) p =
    ap (λ (b : Bool). if b then since_opened (xs ++ p ∷ []) else (if opens x then x ∷ (xs ++ p ∷ []) else [])) (any_push opens xs p)
    ∙ since_by (list_any opens xs) (opens p) (opens x) x p xs _ (since_opened xs) (since_push xs p)

-- ---- Pauses

-- the last of these moments
last_of : ℕ → List ℕ → ℕ
last_of m [] = m
last_of m (n ∷ ns) = last_of n ns

and_assoc : (a b c : Bool) → (a && (b && c)) ≡ ((a && b) && c)
and_assoc true b c = refl
and_assoc false b c = refl

unbroken_push : (m : ℕ) (ns : List ℕ) (n : ℕ) → is_unbroken m (ns ++ n ∷ []) ≡ (is_unbroken m ns && nat_le (n - last_of m ns) 7440)
unfolding last_of
unbroken_push m [] n = by (nat_le (n - m) 7440)
  where
    by : (b : Bool) → (b && true) ≡ b
    by true = refl
    by false = refl
unbroken_push m (k ∷ ns) n = ap (λ b. nat_le (k - m) 7440 && b) (unbroken_push k ns n) ∙ and_assoc (nat_le (k - m) 7440) (is_unbroken k ns) (nat_le (n - last_of k ns) 7440)

last_from : (p : Segment) (ps : List Segment) → last_packet_at (p ∷ ps) ≡ Some (last_of p.at (map moment_of ps))
unfolding last_packet_at last_of
last_from p [] = refl
last_from p (q ∷ qs) = last_from q qs

no_pause : (t : ℕ) → nat_le (t - t) 7440 ≡ true
no_pause t = rw (zero t) refl
  where
    zero : (n : ℕ) → n - n ≡ 0
    zero n = omega arith

-- ---- A beginner that is kept answers at each later moment

kept_by : (r u v : Bool) (s : Endpoint) (t m : ℕ) → v ≡ nat_le (m - t) 7440 → (if r then None else (if u && v then Some s else None)) ≡ beginner_kept (option_map (with_moment t) (if r then None else (if u && true then Some s else None))) m
unfolding beginner_kept with_moment
kept_by true u v s t m e = refl
kept_by false false v s t m e = refl
kept_by false true v s t m e = ap (λ (b : Bool). if b then Some s else None) e

kept_since : (p : Segment) (ps : List Segment) (t m : ℕ) → t ≡ last_of p.at (map moment_of ps) → beginner_since (p ∷ ps) m ≡ beginner_kept (option_map (with_moment t) (beginner_since (p ∷ ps) t)) m
kept_since p ps t m e =
    let moments : List ℕ = map moment_of ps in
    let now : is_unbroken p.at (moments ++ m ∷ []) ≡ (is_unbroken p.at moments && nat_le (m - t) 7440) = rw e (unbroken_push p.at moments m) in
    let before : is_unbroken p.at (moments ++ t ∷ []) ≡ (is_unbroken p.at moments && true) = unbroken_push p.at moments t ∙ ap (λ b. is_unbroken p.at moments && b) (ap (λ k. nat_le (t - k) 7440) (sym e) ∙ no_pause t) in
    rw (now, before) (kept_by (list_any resets ps) (is_unbroken p.at moments) (nat_le (m - t) 7440) p.source t m refl)

-- what was opened ends as the whole list does
since_last : (xs : List Segment) (q : Segment) (qs : List Segment) → since_opened xs ≡ q ∷ qs → last_packet_at (q ∷ qs) ≡ last_packet_at xs
unfolding last_packet_at
since_last [] q qs e = cc
since_last (x ∷ []) q qs e = by (opens x) e
  where
    by : (b : Bool) → (if b then x ∷ [] else []) ≡ q ∷ qs → last_packet_at (q ∷ qs) ≡ Some x.at
    by true h = ap last_packet_at (sym h)
    by false h = cc
since_last (x ∷ (y ∷ ys)) q qs e = by (list_any opens (y ∷ ys)) (opens x) (since_last (y ∷ ys) q qs) e
  where
    by : (a b : Bool) → (since_opened (y ∷ ys) ≡ q ∷ qs → last_packet_at (q ∷ qs) ≡ last_packet_at (y ∷ ys)) → (if a then since_opened (y ∷ ys) else (if b then x ∷ (y ∷ ys) else [])) ≡ q ∷ qs → last_packet_at (q ∷ qs) ≡ last_packet_at (y ∷ ys)
    by true b ih h = ih h
    by false true ih h = ap last_packet_at (sym h)
    by false false ih h = cc

kept_unopened : (t m : ℕ) → beginner_since [] m ≡ beginner_kept (option_map (with_moment t) (beginner_since [] t)) m
unfolding beginner_kept
kept_unopened t m = refl

some_same : {a b : ℕ} → Some a ≡ Some b → a ≡ b
some_same e = cc

kept_opened : (s : List Segment) (t m : ℕ) → ((q : Segment) (qs : List Segment) → s ≡ q ∷ qs → last_packet_at (q ∷ qs) ≡ Some t) → beginner_since s m ≡ beginner_kept (option_map (with_moment t) (beginner_since s t)) m
kept_opened [] t m h = kept_unopened t m
kept_opened (q ∷ qs) t m h = kept_since q qs t m (some_same (sym (h q qs refl) ∙ last_from q qs))

none_opened : (xs : List Segment) → last_packet_at xs ≡ None → xs ≡ []
unfolding last_packet_at
none_opened [] e = refl
none_opened (x ∷ []) e = cc
none_opened (x ∷ (y ∷ ys)) e = let h = none_opened (y ∷ ys) e in cc

kept_nothing : (ys : List Segment) (m : ℕ) → ys ≡ [] → (b : Option Begun) → b ≡ None → beginner_since (since_opened ys) m ≡ beginner_kept b m
unfolding beginner_kept
kept_nothing ys m h b i = rw (h, i) refl

kept_in : (xs : List Segment) (m : ℕ) (t : Option ℕ) → last_packet_at xs ≡ t → (begun : Option Begun) → begun ≡ elim t as (λ _. Option Begun) [ None ↦ None | Some k ↦ option_map (with_moment k) (beginner_since (since_opened xs) k) ] → beginner_since (since_opened xs) m ≡ beginner_kept begun m
kept_in xs m None e begun d = kept_nothing xs m (none_opened xs e) begun d
kept_in xs m (Some t) e begun d = rw d (kept_opened (since_opened xs) t m (λ q qs h. since_last xs q qs h ∙ e))

-- who began it at a later moment, by what the history says at the last packet
pub begun_later : (h : List Segment) (a b : Endpoint) (m : ℕ) → beginner_of h a b m ≡ beginner_kept (begun_between h a b) m
unfolding beginner_of begun_between begun_at
begun_later h a b m = by (last_packet_at (between a b h)) refl
  where
    by : (t : Option ℕ) → last_packet_at (between a b h) ≡ t → beginner_of h a b m ≡ beginner_kept (begun_between h a b) m
    by None e = kept_in (between a b h) m None e _ (rw e refl)
    by (Some t) e = kept_in (between a b h) m (Some t) e _ (rw e refl)

-- ---- A table that stands for a history

past_kept : (last : Option ℕ) (begun : Begun) (m : ℕ) → IsTrue (is_since last m) → IsTrue (is_past last begun.1) → beginner_kept (Some begun) m ≡ None
unfolding beginner_kept is_since is_past
past_kept None begun m h i = cc
past_kept (Some l) begun m h i = by (nat_le (m - begun.1) 7440) (grind (arith, nat_tests))
  where
    by : (b : Bool) → b ≡ false → (if b then Some begun.0 else None) ≡ None
    by true e = cc
    by false e = refl

nothing_kept : (m : ℕ) → None ≡ beginner_kept None m
unfolding beginner_kept
nothing_kept m = refl

pub kept_enough : (last : Option ℕ) (begun kept : Option Begun) (m : ℕ) → IsTrue (is_since last m) → MayKeep last begun kept → beginner_kept begun m ≡ beginner_kept kept m
kept_enough last None kept m h i = ap (λ k. beginner_kept k m) (sym i)
kept_enough last (Some begun) kept m h (inl e) = ap (λ k. beginner_kept k m) (sym e)
kept_enough last (Some begun) kept m h (inr (e, p)) = past_kept last begun m h p ∙ nothing_kept m ∙ ap (λ k. beginner_kept k m) (sym e)

pub beginner_found : (h : List Segment) (flows : Flows) (a b : Endpoint) (m : ℕ) → StandsFor h flows → IsTrue (is_since flows.last m) → beginner_of h a b m ≡ beginner_kept (flows.kept a b) m
beginner_found h flows a b m s i =
    begun_later h a b m ∙ kept_enough (last_packet_at h) (begun_between h a b) (flows.kept a b) m (rw (← s.last) i) (s.kept a b)

pub at_planned : (fields : Fields) (now : ℕ) (q : Segment) → segment_of fields now ≡ Some q → q.at ≡ now
unfolding segment_of
at_planned fields now q e = segment_at fields.src fields.dst now fields.transport q e

-- ---- One packet more

moments_push : (qs : List Segment) (p : Segment) → map moment_of (qs ++ p ∷ []) ≡ map moment_of qs ++ p.at ∷ []
moments_push [] p = refl
moments_push (q ∷ qs) p = ap (λ ms. moment_of q ∷ ms) (moments_push qs p)

last_of_push : (m : ℕ) (ns : List ℕ) (n : ℕ) → last_of m (ns ++ n ∷ []) ≡ n
unfolding last_of
last_of_push m [] n = refl
last_of_push m (k ∷ ns) n = last_of_push k ns n

alone_unbroken : (t : ℕ) → is_unbroken t (t ∷ []) ≡ true
alone_unbroken t = ap (λ b. b && true) (no_pause t)

alone_begins : (p : Segment) → beginner_since (p ∷ []) p.at ≡ Some p.source
alone_begins p = ap (λ (b : Bool). if b then Some p.source else None) (alone_unbroken p.at)

followed_by : (a r u : Bool) (s : Endpoint) → (if a || r then None else (if u && true then Some s else None)) ≡ (if r then None else (if a then None else (if u then Some s else None)))
followed_by true true u s = refl
followed_by true false u s = refl
followed_by false true u s = refl
followed_by false false true s = refl
followed_by false false false s = refl

abbrev nobody : Option Endpoint
nobody = None

reset_nothing : (r : Bool) → nobody ≡ (if r then nobody else nobody)
reset_nothing true = refl
reset_nothing false = refl

begins_followed : (s : List Segment) (p : Segment) → beginner_since (followed s p) p.at ≡ (if resets p then None else beginner_since s p.at)
unfolding followed
begins_followed [] p = reset_nothing (resets p)
begins_followed (q ∷ qs) p =
    let moments : List ℕ = map moment_of qs in
    let unbroken : is_unbroken q.at (map moment_of (qs ++ p ∷ []) ++ p.at ∷ []) ≡ (is_unbroken q.at (moments ++ p.at ∷ []) && true) = ap (λ ms. is_unbroken q.at (ms ++ p.at ∷ [])) (moments_push qs p) ∙ unbroken_push q.at (moments ++ p.at ∷ []) p.at ∙ ap (λ k. is_unbroken q.at (moments ++ p.at ∷ []) && nat_le (p.at - k) 7440) (last_of_push q.at moments p.at) ∙ ap (λ b. is_unbroken q.at (moments ++ p.at ∷ []) && b) (no_pause p.at) in
    rw (any_push resets qs p, unbroken) (followed_by (list_any resets qs) (resets p) (is_unbroken q.at (moments ++ p.at ∷ [])) q.source)

moment_with : (s : Endpoint) (t : ℕ) → option_map (with_moment t) (Some s) ≡ Some (s, t)
unfolding with_moment
moment_with s t = refl

begins_pushed : (xs : List Segment) (p : Segment) → option_map (with_moment p.at) (beginner_since (since_opened (xs ++ p ∷ [])) p.at) ≡ (if opens p then Some (p.source, p.at) else (if resets p then None else option_map (with_moment p.at) (beginner_since (since_opened xs) p.at)))
begins_pushed xs p = rw (since_push xs p) (by (opens p) (resets p) (begins_followed (since_opened xs) p))
  where
    by : (o r : Bool) → beginner_since (followed (since_opened xs) p) p.at ≡ (if r then None else beginner_since (since_opened xs) p.at) → option_map (with_moment p.at) (beginner_since (if o then p ∷ [] else followed (since_opened xs) p) p.at) ≡ (if o then Some (p.source, p.at) else (if r then None else option_map (with_moment p.at) (beginner_since (since_opened xs) p.at)))
    by true r e = ap (option_map (with_moment p.at)) (alone_begins p) ∙ moment_with p.source p.at
    by false true e = ap (option_map (with_moment p.at)) e
    by false false e = ap (option_map (with_moment p.at)) e

between_push : (a b : Endpoint) (h : List Segment) (p : Segment) → between a b (h ++ p ∷ []) ≡ between a b h ++ (if is_between a b p then p ∷ [] else [])
unfolding between
between_push a b h p = filter_push (is_between a b) h p

append_nothing : (xs : List Segment) → xs ++ [] ≡ xs
append_nothing [] = refl
append_nothing (x ∷ xs) = ap (λ ys. x ∷ ys) (append_nothing xs)

same_between : (h k : List Segment) (a b : Endpoint) (t : Option ℕ) → between a b k ≡ between a b h → begun_at k a b t ≡ begun_at h a b t
unfolding begun_at beginner_of
same_between h k a b None e = refl
same_between h k a b (Some t) e = ap (λ xs. option_map (with_moment t) (beginner_since (since_opened xs) t)) e

begun_others : (h : List Segment) (p : Segment) (a b : Endpoint) → is_between a b p ≡ false → begun_between (h ++ p ∷ []) a b ≡ begun_between h a b
unfolding begun_between
begun_others h p a b e =
    let same : between a b (h ++ p ∷ []) ≡ between a b h = between_push a b h p ∙ ap (λ (c : Bool). between a b h ++ (if c then p ∷ [] else [])) e ∙ append_nothing (between a b h) in
    ap (λ xs. begun_at (h ++ p ∷ []) a b (last_packet_at xs)) same ∙ same_between h (h ++ p ∷ []) a b (last_packet_at (between a b h)) same

begun_here : (h : List Segment) (p : Segment) (a b : Endpoint) → is_between a b p ≡ true → begun_between (h ++ p ∷ []) a b ≡ (if opens p then Some (p.source, p.at) else (if resets p then None else option_map (with_moment p.at) (beginner_of h a b p.at)))
unfolding begun_between begun_at beginner_of
begun_here h p a b e =
    let more : between a b (h ++ p ∷ []) ≡ between a b h ++ p ∷ [] = between_push a b h p ∙ ap (λ (c : Bool). between a b h ++ (if c then p ∷ [] else [])) e in
    ap (λ xs. begun_at (h ++ p ∷ []) a b (last_packet_at xs)) more ∙ ap (begun_at (h ++ p ∷ []) a b) (last_push (between a b h) p) ∙ ap (λ xs. option_map (with_moment p.at) (beginner_since (since_opened xs) p.at)) more ∙ begins_pushed (between a b h) p

kept_here : (h : List Segment) (flows : Flows) (p : Segment) (a b : Endpoint) → StandsFor h flows → IsTrue (is_since flows.last p.at) → is_between a b p ≡ true → begun_between (h ++ p ∷ []) a b ≡ kept_after p (flows.kept a b)
unfolding kept_after
kept_here h flows p a b s i e =
    begun_here h p a b e ∙ ap (λ k. if opens p then Some (p.source, p.at) else (if resets p then None else option_map (with_moment p.at) k)) (beginner_found h flows a b p.at s i)

keep_same : (last : Option ℕ) (begun kept : Option Begun) → kept ≡ begun → MayKeep last begun kept
keep_same last None kept e = e
keep_same last (Some begun) kept e = inl e

past_on : (last : Option ℕ) (m t : ℕ) → IsTrue (is_since last m) → IsTrue (is_past last t) → IsTrue (is_past (Some m) t)
unfolding is_since is_past
past_on None m t h i = cc
past_on (Some l) m t h i = grind (arith, nat_tests)

keep_others : (last : Option ℕ) (m : ℕ) (begun before after : Option Begun) → IsTrue (is_since last m) → MayKeep last begun before → MayForget m before after → MayKeep (Some m) begun after
keep_others last m None before after i k f = let P : Option Begun → Type 0 = λ b. MayForget m b after in subst P k f
keep_others last m (Some begun) before after i (inl e) f = let P : Option Begun → Type 0 = λ b. MayForget m b after in subst P e f
keep_others last m (Some begun) before after i (inr (e, p)) f = let P : Option Begun → Type 0 = λ b. MayForget m b after in inr (subst P e f, past_on last m begun.1 i p)

-- A table that has noted a packet more stands for the history with it.
pub noted_stands : (h : List Segment) (p : Segment) (before after : Flows) → StandsFor h before → IsTrue (is_since before.last p.at) → HasNoted p before after → StandsFor (h ++ p ∷ []) after
noted_stands h p before after s i n = record {
  forward = forward_push h p s.forward (rw (← s.last) i);
  last = n.last ∙ sym (last_push h p);
  kept = λ a b. rw (last_push h p) (by a b (is_between a b p) refl);
}
  where
    by : (a b : Endpoint) (c : Bool) → is_between a b p ≡ c → MayKeep (Some p.at) (begun_between (h ++ p ∷ []) a b) (after.kept a b)
    by a b true e = keep_same (Some p.at) _ _ (n.here a b e ∙ sym (kept_here h before p a b s i e))
    by a b false e = rw (begun_others h p a b e) (keep_others (last_packet_at h) p.at (begun_between h a b) (before.kept a b) (after.kept a b) (rw (← s.last) i) (s.kept a b) (n.others a b e))

-- The new table stands for the empty history.
pub nothing_stands : (flows : Flows) → flows.last ≡ None → ((a b : Endpoint) → flows.kept a b ≡ None) → StandsFor [] flows
unfolding is_forward last_packet_at begun_between begun_at between
nothing_stands flows e h = record { forward = refl; last = e; kept = λ a b. h a b }

-- ---- A look-up answers as the history does, by cases on the packet

pub begun_none : (h : List Segment) (side : Direction) (fields : Fields) (now : ℕ) → segment_of fields now ≡ None → None ≡ begun_of h side fields now
unfolding begun_of
begun_none h side fields now e = rw e refl

pub begun_opens : (h : List Segment) (side : Direction) (fields : Fields) (now : ℕ) (p : Segment) → segment_of fields now ≡ Some p → opens p ≡ true → side_of side p (Some p.source) ≡ begun_of h side fields now
unfolding begun_of
begun_opens h side fields now p e f = rw (e, f) refl

pub begun_other : (h : List Segment) (flows : Flows) (side : Direction) (fields : Fields) (now : ℕ) (p : Segment) → StandsFor h flows → IsTrue (is_since (last_packet_at h) now) → segment_of fields now ≡ Some p → opens p ≡ false
    → side_of side p (beginner_kept (flows.kept p.source p.destination) p.at) ≡ begun_of h side fields now
unfolding begun_of
begun_other h flows side fields now p s since e f =
    rw (e, f) (ap (side_of side p) (sym (beginner_found h flows p.source p.destination p.at s (rw (at_planned fields now p e, s.last) since))))
