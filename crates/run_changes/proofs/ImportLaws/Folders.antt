-- Laws of imports: of no name, of one, and of names one after the other.
use Rattle.std.proofs.Common.{◌≡◌, ◌≢◌, ℕ, ◌+◌, ◌<◌, ◌≤◌, ◌⊎◌, max, ◌==◌, Bool, true, false, IsTrue, List, [], ◌∷◌, ◌++◌, length, take, drop, get_or, Option, Some, refl, sym, subst, ap, ap₂, ◌∙◌, inl, inr, arith, append_assoc, append-nil}
use Rattle.std.proofs.lemmas.Bool.Decides.{Decides-eqb}
use Rattle.std.proofs.lemmas.List.{map-append, take-append-drop}
use Rattle.mud_world.specs.Causes.{Counts}
use Rattle.mud_world.specs.Clock.{later_moments}
use Rattle.mud_world.specs.Door.{put_out}
use Rattle.mud_world.proofs.Doors.{put_out_twice, put_out_none, rose_by_one}
use Rattle.desk_model.specs.declared.reply.Reply.{Reply}
use Rattle.desk_model.specs.declared.reply.Reply.TheVariants.{Done, Refused, Keeper, Memory}
use Rattle.run_common.specs.Output.{WroteFirst}
use Rattle.run_changes.specs.Import.Entries.{Entry, is_of_memory, names_of_entries, line_with, lines_of, status_with, status_of, has_keeper_failed, keeper_count}
use Rattle.run_changes.specs.Import.Imports.{Standing, ImportsEntry, Imports}
use Rattle.run_changes.specs.Import.Runs.{Scene, ImportsAll, ImportsPart}
use Rattle.table_model.proofs.RowSets.{take_one}
use Rattle.run_changes.proofs.Parts.{name_of}

abbrev pub Files : Type 0
Files = List (List ℕ × List ℕ)

-- ---- Entries one after the other

lines_append : (es fs : List Entry) → lines_of (es ++ fs) ≡ lines_of es ++ lines_of fs
lines_append [] fs = refl
lines_append (e ∷ es) fs = ap (λ more. line_with e.name e.reply ++ more) (lines_append es fs) ∙ sym (append_assoc (line_with e.name e.reply) (lines_of es) (lines_of fs))

status_append : (es fs : List Entry) → status_of (es ++ fs) ≡ max (status_of es) (status_of fs)
status_append [] fs = omega arith
status_append (e ∷ es) fs = omega (arith, status_append es fs)

count_append : (es fs : List Entry) → keeper_count (es ++ fs) ≡ keeper_count es + keeper_count fs
count_append [] fs = omega arith
count_append (e ∷ es) fs = omega (arith, count_append es fs)

imports_append : (files : Files) (a : Standing) (es : List Entry) (b : Standing) → Imports files a es b → (fs : List Entry) (c : Standing) → Imports files b fs c → Imports files a (es ++ fs) c
imports_append files a [] b run fs c more = subst (λ (s : Standing). Imports files s fs c) run more
imports_append files a (e ∷ es) b run fs c more = (run.0, run.1, imports_append files run.0 es b run.2 fs c more)

-- ---- No name

-- nothing was done, but that the clock may have been asked
pub part_of_none : (files : Files) (names : List (List ℕ)) (before after : Scene) → after.standing.session ≡ before.standing.session
    → (after.standing.moments ≡ before.standing.moments) ⊎ (after.standing.moments ≡ later_moments before.standing.moments)
    → after.door ≡ before.door → after.faults ≡ before.faults → ImportsPart files names before after
part_of_none files names before after session clock door faults = record {
  said = [];
  last = [];
  single = omega arith;
  rest = names;
  named = refl;
  reached = before.standing;
  run = refl;
  session = session;
  clock = clock;
  count = 0;
  wrote = door ∙ sym (put_out_none before.door);
  paid = omega (arith, faults);
}

-- ---- One name

module _ (files : Files) (name : List ℕ) (reply : Option Reply) (before after : Scene) (leads : ImportsEntry files before.standing name reply after.standing) (counts : Counts (has_keeper_failed reply) before.faults after.faults) where
  -- its line was written
  pub all_of_one : (status : ℕ) → status ≡ status_with reply → after.door ≡ put_out (line_with name reply) before.door → ImportsAll files (name ∷ []) before after status
  all_of_one status is wrote = record {
    entries = record { name = name; reply = reply } ∷ [];
    named = refl;
    run = (after.standing, leads, refl);
    wrote = wrote ∙ ap (λ (line : List ℕ). put_out line before.door) (sym (append-nil (line_with name reply)));
    status_is = is ∙ max_none (status_with reply);
    paid = rose_by_one (has_keeper_failed reply) before.faults after.faults counts;
  }
    where
      max_none : (m : ℕ) → m ≡ max m 0
      max_none m = omega arith

  -- a first part of it was written
  pub part_of_one : WroteFirst (line_with name reply) before.door after.door → ImportsPart files (name ∷ []) before after
  part_of_one part = record {
    said = [];
    last = record { name = name; reply = reply } ∷ [];
    single = omega arith;
    rest = [];
    named = refl;
    reached = after.standing;
    run = (after.standing, leads, refl);
    session = refl;
    clock = inl refl;
    count = part.count;
    wrote = part.wrote ∙ ap (λ (line : List ℕ). put_out (take part.count line) before.door) (sym (append-nil (line_with name reply)));
    paid = rose_by_one (has_keeper_failed reply) before.faults after.faults counts;
  }

-- ---- Names one after the other

module _ (files : Files) (xs : List (List ℕ)) (a b c : Scene) (m : ℕ) (first : ImportsAll files xs a b m) where
  pub all_further : (ys : List (List ℕ)) (n status : ℕ) → ImportsAll files ys b c n → status ≡ max m n → ImportsAll files (xs ++ ys) a c status
  all_further ys n status second is = record {
    entries = first.entries ++ second.entries;
    named = map-append name_of first.entries second.entries ∙ ap₂ (λ (us vs : List (List ℕ)). us ++ vs) first.named second.named;
    run = imports_append files a.standing first.entries b.standing first.run second.entries c.standing second.run;
    wrote =
        second.wrote ∙ ap (put_out (lines_of second.entries)) first.wrote ∙ put_out_twice (lines_of first.entries) (lines_of second.entries) a.door
        ∙ ap (λ (lines : List ℕ). put_out lines a.door) (sym (lines_append first.entries second.entries));
    status_is = is ∙ ap₂ max first.status_is second.status_is ∙ sym (status_append first.entries second.entries);
    paid = omega (arith, first.paid, second.paid, count_append first.entries second.entries);
  }

  pub part_further : (ys rest zs : List (List ℕ)) → ImportsPart files ys b c → zs ≡ xs ++ ys ++ rest → ImportsPart files zs a c
  part_further ys rest zs second is = record {
    said = first.entries ++ second.said;
    last = second.last;
    single = second.single;
    rest = second.rest ++ rest;
    named =
        ap (λ (es : List Entry). names_of_entries es ++ (second.rest ++ rest)) (append_assoc first.entries second.said second.last)
        ∙ ap (λ (us : List (List ℕ)). us ++ (second.rest ++ rest)) (map-append name_of first.entries (second.said ++ second.last))
        ∙ regroup (names_of_entries first.entries) (names_of_entries (second.said ++ second.last)) second.rest rest first.named second.named
        ∙ sym is;
    reached = second.reached;
    run = subst (λ (es : List Entry). Imports files a.standing es second.reached) (sym (append_assoc first.entries second.said second.last))
        (imports_append files a.standing first.entries b.standing first.run (second.said ++ second.last) second.reached second.run);
    session = second.session;
    clock = second.clock;
    count = second.count;
    wrote =
        second.wrote ∙ ap (put_out (lines_of second.said ++ take second.count (lines_of second.last))) first.wrote
        ∙ put_out_twice (lines_of first.entries) (lines_of second.said ++ take second.count (lines_of second.last)) a.door
        ∙ ap (λ (lines : List ℕ). put_out lines a.door)
        (sym (append_assoc (lines_of first.entries) (lines_of second.said) (take second.count (lines_of second.last)))
        ∙ ap (λ (lines : List ℕ). lines ++ take second.count (lines_of second.last)) (sym (lines_append first.entries second.said)));
    paid = omega (arith, first.paid, second.paid, count_append (first.entries ++ second.said) second.last, count_append first.entries second.said, count_append second.said second.last);
  }
    where
      regroup : (us vs ws more : List (List ℕ)) → us ≡ xs → vs ++ ws ≡ ys → (us ++ vs) ++ (ws ++ more) ≡ xs ++ ys ++ more
      regroup us vs ws more e f =
          append_assoc us vs (ws ++ more) ∙ ap (λ (l : List (List ℕ)). us ++ l) (sym (append_assoc vs ws more))
          ∙ ap₂ (λ (p q : List (List ℕ)). p ++ (q ++ more)) e f ∙ sym (append_assoc xs ys more)

-- ---- A step of a loop over the names

module _ (files now : Files) (names : List (List ℕ)) (i : ℕ) (x y : List ℕ) (same : now ≡ files) (within : i < length names) (is : x ≡ get_or names i x) (octets : y ≡ x) where
  pub all_at : (a b c : Scene) (m n status : ℕ) → ImportsAll files (take i names) a b m → ImportsAll now (y ∷ []) b c n → status ≡ max m n → ImportsAll files (take (i + 1) names) a c status
  all_at a b c m n status first second worse =
      subst (λ (xs : List (List ℕ)). ImportsAll files xs a c status) (sym (take_one names i x within is))
      (all_further files (take i names) a b c m first (x ∷ []) n status
      (subst (λ (z : List ℕ). ImportsAll files (z ∷ []) b c n) octets (subst (λ (fs : Files). ImportsAll fs (y ∷ []) b c n) same second)) worse)

  pub part_at : (a b c : Scene) (m : ℕ) → ImportsAll files (take i names) a b m → ImportsPart now (y ∷ []) b c → ImportsPart files names a c
  part_at a b c m first second =
      part_further files (take i names) a b c m first (x ∷ []) (drop (i + 1) names) names
      (subst (λ (z : List ℕ). ImportsPart files (z ∷ []) b c) octets (subst (λ (fs : Files). ImportsPart fs (y ∷ []) b c) same second))
      (sym (take-append-drop (i + 1) names) ∙ ap (λ (xs : List (List ℕ)). xs ++ drop (i + 1) names) (take_one names i x within is))

-- ---- The statuses

abbrev pub IsOfAll : ℕ → Type 0
IsOfAll m = (m ≡ 0) ⊎ ((m ≡ 3) ⊎ (m ≡ 7))

pub said_status : (reply : Reply) → is_of_memory reply ≡ false → IsOfAll (status_with (Some reply))
said_status (Done outcome) said = inl refl
said_status (Refused refusal) said = inr (inl refl)
said_status Keeper said = inr (inr refl)
said_status Memory said = absurd (cc)

pub at_most_seven : (m : ℕ) → IsOfAll m → m ≤ 7
at_most_seven m (inl e) = omega (arith, e)
at_most_seven m (inr (inl e)) = omega (arith, e)
at_most_seven m (inr (inr e)) = omega (arith, e)

pub worse_of : (m n k : ℕ) → k ≡ max m n → IsOfAll m → IsOfAll n → IsOfAll k
worse_of m n k is (inl a) (inl b) = inl (omega (arith, is, a, b))
worse_of m n k is (inl a) (inr (inl b)) = inr (inl (omega (arith, is, a, b)))
worse_of m n k is (inl a) (inr (inr b)) = inr (inr (omega (arith, is, a, b)))
worse_of m n k is (inr (inl a)) (inl b) = inr (inl (omega (arith, is, a, b)))
worse_of m n k is (inr (inl a)) (inr (inl b)) = inr (inl (omega (arith, is, a, b)))
worse_of m n k is (inr (inl a)) (inr (inr b)) = inr (inr (omega (arith, is, a, b)))
worse_of m n k is (inr (inr a)) (inl b) = inr (inr (omega (arith, is, a, b)))
worse_of m n k is (inr (inr a)) (inr (inl b)) = inr (inr (omega (arith, is, a, b)))
worse_of m n k is (inr (inr a)) (inr (inr b)) = inr (inr (omega (arith, is, a, b)))

-- ---- The keeper's count

counts_with : (x y z : Bool) → (IsTrue z → IsTrue x ⊎ IsTrue y) → (z ≡ false → (x ≡ false) × (y ≡ false)) → (a b c : ℕ) → Counts x a b → Counts y b c → Counts z a c
counts_with x y z up down a b c p q = record {
  later = omega (arith, p.later, q.later);
  rose = λ t. elim (up t) [ inl s ↦ omega (arith, p.rose s, q.later) | inr s ↦ omega (arith, p.later, q.rose s) ];
  steady = λ e. q.steady (down e).1 ∙ p.steady (down e).0;
}

-- a status counts the keeper's failures where it is 7, and no status is above it
pub counts_seven : (m n k : ℕ) → k ≡ max m n → m ≤ 7 → n ≤ 7 → (a b c : ℕ) → Counts (m == 7) a b → Counts (n == 7) b c → Counts (k == 7) a c
counts_seven m n k is low high a b c p q = counts_with (m == 7) (n == 7) (k == 7) (up (m == 7) (n == 7) refl refl) down a b c p q
  where
    up : (x y : Bool) → (m == 7) ≡ x → (n == 7) ≡ y → (k == 7) ≡ true → ((m == 7) ≡ true) ⊎ ((n == 7) ≡ true)
    up true y ex ey e = inl ex
    up false true ex ey e = inr ey
    up false false ex ey e =
        let other : m ≢ 7 = λ h. absurd (cc ((Decides-eqb m 7).1 h, ex)) in
        let another : n ≢ 7 = λ h. absurd (cc ((Decides-eqb n 7).1 h, ey)) in
        let seven : k ≡ 7 = (Decides-eqb k 7).0 e in
        absurd (omega (arith, is, seven, other, another))

    down : (k == 7) ≡ false → ((m == 7) ≡ false) × ((n == 7) ≡ false)
    down e =
        let other : k ≢ 7 = λ h. absurd (cc ((Decides-eqb k 7).1 h, e)) in
        (is_not m (omega (arith, other)), is_not n (omega (arith, other)))
      where
        is_not : (x : ℕ) → x ≢ 7 → (x == 7) ≡ false
        is_not x h = by (x == 7) refl
          where
            by : (t : Bool) → (x == 7) ≡ t → (x == 7) ≡ false
            by true e = absurd (h ((Decides-eqb x 7).0 e))
            by false e = e
