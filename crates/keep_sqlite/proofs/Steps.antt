-- The steps of a batch.
use Rattle.std.proofs.Common.{◌≡◌, ◌⊎◌, inl, inr, ℕ, ◌+◌, ◌<◌, pos, Bool, true, false, List, [], ◌∷◌, ◌++◌, take, drop, append-nil, take-append-drop, IsTrue, Ok, Err, Result, refl, sym, ap, subst, ◌∙◌}
use Rattle.sqlite.specs.declared.types.Value.TheVariants.{Int, Blob}
use Rattle.sqlite_trees.specs.declared.store.Store.{Ghosts}
use Rattle.sqlite.specs.declared.error.Error.{Error}
use Rattle.sqlite.specs.State.{State, ExecutesInside, KeepsCommit}
use Rattle.sqlite.specs.Steps.{FailsToCommit}
use Rattle.sqlite.specs.Held.{Held, state}
use Rattle.mud_world.specs.declared.item.Item.{Item}
use Rattle.mud_world.specs.declared.item.Put.{Put}
use Rattle.mud_world.specs.declared.item.Put.TheVariants.{Set, Gone}
use Rattle.mud_world.specs.Items.{put_all}
use Rattle.keep_sqlite.proofs.Texts.{upsert_text, delete_text}
use Rattle.keep_sqlite.specs.Rows.{items_of, HoldsItems}
use Rattle.keep_sqlite.specs.Batches.{Reaches}
use Rattle.keep_sqlite.specs.Refused.{RefusesBatch, RefusesPut}
use Rattle.keep_sqlite.proofs.Upserts.{upserts}
use Rattle.keep_sqlite.proofs.Deletes.{deletes}

-- a call that answered Ok was made in a transaction
pub was_inside : {A : Type 0} {E : Type 0} {X : Type 0} (b : Bool) (a : A) (e : E) → (b ≡ false → ◌≡◌ {A = Result A E} (Ok a) (Err e) × X) → IsTrue b
was_inside true a e ended = refl
was_inside false a e ended = absurd (let no = (ended refl).0 in cc)

pub set_reaches : (item : Item) → item.kind < 256 → (old new : State) (count : ℕ) → ExecutesInside 0 upsert_text (Int (pos item.kind) ∷ Blob item.key ∷ Blob item.body ∷ []) old new (Ok count) → (IsTrue old.is_open → HoldsItems old.now)
    → Reaches old new [] (Set item ∷ [])
set_reaches item low old new count h holds =
    let did = upserts item low old new (Ok count) (holds h.1.was_open) h.0 in
    record { was_open = h.1.was_open; is_open = h.1.is_open; mode = h.1.mode; holds = did.0; items = did.1 }

pub gone_reaches : (kind : ℕ) (key : List ℕ) (old new : State) (count : ℕ) → ExecutesInside 0 delete_text (Int (pos kind) ∷ Blob key ∷ []) old new (Ok count) → (IsTrue old.is_open → HoldsItems old.now)
    → Reaches old new [] (Gone kind key ∷ [])
gone_reaches kind key old new count h holds =
    let did = deletes kind key old new (Ok count) (holds h.1.was_open) h.0 in
    record { was_open = h.1.was_open; is_open = h.1.is_open; mode = h.1.mode; holds = did.0; items = did.1 }

-- one put more
pub reaches_first : (old new : State) (p : Put) (rest batch : List Put) → batch ≡ p ∷ rest → Reaches old new [] (p ∷ []) → Reaches old new rest batch
reaches_first old new p rest batch is one = record {
  was_open = one.was_open;
  is_open = one.is_open;
  mode = one.mode;
  holds = one.holds;
  items = ap (λ items. put_all items rest) one.items ∙ sym (ap (put_all (items_of old.now)) is);
}

pub reaches_more : (old mid new : State) (p : Put) (left rest batch : List Put) → left ≡ p ∷ rest → Reaches old mid left batch → Reaches mid new [] (p ∷ []) → Reaches old new rest batch
reaches_more old mid new p left rest batch is before one = record {
  was_open = before.was_open;
  is_open = one.is_open;
  mode = one.mode;
  holds = one.holds;
  items = ap (λ items. put_all items rest) one.items ∙ sym (ap (put_all (items_of mid.now)) is) ∙ before.items;
}

pub reaches_next : (old mid new : State) (i : ℕ) (p : Put) (batch : List Put) → ((i ≡ 0) × (mid ≡ old)) ⊎ Reaches old mid (drop i batch) batch → drop i batch ≡ p ∷ drop (i + 1) batch → (IsTrue old.is_open → HoldsItems old.now)
    → ((IsTrue mid.is_open → HoldsItems mid.now) → Reaches mid new [] (p ∷ [])) → Reaches old new (drop (i + 1) batch) batch
reaches_next old mid new i p batch (inl start) here holds one =
    reaches_first old new p (drop (i + 1) batch) batch (sym (ap (λ k. drop k batch) start.0) ∙ here)
    (subst (λ s. Reaches s new [] (p ∷ [])) start.1 (one (subst (λ s. IsTrue s.is_open → HoldsItems s.now) (sym start.1) holds)))
reaches_next old mid new i p batch (inr before) here holds one = reaches_more old mid new p (drop i batch) (drop (i + 1) batch) batch here before (one (λ _. before.holds))

pub keeps_then : (a b c : State) → KeepsCommit a b → KeepsCommit b c → KeepsCommit a c
keeps_then a b c p q = record { was_open = λ o. p.was_open (q.was_open o); committed = λ o. q.committed o ∙ p.committed (q.was_open o) }

-- the same premise of a state that differs by an equation
pub start_from : {H : Type 0} (f : H → State) (a b : H) (i : ℕ) (R : Type 0) → ((i ≡ 0) × (a ≡ b)) ⊎ R → ((i ≡ 0) × (f a ≡ f b)) ⊎ R
start_from f a b i R (inl s) = inl (s.0, ap f s.1)
start_from f a b i R (inr r) = inr r

-- ---- Why a batch is refused

-- the transaction goes on while puts are done
inside_at : {S : Type 0} (g : Ghosts S) (old mid : Held S) (i : ℕ) (left all : List Put) → ((i ≡ 0) × (mid ≡ old)) ⊎ Reaches (state g old) (state g mid) left all → IsTrue old.in_transaction → IsTrue mid.in_transaction
inside_at g old mid i left all (inl start) inside = subst (λ (h : Held _). IsTrue h.in_transaction) (sym start.1) inside
inside_at g old mid i left all (inr done) inside = done.mode

-- a put is refused
pub put_refused : {S : Type 0} (g : Ghosts S) (old mid after : Held S) (i : ℕ) (put : Put) (batch : List Put) (error : Error) → ((i ≡ 0) × (mid ≡ old)) ⊎ Reaches (state g old) (state g mid) (drop i batch) batch
    → drop i batch ≡ put ∷ drop (i + 1) batch → IsTrue old.in_transaction → (state g mid).step_limit ≡ (state g old).step_limit
    → (IsTrue mid.in_transaction → RefusesPut put (state g mid) (state g after) error) → RefusesBatch g old batch error
put_refused g old mid after i put batch error (inl start) here inside limit refused = record {
  finished = take i batch;
  split = sym (take-append-drop i batch) ∙ ap (λ (left : List Put). take i batch ++ left) here;
  limit = limit;
  left = put ∷ drop (i + 1) batch;
  before = mid;
  after = after;
  done = inl (sym (sym (ap (λ k. drop k batch) start.0) ∙ here), start.1);
  next = refused (inside_at g old mid i (drop i batch) batch (inl start) inside);
}
put_refused g old mid after i put batch error (inr done) here inside limit refused = record {
  finished = take i batch;
  split = sym (take-append-drop i batch) ∙ ap (λ (left : List Put). take i batch ++ left) here;
  limit = limit;
  left = put ∷ drop (i + 1) batch;
  before = mid;
  after = after;
  done = inr (subst (λ (left : List Put). Reaches (state g old) (state g mid) left batch) here done);
  next = refused (inside_at g old mid i (drop i batch) batch (inr done) inside);
}

-- the commit is refused
pub commit_refused : {S : Type 0} (g : Ghosts S) (old before after : Held S) (batch : List Put) (error : Error) → Reaches (state g old) (state g before) [] batch → (state g before).step_limit ≡ (state g old).step_limit
    → FailsToCommit (state g before) (state g after) error → RefusesBatch g old batch error
commit_refused g old before after batch error reaches limit failed = record {
  finished = batch;
  left = [];
  split = sym (append-nil batch);
  before = before;
  after = after;
  done = inr reaches;
  limit = limit;
  next = failed;
}
