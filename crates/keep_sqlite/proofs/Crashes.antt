-- What a crash leaves, and what is left behind several calls.
use Rattle.std.proofs.Common.{◌≡◌, inl, inr, true, List, [], sym, subst, arith}
use Rattle.sqlite_trees.specs.declared.store.Store.{Ghosts}
use Rattle.sqlite_trees.specs.Tree.{Trees}
use Rattle.sqlite.specs.State.{State, HasCleanDisk, Survives}
use Rattle.sqlite.specs.Held.{state, Held}
use Rattle.sqlite.proofs.StateLemmas.{survives_then}
use Rattle.mud_world.specs.declared.item.Put.{Put}
use Rattle.mud_world.specs.Items.{put_all}
use Rattle.keep_sqlite.specs.Batches.{LeavesNothing, Puts, Reaches}
use Rattle.keep_sqlite.specs.Rows.{items_of, AreTreesOf, HoldsItems}
use Rattle.keep_sqlite.specs.Telling.{IsUp}
use Rattle.keep_sqlite.proofs.Creates.{trees_of}

-- a wider word for what is committed
pub survives_as : {P Q : Trees → Type 0} (old new : State) → (HasCleanDisk new → (db : Trees) → P db → Q db) → Survives old new P → Survives old new Q
survives_as old new wider s = record {
  clean = s.clean;
  shield = s.shield;
  counts = s.counts;
  limit = s.limit;
  closes = s.closes;
  crash = λ clean db may. elim (s.crash clean db may) [ inl before ↦ inl before | inr made ↦ inr (wider clean db made) ];
}

-- a call that commits nothing, behind one that commits
pub survives_next : {P : Trees → Type 0} (a b c : State) → Survives a b P → Survives b c (λ _. ⊥) → Survives a c P
survives_next {P = P} a b c one two = survives_then a b c P (λ _. ⊥) P (λ _ db made. made) (λ _ db none. absurd none) one two

module _ {S : Type 0} (g : Ghosts S) where
  -- The trees are those of the items with the batch, and the connection was up before it.
  abbrev pub IsBatchLeft : Held S → List Put → Trees → Type 0
  IsBatchLeft old batch trees = IsUp g old × AreTreesOf (put_all (items_of (state g old).now) batch) trees

  trees_put : (old mid : State) (batch : List Put) → Reaches old mid [] batch → AreTreesOf (put_all (items_of old.now) batch) mid.now.trees
  trees_put old mid batch reaches = subst (λ items. AreTreesOf items mid.now.trees) reaches.items (trees_of mid.now reaches.holds)

  -- a transaction that was begun, whose puts were all done, and its commit
  pub survives_batch : (old begun mid new : Held S) (batch : List Put) → begun ≡ record old { in_transaction = true } → LeavesNothing g begun mid → Puts g begun mid batch → (IsUp g old → HoldsItems (state g old).now)
      → Survives (state g mid) (state g new) (λ trees. trees ≡ (state g mid).now.trees) → Survives (state g old) (state g new) (IsBatchLeft old batch)
  survives_batch old begun mid new batch is nothing puts holds commits =
      let first : Survives (state g old) (state g mid) (λ _. ⊥) = record {
        clean = (subst (λ h. LeavesNothing g h mid) is nothing).clean;
        shield = (subst (λ h. LeavesNothing g h mid) is nothing).shield;
        counts = (subst (λ h. LeavesNothing g h mid) is nothing).counts;
        limit = (subst (λ h. LeavesNothing g h mid) is nothing).limit;
        closes = (subst (λ h. LeavesNothing g h mid) is nothing).closes;
        crash = (subst (λ h. LeavesNothing g h mid) is nothing).crash;
      } in
      survives_then (state g old) (state g mid) (state g new) _ _ _ (λ _ db none. absurd none) (λ clean db may.
      let early : HasCleanDisk (state g mid) = omega (arith, commits.clean) in
      let start : HasCleanDisk (state g old) = omega (arith, first.clean, early) in
      let reaches = subst (λ h. Puts g h mid batch) is puts early (λ o. holds (start, o)) in
      ((start, reaches.was_open), subst (AreTreesOf (put_all (items_of (state g old).now) batch)) (sym may) (trees_put (state g (record old { in_transaction = true })) (state g mid) batch reaches))) first commits
