-- What a run comes to whose store isn't opened, by the fault of the opening.
use Rattle.std.proofs.Common.{◌≡◌, ◌≢◌, ℕ, ◌⊎◌, inl, inr, List, [], take, refl, rules, sym, ap, ap₂, subst, ◌∙◌, arith}
use Rattle.mud_world.specs.declared.keeper.Keeper.{Ghosts}
use Rattle.mud_world.specs.declared.item.Item.{Item}
use Rattle.mud_world.specs.Kept.{faults_of, Tells, kept_items}
use Rattle.mud_world.specs.Causes.{Counts, Rose, StopsAtFailure}
use Rattle.mud_world.specs.Door.{DoorState, put_out}
use Rattle.mud_world.specs.View.{DoorView}
use Rattle.mud_world.proofs.Doors.{put_out_none}
use Rattle.run_common.specs.Output.{WroteFirst}
use Rattle.run_common.specs.Ends.{IsSteady, IsStopped, IsStoppedWriting}
use Rattle.run_common.specs.Status.{each_status}
use Rattle.mud_desk.specs.declared.items.fault.OpenFault.{OpenFault}
use Rattle.mud_desk.specs.declared.items.fault.OpenFault.TheVariants.{Keeper, Memory, BadItem}
use Rattle.mud_desk.specs.Items.Opening.{IsFaultOf, IsOfCall}
use Rattle.desk_model.specs.Keeping.{IsFirstBad, KeepsSame}
use Rattle.mud_desk.specs.Answers.{IsLeft, is_fault_of_keeper}
use Rattle.run_desk.specs.Honest.{RunsHonestly}
use Rattle.run_desk.specs.Refused.{IsRefusal, RefusesStore, bad_item_line, each_refusal, refusal_text}
use Rattle.run_desk.specs.Store.{IsRefused, IsUnopened, LeavesStore}
use Rattle.run_desk.proofs.Stores.{IsOfRefusal}

-- ---- Statuses

refusal_status : (fault : OpenFault) (status : ℕ) → IsRefusal fault status → IsOfRefusal status
refusal_status Keeper status is = inr (inr (inr is))
refusal_status Memory status is = inr (inl is)
refusal_status (BadItem kind key) status (inl six) = inr (inr (inl six))
refusal_status (BadItem kind key) status (inr (inl four)) = inl four
refusal_status (BadItem kind key) status (inr (inr five)) = inr (inl five)

rose_of : (fault : OpenFault) (status before now : ℕ) → IsRefusal fault status → Counts (is_fault_of_keeper fault) before now → status ≡ 7 → Rose before now
rose_of Keeper status before now is counts seven = counts.rose (search rules)
rose_of Memory status before now is counts seven = absurd (grind arith)
rose_of (BadItem kind key) status before now is counts seven = absurd (grind arith)

steady_of : (fault : OpenFault) (status before now : ℕ) → IsRefusal fault status → Counts (is_fault_of_keeper fault) before now → status ≢ 7 → now ≡ before
steady_of Keeper status before now is counts other = absurd (other is)
steady_of Memory status before now is counts other = counts.steady refl
steady_of (BadItem kind key) status before now is counts other = counts.steady refl

-- ---- What is written

module _ (old new : DoorState) (status : ℕ) where
  refuses_item : (items : List Item) (item : Item) → IsFirstBad items item → (status ≡ 6) ⊎ ((status ≡ 4) ⊎ (status ≡ 5))
      → (status ≡ 6 → new ≡ put_out (bad_item_line item.kind item.key) old)
      → ((status ≡ 4) ⊎ (status ≡ 5) → WroteFirst (bad_item_line item.kind item.key) old new)
      → RefusesStore items old new status
  refuses_item items item bad is done part = record {
    statuses = refusal_status (BadItem item.kind item.key) status is;
    done = λ six. record { item = item; bad = bad; line = done six };
    part = λ four. record { item = item; bad = bad; line = part (inl four) };
    wanting = λ five. inr (record { item = item; bad = bad; line = part (inr five) });
    none = λ seven. absurd (grind arith);
  }

  refuses_by : (items : List Item) (fault : OpenFault) → IsFaultOf items fault → IsRefusal fault status
      → (status ≡ 6 → new ≡ put_out (refusal_text fault) old)
      → ((status ≡ 4) ⊎ (status ≡ 5) → WroteFirst (refusal_text fault) old new)
      → (IsOfCall fault → new ≡ old) → RefusesStore items old new status
  refuses_by items Keeper of is done part untouched = record {
    statuses = refusal_status Keeper status is;
    done = λ six. absurd (grind arith);
    part = λ four. absurd (grind arith);
    wanting = λ five. absurd (grind arith);
    none = λ seven. untouched tt;
  }
  refuses_by items Memory of is done part untouched = record {
    statuses = refusal_status Memory status is;
    done = λ six. absurd (grind arith);
    part = λ four. absurd (grind arith);
    wanting = λ five. inl (untouched tt);
    none = λ seven. absurd (grind arith);
  }
  refuses_by items (BadItem kind key) of is done part untouched =
      let text : bad_item_line kind key ≡ bad_item_line of.item.kind of.item.key = ap₂ bad_item_line (sym of.kind_is) (sym of.key_is) in
      refuses_item items of.item of.bad is
      (λ six. done six ∙ ap (λ (line : List ℕ). put_out line old) text)
      (λ first. subst (λ (line : List ℕ). WroteFirst line old new) text (part first))

  wrote_text : (fault : OpenFault) → IsRefusal fault status → (status ≡ 6 → new ≡ put_out (refusal_text fault) old)
      → ((status ≡ 4) ⊎ (status ≡ 5) → WroteFirst (refusal_text fault) old new) → (IsOfCall fault → new ≡ old) → (text : List ℕ) × (new ≡ put_out text old)
  wrote_text Keeper is done part untouched = ([], untouched tt ∙ sym (put_out_none old))
  wrote_text Memory is done part untouched = ([], untouched tt ∙ sym (put_out_none old))
  wrote_text (BadItem kind key) (inl six) done part untouched = (bad_item_line kind key, done six)
  wrote_text (BadItem kind key) (inr first) done part untouched = (take (part first).count (bad_item_line kind key), (part first).wrote)

-- ---- What is kept

left_same : (before now : List Item) (fault : OpenFault) → IsLeft before now fault → KeepsSame before now
left_same before now (BadItem kind key) same = inl same
left_same before now Keeper (inl same) = inl same
left_same before now Keeper (inr anew) = inr (anew.desk, anew.keeps, anew.still)
left_same before now Memory left = left

same_items_of : (before now : List Item) (fault : OpenFault) (status : ℕ) → IsRefusal fault status → IsLeft before now fault → status ≡ 6 → now ≡ before
same_items_of before now Keeper status is left six = absurd (grind arith)
same_items_of before now Memory status is left six = absurd (grind arith)
same_items_of before now (BadItem kind key) status is left six = left

bad_where_told : (items : List Item) (fault : OpenFault) (status : ℕ) → IsFaultOf items fault → IsRefusal fault status → (status ≡ 4) ⊎ (status ≡ 6) → (item : Item) × IsFirstBad items item
bad_where_told items Keeper status of is which = absurd (grind arith)
bad_where_told items Memory status of is which = absurd (grind arith)
bad_where_told items (BadItem kind key) status of is which = (of.item, of.bad)

-- ---- The run

module _ {K : Type 0} (members : Ghosts K) (keeper returned : K) (old new : DoorView) (status : ℕ) where
  -- that of a command that reads where the store is opened
  pub reads_honestly : RunsHonestly members each_refusal (IsStoppedWriting old new) (new.writes ≡ old.writes) keeper returned status → new.reads ≡ old.reads
      → RunsHonestly members each_status (IsStopped old new) (IsSteady old new) keeper returned status
  reads_honestly honest reads = record {
    statuses = inr (inr honest.statuses);
    fault = λ four. inr (honest.fault four, reads);
    steady = λ other. (reads, honest.steady other);
    keeper_fault = honest.keeper_fault;
    told = honest.told;
  }

module _ {K : Type 0} (members : Ghosts K) where
  -- what is known of a run whose store isn't opened
  pub record RunsRefused (tells : Type 0) (keeper returned : K) (old new : DoorView) (status : ℕ) : Type 0 where
    pub honest : RunsHonestly members each_refusal (IsStoppedWriting old new) (new.writes ≡ old.writes) keeper returned status
    pub leaves : LeavesStore members keeper returned status
    pub refuses : tells → Tells members returned → RefusesStore (kept_items members returned) old.state new.state status
    pub wrote : tells → (text : List ℕ) × (new.state ≡ put_out text old.state)
    pub same_turns : new.turns ≡ old.turns
    pub same_reads : new.reads ≡ old.reads

module _ {K : Type 0} (members : Ghosts K) (keeper after : K) (tells : Type 0) (old new : DoorView) (status : ℕ) where
  unopened : (fault : OpenFault) → (Tells members after → IsFaultOf (kept_items members after) fault)
      → (Tells members keeper → Tells members after → IsLeft (kept_items members keeper) (kept_items members after) fault)
      → (Tells members keeper → (list : List Item) → members.left after list → members.left keeper list ⊎ KeepsSame (kept_items members keeper) list)
      → IsRefusal fault status → IsUnopened members keeper after status
  unopened fault named left crash is = record {
    statuses = refusal_status fault status is;
    bad = λ which tell. bad_where_told (kept_items members after) fault status (named tell) is which;
    same = λ before now. left_same (kept_items members keeper) (kept_items members after) fault (left before now);
    crash = crash;
  }

  pub runs_refused : (fault : OpenFault)
      → (Tells members after → IsFaultOf (kept_items members after) fault)
      → (Tells members keeper → Tells members after → IsLeft (kept_items members keeper) (kept_items members after) fault)
      → (Tells members keeper → (list : List Item) → members.left after list → members.left keeper list ⊎ KeepsSame (kept_items members keeper) list)
      → Counts (is_fault_of_keeper fault) (faults_of members keeper) (faults_of members after)
      → (Tells members after → Tells members keeper)
      → IsRefusal fault status
      → (status ≡ 4 → StopsAtFailure new.failed old.writes new.writes)
      → (status ≢ 4 → new.writes ≡ old.writes)
      → (tells → status ≡ 6 → new.state ≡ put_out (refusal_text fault) old.state)
      → (tells → (status ≡ 4) ⊎ (status ≡ 5) → WroteFirst (refusal_text fault) old.state new.state)
      → (IsOfCall fault → new.state ≡ old.state)
      → new.turns ≡ old.turns → new.reads ≡ old.reads → RunsRefused members tells keeper after old new status
  runs_refused fault bad left crash counts back is failed steady done part untouched turns reads = record {
    honest = record {
      statuses = refusal_status fault status is;
      fault = failed;
      steady = steady;
      keeper_fault = rose_of fault status (faults_of members keeper) (faults_of members after) is counts;
      told = back;
    };
    leaves = record {
      keeper_steady = steady_of fault status (faults_of members keeper) (faults_of members after) is counts;
      same = λ before now. left_same (kept_items members keeper) (kept_items members after) fault (left before now);
      same_items = λ six before now. same_items_of (kept_items members keeper) (kept_items members after) fault status is (left before now) six;
      kept = inr (unopened fault bad left crash is);
    };
    refuses = λ told tell. refuses_by old.state new.state status (kept_items members after) fault (bad tell) is (done told) (part told) untouched;
    wrote = λ told. wrote_text old.state new.state status fault is (done told) (part told) untouched;
    same_turns = turns;
    same_reads = reads;
  }

  pub is_refused : RunsRefused members tells keeper after old new status → tells → Tells members after → IsRefused members keeper after old.state new.state status
  is_refused run told tell = record {
    refuses = run.refuses told tell;
    same = λ before. run.leaves.same before tell;
    same_items = λ six before. run.leaves.same_items six before tell;
  }
