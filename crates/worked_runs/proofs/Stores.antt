-- How a run over a store ends whose items are known, by what its command promises.
use Rattle.std.proofs.Common.{◌≡◌, ◌⊎◌, inl, inr, Bool, ℕ, ◌+◌, ◌-◌, ◌^◌, List, [], ◌∷◌, Option, Result, Ok, Err, min, sym, ap, ◌∙◌, subst, arith}
use Rattle.std.specs.List.{AllByRecursion}
use Rattle.mud_base.specs.Numbers.{IsOctets}
use Rattle.mud_world.specs.Causes.{Rose, StopsAtFailure}
use Rattle.mud_world.specs.Door.{DoorState, outputs, put_out}
use Rattle.mud_world.specs.View.{DoorView}
use Rattle.mud_world.specs.declared.item.Item.{Item}
use Rattle.mud_world.specs.declared.keeper.Keeper.{Ghosts}
use Rattle.mud_world.specs.Kept.{Tells, kept_items, faults_of}
use Rattle.desk_model.specs.DeskTables.{DeskTables}
use Rattle.desk_model.specs.Items.{tables_in}
use Rattle.desk_model.specs.Keeping.{KeepsDesk, KeepsSame, IsFirstBad}
use Rattle.desk_model.proofs.Keeping.{first_bad_is_answered, not_both, read_kept}
use Rattle.run_common.specs.Status.{Is, IsOneOf, each_but_refused, each_status}
use Rattle.run_common.specs.declared.status.Status.TheVariants.{Done, Refused, DoorFailed, NoMemory, BadItem, KeeperFailed}
use Rattle.run_desk.specs.Refused.{ByStore, RefusesStore, bad_item_line, each_refusal}
use Rattle.read_buffer.specs.Packets.{Packet}
use Rattle.run_captures.specs.Fold.{LineStep}
use Rattle.run_common.specs.Output.{Output}
use Rattle.run_desk.specs.Store.{LeavesStore, ReadsByStore, WritesByTables}
use Rattle.run_reports.specs.Store.{ReportsStore, WritesTable}
use Rattle.mud_base.specs.declared.addr.Mac.{Mac}
use Rattle.run_reports.specs.Export.Exported.{export_output}
use Rattle.run_reports.specs.Export.Store.{ExportsStore, WritesThing}
use Rattle.run_reports.specs.Tables.{table_text}
use Rattle.run_words.specs.declared.command.ReportKind.{ReportKind}
use Rattle.worked_runs.proofs.Ends.{failed_once, pieces_in, written_out}

abbrev pub read_as : DeskTables → Result DeskTables Item
read_as desk = Ok desk

abbrev pub refused_at : Item → Result DeskTables Item
refused_at item = Err item

pub ok_same : (a b : DeskTables) → read_as a ≡ read_as b → a ≡ b
ok_same a b e = cc

-- the desk that items keep is the one that is read in them
pub the_desk : (before after : List Item) (known desk : DeskTables) → tables_in before ≡ Ok known → KeepsSame before after → KeepsDesk after desk → desk ≡ known
the_desk before after known desk is (inl same) keeps = ok_same desk known (sym (read_kept after desk keeps) ∙ ap tables_in same ∙ is)
the_desk before after known desk is (inr (other, keeps_before, keeps_after)) keeps =
    ok_same desk known (sym (read_kept after desk keeps) ∙ read_kept after other keeps_after ∙ sym (read_kept before other keeps_before) ∙ is)

-- a run that was done refuses no store
pub done_refuses : {status : ℕ} → Is Done status → IsOneOf each_refusal status → ⊥
done_refuses done (inl failed) = omega (arith, done, failed)
done_refuses done (inr (inl memory)) = omega (arith, done, memory)
done_refuses done (inr (inr (inl bad))) = omega (arith, done, bad)
done_refuses done (inr (inr (inr failed))) = omega (arith, done, failed)

-- and so does one whose input was refused
pub refused_refuses : {status : ℕ} → Is Refused status → IsOneOf each_refusal status → ⊥
refused_refuses refused (inl failed) = omega (arith, refused, failed)
refused_refuses refused (inr (inl memory)) = omega (arith, refused, memory)
refused_refuses refused (inr (inr (inl bad))) = omega (arith, refused, bad)
refused_refuses refused (inr (inr (inr failed))) = omega (arith, refused, failed)

pub ended_refuses : {status : ℕ} → IsOneOf (Done ∷ Refused ∷ []) status → IsOneOf each_refusal status → ⊥
ended_refuses (inl done) = done_refuses done
ended_refuses (inr refused) = refused_refuses refused

-- how a run ends over a store that keeps this desk, where a failing call of the outside would have been this
abbrev pub EndsBy : Type 0 → DeskTables → List ℕ → ℕ → DoorState → ℕ → List Item → ℕ → Type 0
EndsBy failed desk text row state status items faults =
    Is NoMemory status
    ⊎ ((Is DoorFailed status × failed)
    ⊎ ((Is KeeperFailed status × Rose 0 faults)
    ⊎ ((status ≡ row) × ((outputs state ≡ text ∷ []) × KeepsDesk items desk))))

abbrev pub EndsOver : DeskTables → List ℕ → ℕ → DoorView → ℕ → List Item → ℕ → Type 0
EndsOver desk text row new status items faults = EndsBy ((new.reads ≡ 1) ⊎ (new.writes ≡ 1)) desk text row new.state status items faults

abbrev pub EndsAtItem : List Item → List ℕ → DoorView → ℕ → List Item → ℕ → Type 0
EndsAtItem items text new status now faults =
    Is NoMemory status
    ⊎ ((Is DoorFailed status × ((new.reads ≡ 1) ⊎ (new.writes ≡ 1)))
    ⊎ ((Is KeeperFailed status × Rose 0 faults)
    ⊎ (Is BadItem status × ((outputs new.state ≡ text ∷ []) × (now ≡ items)))))

err_same : (a b : Item) → refused_at a ≡ refused_at b → a ≡ b
err_same a b e = cc

-- items with one that is no record keep no desk, nor do those that keep the same
pub keeps_no_desk : (before after : List Item) (bad : Item) (desk : DeskTables) → tables_in before ≡ Err bad → KeepsSame before after → KeepsDesk after desk → ⊥
keeps_no_desk before after bad desk is (inl same) keeps = not_both desk bad (sym (read_kept after desk keeps) ∙ ap tables_in same ∙ is)
keeps_no_desk before after bad desk is (inr (other, keeps_before, keeps_after)) keeps = not_both other bad (sym (read_kept before other keeps_before) ∙ is)

pub rose_from : {before now : ℕ} → before ≡ 0 → Rose before now → Rose 0 now
rose_from {before} {now} zero rose = subst (λ (n : ℕ). Rose n now) zero rose

pub stopped_once : {failed : Bool} {before now : ℕ} → before ≡ 0 → StopsAtFailure failed before now → now ≡ 1
stopped_once zero stops = stops.once ∙ ap (λ (n : ℕ). min (n + 1) (2 ^ 64 - 1)) zero

module _ {K : Type 0} (members : Ghosts K) (kept returned : K) (known : DeskTables)
    (read : tables_in (kept_items members kept) ≡ Ok known) (octets : AllByRecursion (λ item. IsOctets item.body) (kept_items members kept))
    (told : Tells members kept) (tells : Tells members returned) (fresh : faults_of members kept ≡ 0) where
  pub reports_end : {old new : DoorView} {status : ℕ} {clock_tells : Type 0} {moments : List ℕ} (kind : ReportKind) (pieces : List (List ℕ)) (text : List ℕ)
      → old.state ≡ pieces_in pieces → old.writes ≡ 0
      → ((clock : Option ℕ) → table_text kind clock known ≡ text)
      → ReportsStore members kind (Unit {0}) clock_tells moments kept returned old new status
      → EndsOver known text 0 new status (kept_items members returned) (faults_of members returned)
  reports_end {old} {new} {status} {clock_tells} {moments} kind pieces text is writes said run = by run.honest.statuses
    where
      items : List Item
      items = kept_items members returned

      written : (desk : DeskTables) → desk ≡ known → WritesTable kind clock_tells moments old.state new.state status desk → Is Done status → outputs new.state ≡ text ∷ []
      written desk same table done =
          ap outputs (table.done done
          ∙ ap (λ (d : DeskTables). put_out (table_text kind table.clock d) old.state) same
          ∙ ap (λ (t : List ℕ). put_out t old.state) (said table.clock)
          ∙ ap (put_out text) is)

      done_by : Is Done status → ByStore items (WritesTable kind clock_tells moments old.state new.state status) (RefusesStore items old.state new.state status) → EndsOver known text 0 new status items (faults_of members returned)
      done_by done (inl (desk, keeps, table)) =
          let same = the_desk (kept_items members kept) items known desk read (run.leaves.same told tells) keeps in
          inr (inr (inr (done, (written desk same table done, subst (KeepsDesk items) same keeps))))
      done_by done (inr refuses) = absurd (done_refuses done refuses.statuses)

      bad_by : Is BadItem status → ByStore items (WritesTable kind clock_tells moments old.state new.state status) (RefusesStore items old.state new.state status) → ⊥
      bad_by bad (inl (desk, keeps, table)) = table.good bad
      bad_by bad (inr refuses) =
          let it = refuses.done bad in
          let first = subst (λ (of : List Item). IsFirstBad of it.item) (run.leaves.same_items bad told tells) it.bad in
          not_both known it.item (sym read ∙ first_bad_is_answered (kept_items members kept) it.item octets first)

      by : IsOneOf each_but_refused status → EndsOver known text 0 new status items (faults_of members returned)
      by (inl done) = done_by done (run.writes tt tells)
      by (inr (inl failed)) = inr (inl (failed, inr (stopped_once writes (run.honest.fault failed))))
      by (inr (inr (inl memory))) = inl memory
      by (inr (inr (inr (inl bad)))) = absurd (bad_by bad (run.writes tt tells))
      by (inr (inr (inr (inr failed)))) = inr (inr (inl (failed, rose_from fresh (run.honest.keeper_fault failed))))

  pub reads_end : {S : Type 0} {step : S → Packet → LineStep S} {from : DeskTables → S} {old new : DoorView} {status : ℕ}
      (output : DeskTables → List ℕ → Output) (pieces : List (List ℕ)) (text : List ℕ) (row : ℕ)
      → old.state ≡ pieces_in pieces → old.reads ≡ 0 → old.writes ≡ 0
      → output known (pieces_in pieces).left ≡ record { text = text; status = row }
      → ReadsByStore members output step from (Unit {0}) kept returned old new status
      → EndsOver known text row new status (kept_items members returned) (faults_of members returned)
  reads_end {S} {step} {from} {old} {new} {status} output pieces text row is reads writes said run = by run.honest.statuses
    where
      items : List Item
      items = kept_items members returned

      Said : Type 0
      Said = ByStore items (WritesByTables output step from old new status) (RefusesStore items old.state new.state status × (new.reads ≡ old.reads))

      done_by : IsOneOf (Done ∷ Refused ∷ []) status → Said → EndsOver known text row new status items (faults_of members returned)
      done_by done (inl (desk, keeps, table)) =
          let same = the_desk (kept_items members kept) items known desk read (run.leaves.same told tells) keeps in
          let left = ap (λ (s : DoorState). output known s.left) is ∙ said in
          let wrote = written_out pieces text (output desk old.state.left) row is (ap (λ (d : DeskTables). output d old.state.left) same ∙ left) (table.done done) in
          inr (inr (inr (wrote.0, (wrote.1, subst (KeepsDesk items) same keeps))))
      done_by done (inr refuses) = absurd (ended_refuses done refuses.0.statuses)

      bad_by : Is BadItem status → Said → ⊥
      bad_by bad (inl (desk, keeps, table)) = table.good bad
      bad_by bad (inr refuses) =
          let it = refuses.0.done bad in
          let first = subst (λ (of : List Item). IsFirstBad of it.item) (run.leaves.same_items bad told tells) it.bad in
          not_both known it.item (sym read ∙ first_bad_is_answered (kept_items members kept) it.item octets first)

      by : IsOneOf each_status status → EndsOver known text row new status items (faults_of members returned)
      by (inl done) = done_by (inl done) (run.writes tt tells)
      by (inr (inl refused)) = done_by (inr refused) (run.writes tt tells)
      by (inr (inr (inl failed))) = inr (inl (failed, failed_once reads writes (run.honest.fault failed)))
      by (inr (inr (inr (inl memory)))) = inl memory
      by (inr (inr (inr (inr (inl bad))))) = absurd (bad_by bad (run.writes tt tells))
      by (inr (inr (inr (inr (inr failed))))) = inr (inr (inl (failed, rose_from fresh (run.honest.keeper_fault failed))))

  pub exports_end : {old new : DoorView} {status : ℕ} {clock_tells : Type 0} {moments : List ℕ} (mac : Mac) (pieces : List (List ℕ)) (text : List ℕ) (row : ℕ)
      → old.state ≡ pieces_in pieces → old.writes ≡ 0
      → ((clock : ℕ) → export_output mac clock known ≡ record { text = text; status = row })
      → ExportsStore members mac (Unit {0}) clock_tells moments kept returned old new status
      → EndsOver known text row new status (kept_items members returned) (faults_of members returned)
  exports_end {old} {new} {status} {clock_tells} {moments} mac pieces text row is writes said run = by run.honest.statuses
    where
      items : List Item
      items = kept_items members returned

      Said : Type 0
      Said = ByStore items (WritesThing mac clock_tells moments old.state new.state status) (RefusesStore items old.state new.state status)

      done_by : IsOneOf (Done ∷ Refused ∷ []) status → Said → EndsOver known text row new status items (faults_of members returned)
      done_by done (inl (desk, keeps, thing)) =
          let same = the_desk (kept_items members kept) items known desk read (run.leaves.same told tells) keeps in
          let output = ap (λ (d : DeskTables). export_output mac thing.clock d) same ∙ said thing.clock in
          inr (inr (inr (
            thing.lists.status_is done ∙ ap (λ (o : Output). o.status) output,
            (ap outputs (thing.lists.done done ∙ ap (λ (o : Output). put_out o.text old.state) output ∙ ap (put_out text) is), subst (KeepsDesk items) same keeps),
          )))
      done_by done (inr refuses) = absurd (ended_refuses done refuses.statuses)

      bad_by : Is BadItem status → Said → ⊥
      bad_by bad (inl (desk, keeps, thing)) = thing.good bad
      bad_by bad (inr refuses) =
          let it = refuses.done bad in
          let first = subst (λ (of : List Item). IsFirstBad of it.item) (run.leaves.same_items bad told tells) it.bad in
          not_both known it.item (sym read ∙ first_bad_is_answered (kept_items members kept) it.item octets first)

      by : IsOneOf each_status status → EndsOver known text row new status items (faults_of members returned)
      by (inl done) = done_by (inl done) (run.writes tt tells)
      by (inr (inl refused)) = done_by (inr refused) (run.writes tt tells)
      by (inr (inr (inl failed))) = inr (inl (failed, inr (stopped_once writes (run.honest.fault failed))))
      by (inr (inr (inr (inl memory)))) = inl memory
      by (inr (inr (inr (inr (inl bad))))) = absurd (bad_by bad (run.writes tt tells))
      by (inr (inr (inr (inr (inr failed))))) = inr (inr (inl (failed, rose_from fresh (run.honest.keeper_fault failed))))

module _ {K : Type 0} (members : Ghosts K) (kept returned : K) (unknown : Item)
    (read : tables_in (kept_items members kept) ≡ Err unknown) (octets : AllByRecursion (λ item. IsOctets item.body) (kept_items members kept))
    (told : Tells members kept) (tells : Tells members returned) (fresh : faults_of members kept ≡ 0) where
  pub reports_item : {old new : DoorView} {status : ℕ} {clock_tells : Type 0} {moments : List ℕ} (kind : ReportKind) (list : List Item) (pieces : List (List ℕ)) (text : List ℕ)
      → kept_items members kept ≡ list → old.state ≡ pieces_in pieces → old.writes ≡ 0
      → bad_item_line unknown.kind unknown.key ≡ text
      → ReportsStore members kind (Unit {0}) clock_tells moments kept returned old new status
      → EndsAtItem list text new status (kept_items members returned) (faults_of members returned)
  reports_item {old} {new} {status} {clock_tells} {moments} kind list pieces text are is writes said run = by run.honest.statuses
    where
      items : List Item
      items = kept_items members returned

      Said : Type 0
      Said = ByStore items (WritesTable kind clock_tells moments old.state new.state status) (RefusesStore items old.state new.state status)

      done_by : Is Done status → Said → ⊥
      done_by done (inl (desk, keeps, table)) = keeps_no_desk (kept_items members kept) items unknown desk read (run.leaves.same told tells) keeps
      done_by done (inr refuses) = done_refuses done refuses.statuses

      bad_by : Is BadItem status → Said → outputs new.state ≡ text ∷ []
      bad_by bad (inl (desk, keeps, table)) = absurd (table.good bad)
      bad_by bad (inr refuses) =
          let it = refuses.done bad in
          let first = subst (λ (of : List Item). IsFirstBad of it.item) (run.leaves.same_items bad told tells) it.bad in
          let same = err_same it.item unknown (sym (first_bad_is_answered (kept_items members kept) it.item octets first) ∙ read) in
          ap outputs (it.line ∙ ap (λ (i : Item). put_out (bad_item_line i.kind i.key) old.state) same ∙ ap (λ (t : List ℕ). put_out t old.state) said ∙ ap (put_out text) is)

      by : IsOneOf each_but_refused status → EndsAtItem list text new status items (faults_of members returned)
      by (inl done) = absurd (done_by done (run.writes tt tells))
      by (inr (inl failed)) = inr (inl (failed, inr (stopped_once writes (run.honest.fault failed))))
      by (inr (inr (inl memory))) = inl memory
      by (inr (inr (inr (inl bad)))) = inr (inr (inr (bad, (bad_by bad (run.writes tt tells), run.leaves.same_items bad told tells ∙ are))))
      by (inr (inr (inr (inr failed)))) = inr (inr (inl (failed, rose_from fresh (run.honest.keeper_fault failed))))
