-- The change that is made of that of a book and its rows is the step of the desk.
use Rattle.std.proofs.Common.{◌≡◌, ℕ, ◌≤◌, Bool, true, false, cond, List, [], ◌∷◌, length, Option, Some, None, Ok, Err, refl, sym, ap, subst, ◌∙◌, bytes_eq, arith}
use Rattle.std.specs.Prelude.{IsOkAnd, ◌↔◌}
use Rattle.std.proofs.lemmas.Bool.{false≢true}
use Rattle.mud_world.specs.declared.item.Put.{Put}
use Rattle.acl_model.specs.declared.binding.Binding.{Binding}
use Rattle.acl_model.specs.Changes.{IsBindingChange}
use Rattle.item_codec.specs.declared.word.Word.{Word}
use Rattle.acl_compile.specs.Compiled.{CompiledState}
use Rattle.acl_compile.specs.Plans.{Plan, Fits, IsMemberPlan}
use Rattle.table_model.specs.declared.thing.Thing.{Thing}
use Rattle.table_model.specs.Tables.{Tables, binds_of, with_binds}
use Rattle.table_model.specs.Bindings.{bindings_of}
use Rattle.table_model.specs.Things.{IsSoundThings}
use Rattle.table_model.specs.Binds.{Binds, IsSoundBinds}
use Rattle.table_model.specs.ThingCommands.{ThingsAfter, ThingStep}
use Rattle.table_model.specs.BindCommands.{BindsAfter, BindStep}
use Rattle.usage_tables.specs.declared.cached_file.CachedFile.{CachedFile}
use Rattle.usage_tables.specs.declared.file_edit.PolicyChange.{PolicyChange}
use Rattle.usage_tables.specs.declared.file_edit.PolicyChange.TheVariants.{Stays, Comes, Goes}
use Rattle.usage_tables.specs.Files.{IsSoundFiles}
use Rattle.usage_tables.specs.FileCommands.{FilesAfter, FileStep}
use Rattle.usage_tables.specs.Limits.{last_moment}
use Rattle.usage_tables.specs.Policies.{policy_of, policy_change, policy_after}
use Rattle.thing_book.specs.Planned as thing
use Rattle.file_cache.specs.Planned as file
use Rattle.file_cache.specs.Changes.{PlannedFile}
use Rattle.bind_book.specs.Plans as bind
use Rattle.desk_model.specs.declared.reply.Outcome.{Outcome}
use Rattle.desk_model.specs.DeskTables.{DeskTables, IsSound, with_things, with_files, with_desk_binds}
use Rattle.desk_model.specs.Commands.{outcome, stamped, by_things, by_files, by_binds}
use Rattle.desk_model.specs.Items.{IsKeptBy, with_stamp_put}
use Rattle.desk_model.specs.Verdicts.{policy_at, desk_bindings}
use Rattle.desk_model.proofs.Batches.{things_kept, files_kept, binds_kept}
use Rattle.desk_books.specs.CompiledDesk.{IsCompiledOf}
use Rattle.desk_books.specs.declared.change.BookChange.{BookChange}
use Rattle.desk_books.specs.declared.change.BookChange.TheVariants as which
use Rattle.desk_books.specs.Books.{Books, desk_of, AreKept}
use Rattle.desk_books.specs.Changes.{with_change, with_stamp, desk_after, batch_of, stamp_after, outcome_of, puts_in, without_puts, change_of}
use Rattle.desk_books.specs.Planned.{CanCommit, IsCommitted, IsBatchOf, HasFewEdits, IsPlanned}
use Rattle.desk_books.specs.RowPlans.{IsFileRows}
use Rattle.desk_books.proofs.Desks.{compiled_alike, member_compiled, policy_compiled}
use Rattle.desk_model.proofs.SoundSteps.{sound_stamped}
use Rattle.bind_book.proofs.Plans.{no_binding_change}
use Rattle.mud_url.proofs.Offsets.{same_octets}

-- ---- The stamp

stamped_tables : (changes : Bool) (now : ℕ) (desk : DeskTables) → (stamped changes now desk).tables ≡ desk.tables
unfolding stamped
stamped_tables true now desk = refl
stamped_tables false now desk = refl

pub stamped_files : (changes : Bool) (now : ℕ) (desk : DeskTables) → (stamped changes now desk).files ≡ desk.files
unfolding stamped
stamped_files true now desk = refl
stamped_files false now desk = refl

-- whether there are puts is whether a list changes
stamp_leads : (desk : DeskTables) (stamp : Option ℕ) (now : ℕ) (puts : List Put) (changes : Bool) → desk.stamp ≡ stamp → (puts ≡ []) ↔ (changes ≡ false) → with_stamp (stamp_after now stamp puts) desk ≡ stamped changes now desk
unfolding with_stamp stamp_after stamped
stamp_leads desk stamp now [] false same none = ap (λ (s : Option ℕ). with_stamp s desk) (sym same)
stamp_leads desk stamp now [] true same none = absurd (false≢true (sym (none.0 refl)))
stamp_leads desk stamp now (put ∷ puts) true same none = refl
stamp_leads desk stamp now (put ∷ puts) false same none = let e : put ∷ puts ≡ [] = none.1 refl in absurd cc

batch_kept : (before after : DeskTables) (now : ℕ) (puts : List Put) (changes : Bool) → (puts ≡ []) ↔ (changes ≡ false) → IsKeptBy before (stamped true now after) (with_stamp_put now puts) → IsBatchOf changes before (stamped changes now after) (batch_of now puts)
unfolding batch_of
batch_kept before after now [] false none kept = refl
batch_kept before after now [] true none kept = absurd (false≢true (sym (none.0 refl)))
batch_kept before after now (put ∷ puts) true none kept = kept
batch_kept before after now (put ∷ puts) false none kept = let e : put ∷ puts ≡ [] = none.1 refl in absurd cc

outcome_alike : (word word' : Word) (until until' : Option ℕ) (url url' : Option (List ℕ)) → word ≡ word' → until ≡ until' → url ≡ url' → outcome word until url ≡ outcome word' until' url'
outcome_alike word word' until until' url url' w u l = ap (λ (x : Word). outcome x until url) w ∙ ap (λ (x : Option ℕ). outcome word' x url) u ∙ ap (λ (x : Option (List ℕ)). outcome word' until' x) l

-- ---- The parts of a plan

-- a policy that stays
stays : (url u : List ℕ) (files : List CachedFile) (b : Bool) → bytes_eq url u ≡ b → cond b (policy_of files url) (policy_of files u) ≡ policy_of files u
stays url u files true e = ap (λ (x : List ℕ). policy_of files x) (same_octets url u e)
stays url u files false e = refl

no_edits : (plan : Plan) → plan.bindings ≡ [] → length plan.bindings ≤ 0
no_edits plan none = omega (arith, ap length none)

pub change_stamped : (before after : DeskTables) (changes : Bool) (now : ℕ) (gone come : List Binding) → IsBindingChange (desk_bindings before) (desk_bindings after) gone come → IsBindingChange (desk_bindings before) (desk_bindings (stamped changes now after)) gone come
unfolding desk_bindings
change_stamped before after changes now gone come change = subst (λ (ts : Tables). IsBindingChange (bindings_of before.tables) (bindings_of ts) gone come) (sym (stamped_tables changes now after)) change

module _ (books : Books) (kept : AreKept books) (now : ℕ) (late : now ≤ last_moment) where
  -- the desk with other lists, at the stamp that it had
  record Lists (change : BookChange) (plan : Plan) (lists : DeskTables) (changes : Bool) : Type 0 where
    leads : with_change (without_puts change) (desk_of books) ≡ lists
    stamp : lists.stamp ≡ books.stamp
    sound : IsSound lists
    none : (puts_in change ≡ []) ↔ (changes ≡ false)
    batch : IsKeptBy (desk_of books) (stamped true now lists) (with_stamp_put now (puts_in change))
    can : CanCommit (without_puts change) books.things books.files books.binds
    fits : Fits plan books.compiled
    compiled : (c : CompiledState) → IsCommitted plan books.compiled c → IsCompiledOf lists c
    few : HasFewEdits (desk_of books) lists plan

  assembled : (change : BookChange) (plan : Plan) (lists : DeskTables) (changes : Bool) (out : Outcome) → outcome_of change ≡ out → Lists change plan lists changes
      → IsPlanned (record { outcome = out; changes = changes; desk = stamped changes now lists }) books (change_of now books.stamp change plan)
  unfolding change_of desk_after
  assembled change plan lists changes out said l =
      let leads : desk_after (change_of now books.stamp change plan) (desk_of books) ≡ stamped changes now lists =
      ap (λ (d : DeskTables). with_stamp (stamp_after now books.stamp (puts_in change)) d) l.leads ∙ stamp_leads lists books.stamp now (puts_in change) changes l.stamp l.none in
      record {
        outcome = said;
        leads = leads;
        batch = batch_kept (desk_of books) lists now (puts_in change) changes l.none l.batch;
        ready = record {
          lists = l.can;
          fits = l.fits;
          sound = subst IsSound (sym leads) (sound_stamped changes now lists late l.sound);
          compiled = λ c made. subst (λ (d : DeskTables). IsCompiledOf d c) (sym leads) (compiled_alike lists (stamped changes now lists) c (stamped_tables changes now lists) (stamped_files changes now lists) (l.compiled c made));
        };
        edits = record { gone = l.few.gone; come = l.few.come; change = change_stamped (desk_of books) lists changes now l.few.gone l.few.come l.few.change; few = l.few.few };
      }

  -- ---- Things

  things_lists : (after : ThingsAfter) (change : thing.PlannedThings) (plan : Plan) → thing.IsPlanned after books.things change → IsMemberPlan change.gone change.come books.compiled plan
      → Lists (which.Things change) plan (with_things after.things (desk_of books)) after.changes
  unfolding with_change without_puts puts_in with_things desk_bindings policy_at
  things_lists after change plan p m =
      let desk : DeskTables = desk_of books in
      let lists : DeskTables = with_things after.things desk in
      let sound : IsSound lists = record {
        tables = record { things = p.sound; classes = kept.sound.tables.classes; locals = kept.sound.tables.locals; names = kept.sound.tables.names };
        files = kept.sound.files;
        stamp = kept.sound.stamp;
      } in
      let change' : IsBindingChange (desk_bindings desk) (desk_bindings lists) change.gone change.come = p.bindings desk.tables refl in
      record {
        leads = ap (λ (ts : List Thing). with_things ts desk) p.leads;
        stamp = refl;
        sound = sound;
        none = p.none;
        batch = things_kept desk now after.things change.puts p.puts p.kind p.few;
        can = record { enough = p.room; sound = subst IsSoundThings (sym p.leads) p.sound };
        fits = m.fits;
        compiled = λ c made. member_compiled desk lists kept.sound sound (λ url. refl) change.gone change.come change' books.compiled c plan kept.compiled m made;
        few = record { gone = change.gone; come = change.come; change = change'; few = m.few };
      }

  pub things_planned : (step : ThingStep) (change : thing.PlannedThings) (plan : Plan) → thing.IsPlanOf step books.things change → IsMemberPlan change.gone change.come books.compiled plan
      → IsOkAnd (by_things (desk_of books) now step) (λ after. IsPlanned after books (change_of now books.stamp (which.Things change) plan))
  unfolding by_things outcome_of
  things_planned (Ok after) change plan p m =
      let out : Outcome = outcome after.word after.until None in
      assembled (which.Things change) plan (with_things after.things (desk_of books)) after.changes out (outcome_alike change.word after.word change.until after.until None None p.word p.until refl) (things_lists after change plan p m)
  things_planned (Err fault) change plan p m = absurd p

  -- ---- Classes, local networks and names

  binds_lists : (after : BindsAfter) (change : bind.Plan) (plan : Plan) → bind.IsPlanned after books.binds change → IsMemberPlan change.gone change.come books.compiled plan
      → Lists (which.Binds change) plan (with_desk_binds after.binds (desk_of books)) after.changes
  unfolding with_change without_puts puts_in with_desk_binds desk_bindings policy_at binds_of with_binds
  binds_lists after change plan p m =
      let desk : DeskTables = desk_of books in
      let lists : DeskTables = with_desk_binds after.binds desk in
      let sound : IsSound lists = record {
        tables = record { things = kept.sound.tables.things; classes = p.sound.classes; locals = p.sound.locals; names = p.sound.names };
        files = kept.sound.files;
        stamp = kept.sound.stamp;
      } in
      let change' : IsBindingChange (desk_bindings desk) (desk_bindings lists) change.gone change.come = p.bindings desk.tables refl in
      record {
        leads = ap (λ (bs : Binds). with_desk_binds bs desk) p.leads;
        stamp = refl;
        sound = sound;
        none = p.empty;
        batch = binds_kept desk now after.binds change.puts p.puts p.kinds p.few;
        can = (p.room, subst IsSoundBinds (sym p.leads) p.sound);
        fits = m.fits;
        compiled = λ c made. member_compiled desk lists kept.sound sound (λ url. refl) change.gone change.come change' books.compiled c plan kept.compiled m made;
        few = record { gone = change.gone; come = change.come; change = change'; few = m.few };
      }

  pub binds_planned : (step : BindStep) (change : bind.Plan) (plan : Plan) → bind.IsPlanOf step books.binds change → IsMemberPlan change.gone change.come books.compiled plan
      → IsOkAnd (by_binds (desk_of books) now step) (λ after. IsPlanned after books (change_of now books.stamp (which.Binds change) plan))
  unfolding by_binds outcome_of
  binds_planned (Ok after) change plan p m =
      let out : Outcome = outcome after.word after.until None in
      assembled (which.Binds change) plan (with_desk_binds after.binds (desk_of books)) after.changes out (outcome_alike change.word after.word change.until after.until None None p.word p.until refl) (binds_lists after change plan p m)
  binds_planned (Err fault) change plan p m = absurd p

  -- ---- Files

  record Rows (lists : DeskTables) (plan : Plan) : Type 0 where
    fits : Fits plan books.compiled
    compiled : (c : CompiledState) → IsCommitted plan books.compiled c → IsCompiledOf lists c
    few : HasFewEdits (desk_of books) lists plan

  file_rows : (files : List CachedFile) → IsSoundFiles files → (url : List ℕ) (pc : PolicyChange) (plan : Plan) → ((u : List ℕ) → policy_of files u ≡ cond (bytes_eq url u) (policy_after pc books.files.files url) (policy_of books.files.files u))
      → IsFileRows pc url books.files.files books.compiled plan → Rows (with_files files (desk_of books)) plan
  unfolding with_files desk_bindings policy_at policy_after
  file_rows files sound url Stays plan policies m =
      let desk : DeskTables = desk_of books in
      let lists : DeskTables = with_files files desk in
      let sound' : IsSound lists = record { tables = kept.sound.tables; files = sound; stamp = kept.sound.stamp } in
      let same : (u : List ℕ) → policy_of files u ≡ policy_of books.files.files u = λ u. policies u ∙ stays url u books.files.files (bytes_eq url u) refl in
      let none : IsBindingChange (desk_bindings desk) (desk_bindings lists) [] [] = no_binding_change (desk_bindings desk) in
      record {
        fits = m.fits;
        compiled = λ c made. member_compiled desk lists kept.sound sound' same [] [] none books.compiled c plan kept.compiled m made;
        few = record { gone = []; come = []; change = none; few = m.few };
      }
  file_rows files sound url Comes plan policies p =
      let desk : DeskTables = desk_of books in
      let lists : DeskTables = with_files files desk in
      record {
        fits = p.fits;
        compiled = λ c made. policy_compiled desk lists url (policy_after Comes books.files.files url) refl policies books.compiled c plan kept.compiled p made;
        few = record { gone = []; come = []; change = no_binding_change (desk_bindings desk); few = no_edits plan p.bindings };
      }
  file_rows files sound url Goes plan policies p =
      let desk : DeskTables = desk_of books in
      let lists : DeskTables = with_files files desk in
      record {
        fits = p.fits;
        compiled = λ c made. policy_compiled desk lists url (policy_after Goes books.files.files url) refl policies books.compiled c plan kept.compiled p made;
        few = record { gone = []; come = []; change = no_binding_change (desk_bindings desk); few = no_edits plan p.bindings };
      }

  files_lists : (after : FilesAfter) (change : PlannedFile) (plan : Plan) → file.IsPlanned after books.files change → IsFileRows (policy_change change.edit) change.url books.files.files books.compiled plan
      → Lists (which.Files change) plan (with_files after.files (desk_of books)) after.changes
  unfolding with_change without_puts puts_in with_files
  files_lists after change plan p m =
      let desk : DeskTables = desk_of books in
      let rows : Rows (with_files after.files desk) plan = file_rows after.files p.sound change.url (policy_change change.edit) plan p.policies m in
      record {
        leads = ap (λ (fs : List CachedFile). with_files fs desk) p.leads;
        stamp = refl;
        sound = record { tables = kept.sound.tables; files = p.sound; stamp = kept.sound.stamp };
        none = p.none;
        batch = files_kept desk now after.files change.puts p.puts p.kind p.few;
        can = (p.room, subst IsSoundFiles (sym p.leads) p.sound);
        fits = rows.fits;
        compiled = rows.compiled;
        few = rows.few;
      }

  pub files_planned : (step : FileStep) (change : PlannedFile) (plan : Plan) → file.IsPlanOf step books.files change → IsFileRows (policy_change change.edit) change.url books.files.files books.compiled plan
      → IsOkAnd (by_files (desk_of books) now step) (λ after. IsPlanned after books (change_of now books.stamp (which.Files change) plan))
  unfolding by_files outcome_of
  files_planned (Ok after) change plan p m =
      let out : Outcome = outcome after.word None (Some after.url) in
      assembled (which.Files change) plan (with_files after.files (desk_of books)) after.changes out (outcome_alike change.word after.word None None (Some change.url) (Some after.url) p.word refl (ap (λ (x : List ℕ). Some x) p.url)) (files_lists after change plan p m)
  files_planned (Err fault) change plan p m = absurd p
