-- The steps of a plan.
use Rattle.std.proofs.Common.{◌≡◌, ℕ, ◌≤◌, Bool, cond, List, Option, Ok, Err, refl, sym, ap, subst, ◌∙◌, inl, inr}
use Rattle.std.specs.Prelude.{IsOkAnd}
use Rattle.acl_model.specs.declared.entry.Policy.{Policy}
use Rattle.table_model.specs.Tables.{binds_of, with_binds}
use Rattle.table_model.specs.ThingCommands.{ThingStep}
use Rattle.table_model.specs.BindCommands.{BindStep}
use Rattle.usage_tables.specs.declared.cached_file.CachedFile.{CachedFile}
use Rattle.usage_tables.specs.declared.file_edit.PolicyChange.{PolicyChange}
use Rattle.usage_tables.specs.declared.file_edit.PolicyChange.TheVariants.{Stays, Comes, Goes}
use Rattle.usage_tables.specs.FileCommands.{FilesAfter, FileStep}
use Rattle.usage_tables.specs.Policies.{policy_of, policy_change, policy_after}
use Rattle.thing_book.specs.Planned as thing
use Rattle.file_cache.specs.Planned as file
use Rattle.file_cache.specs.Changes.{PlannedFile}
use Rattle.bind_book.specs.Plans as bind
use Rattle.desk_model.specs.DeskTables.{DeskTables, with_things, with_files, with_desk_binds}
use Rattle.desk_model.specs.Commands.{stamped, by_things, by_files, by_binds}
use Rattle.desk_model.specs.Verdicts.{policy_at, desk_bindings}
use Rattle.desk_books.specs.Books.{Books, desk_of}
use Rattle.desk_books.specs.Planned.{PaysFor, ReadsFor, ReadsPolicy}
use Rattle.desk_books.specs.RowPlans.{IsPaidByBindings, IsPaidByPolicy, binding_reads, AreRead, IsFileRead}
use Rattle.desk_books.proofs.Planning.{change_stamped, stamped_files}
use Rattle.base_rows.proofs.ListTests.{same_bytes}

module _ (books : Books) (now : ℕ) (steps : ℕ) where
  pub things_paid : (step : ThingStep) (change : thing.PlannedThings) → thing.IsPlanOf step books.things change → IsPaidByBindings change.gone change.come books.compiled steps
      → IsOkAnd (by_things (desk_of books) now step) (λ after. PaysFor after.outcome.url books.compiled (desk_of books) after.desk steps)
  unfolding by_things with_things desk_bindings
  things_paid (Ok after) change p most =
      let desk : DeskTables = desk_of books in
      let lists : DeskTables = with_things after.things desk in
      record { gone = change.gone; come = change.come; change = change_stamped desk lists after.changes now change.gone change.come (p.bindings desk.tables refl); most = most }
  things_paid (Err fault) change p most = absurd p

  pub binds_paid : (step : BindStep) (change : bind.Plan) → bind.IsPlanOf step books.binds change → IsPaidByBindings change.gone change.come books.compiled steps
      → IsOkAnd (by_binds (desk_of books) now step) (λ after. PaysFor after.outcome.url books.compiled (desk_of books) after.desk steps)
  unfolding by_binds with_desk_binds desk_bindings binds_of with_binds
  binds_paid (Ok after) change p most =
      let desk : DeskTables = desk_of books in
      let lists : DeskTables = with_desk_binds after.binds desk in
      record { gone = change.gone; come = change.come; change = change_stamped desk lists after.changes now change.gone change.come (p.bindings desk.tables refl); most = most }
  binds_paid (Err fault) change p most = absurd p

  -- the policy of the URL after the step
  policy_after_step : (after : FilesAfter) (change : PlannedFile) → file.IsPlanned after books.files change
      → policy_at (stamped after.changes now (with_files after.files (desk_of books))) change.url ≡ policy_after (policy_change change.edit) books.files.files change.url
  unfolding policy_at with_files
  policy_after_step after change p =
      let lists : DeskTables = with_files after.files (desk_of books) in
      let new : Option Policy = policy_after (policy_change change.edit) books.files.files change.url in
      let old : Option Policy = policy_of books.files.files change.url in
      ap (λ (fs : List CachedFile). policy_of fs change.url) (stamped_files after.changes now lists) ∙ p.policies change.url ∙ ap (λ (b : Bool). cond b new old) (same_bytes change.url change.url refl)

  pub files_paid : (step : FileStep) (change : PlannedFile) → file.IsPlanOf step books.files change → IsPaidByPolicy change.url (policy_after (policy_change change.edit) books.files.files change.url) books.compiled steps
      → IsOkAnd (by_files (desk_of books) now step) (λ after. PaysFor after.outcome.url books.compiled (desk_of books) after.desk steps)
  unfolding by_files
  files_paid (Ok after) change p most =
      let end : DeskTables = stamped after.changes now (with_files after.files (desk_of books)) in
      let here : IsPaidByPolicy change.url (policy_at end change.url) books.compiled steps = subst (λ (o : Option Policy). IsPaidByPolicy change.url o books.compiled steps) (sym (policy_after_step after change p)) most in
      subst (λ (u : List ℕ). IsPaidByPolicy u (policy_at end u) books.compiled steps) p.url here
  files_paid (Err fault) change p most = absurd p

  -- ---- At least

  pub things_read : (step : ThingStep) (change : thing.PlannedThings) → thing.IsPlanOf step books.things change → binding_reads change.gone change.come books.compiled ≤ steps
      → IsOkAnd (by_things (desk_of books) now step) (λ after. ReadsFor after.outcome.url books.compiled (desk_of books) after.desk steps)
  unfolding by_things with_things desk_bindings
  things_read (Ok after) change p least =
      let desk : DeskTables = desk_of books in
      let lists : DeskTables = with_things after.things desk in
      record { gone = change.gone; come = change.come; change = change_stamped desk lists after.changes now change.gone change.come (p.bindings desk.tables refl); least = least }
  things_read (Err fault) change p least = absurd p

  pub binds_read : (step : BindStep) (change : bind.Plan) → bind.IsPlanOf step books.binds change → binding_reads change.gone change.come books.compiled ≤ steps
      → IsOkAnd (by_binds (desk_of books) now step) (λ after. ReadsFor after.outcome.url books.compiled (desk_of books) after.desk steps)
  unfolding by_binds with_desk_binds desk_bindings binds_of with_binds
  binds_read (Ok after) change p least =
      let desk : DeskTables = desk_of books in
      let lists : DeskTables = with_desk_binds after.binds desk in
      record { gone = change.gone; come = change.come; change = change_stamped desk lists after.changes now change.gone change.come (p.bindings desk.tables refl); least = least }
  binds_read (Err fault) change p least = absurd p

  -- a policy stays, or its rows are read
  file_read : (x : PolicyChange) (url : List ℕ) (end : DeskTables) → policy_at end url ≡ policy_after x books.files.files url → IsFileRead x url books.files.files books.compiled steps → ReadsPolicy books.compiled url (desk_of books) end steps
  unfolding policy_at policy_after
  file_read Stays url end is read = inl (sym is)
  file_read Comes url end is read = inr (subst (λ (o : Option Policy). AreRead url o books.compiled steps) (sym is) read)
  file_read Goes url end is read = inr (subst (λ (o : Option Policy). AreRead url o books.compiled steps) (sym is) read)

  pub files_read : (step : FileStep) (change : PlannedFile) → file.IsPlanOf step books.files change → IsFileRead (policy_change change.edit) change.url books.files.files books.compiled steps
      → IsOkAnd (by_files (desk_of books) now step) (λ after. ReadsFor after.outcome.url books.compiled (desk_of books) after.desk steps)
  unfolding by_files
  files_read (Ok after) change p read =
      let end : DeskTables = stamped after.changes now (with_files after.files (desk_of books)) in
      let here : ReadsPolicy books.compiled change.url (desk_of books) end steps = file_read (policy_change change.edit) change.url end (policy_after_step after change p) read in
      subst (λ (u : List ℕ). ReadsPolicy books.compiled u (desk_of books) end steps) p.url here
  files_read (Err fault) change p read = absurd p
