-- What was made is planned.
use Rattle.std.proofs.Common.{◌≡◌, ℕ, ◌≤◌, ◌<◌, Bool, true, false, cond, List, [], ◌∷◌, length, Ok, Err, refl, sym, subst, ◌∙◌, lit≤}
use Rattle.std.specs.Prelude.{IfOk, IsOkAnd, ◌↔◌}
use Rattle.std.proofs.lemmas.Bool.{false≢true}
use Rattle.mud_world.specs.declared.item.Put.{Put}
use Rattle.mud_world.specs.Items.{IsDifference, ArePutsOf}
use Rattle.usage_tables.specs.declared.cached_file.CachedFile.{CachedFile}
use Rattle.usage_tables.specs.Files.{file_at, IsSoundFiles}
use Rattle.usage_tables.specs.FileCommands.{FilesAfter, FileStep, TellsChange}
use Rattle.usage_tables.specs.FileEdits.{edited, edited_row, room_for, is_change}
use Rattle.usage_tables.specs.FileItems.{file_items, edit_puts, row_put}
use Rattle.usage_tables.specs.Policies.{policy_of}
use Rattle.usage_tables.proofs.EditLaws.{edit_differs, puts_of_kind}
use Rattle.usage_tables.proofs.PolicyLaws.{policy_edited}
use Rattle.file_cache.specs.Changes.{Files, PlannedFile}
use Rattle.file_cache.specs.Planned.{IsPlanned, IsPlanOf, IsMade, Plans}

none_where : (put : Put) (b : Bool) → (cond b (put ∷ []) [] ≡ []) ↔ (b ≡ false)
none_where put true = (λ e. absurd cc, λ e. absurd (false≢true (sym e)))
none_where put false = (λ e. refl, λ e. refl)

few_where : (put : Put) (b : Bool) → length (cond b (put ∷ []) []) ≤ 2
few_where put true = lit≤ tt
few_where put false = lit≤ tt

module _ (files : List CachedFile) (sound : IsSoundFiles files) (after : FilesAfter) (after_sound : IsSoundFiles after.files) (told : TellsChange files after) (change : PlannedFile) (made : IsMade after files change) where
  pub planned : (room : ℕ) → room_for change.edit ≤ room → IsPlanned after (record { files = files; room = room }) change
  unfolding edit_puts
  planned room needed =
      let edit_sound : IsSoundFiles (edited change.edit change.url files) = subst IsSoundFiles (sym made.leads) after_sound in
      let other : is_change change.edit ≡ true → edited change.edit change.url files ≡ files → ⊥ = λ e same. told.other (sym made.tells ∙ e) (sym made.leads ∙ same) in
      let put : Put = row_put change.url (edited_row change.edit change.url (file_at change.url files)) in
      let differs : IsDifference (file_items files) (file_items (edited change.edit change.url files)) (edit_puts change.edit change.url files) = edit_differs files sound change.edit change.url edit_sound other in
      record {
        word = made.word;
        url = made.url;
        leads = made.leads;
        sound = after_sound;
        puts = subst (λ (ps : List Put). IsDifference (file_items files) (file_items after.files) ps) (sym made.puts) (subst (λ (fs : List CachedFile). IsDifference (file_items files) (file_items fs) (edit_puts change.edit change.url files)) made.leads differs);
        kind = subst (ArePutsOf 2) (sym made.puts) (puts_of_kind files change.edit change.url);
        few = subst (λ (ps : List Put). length ps ≤ 2) (sym made.puts) (few_where put (is_change change.edit));
        none = subst (λ (b : Bool). (change.puts ≡ []) ↔ (b ≡ false)) made.tells (subst (λ (ps : List Put). (ps ≡ []) ↔ (is_change change.edit ≡ false)) (sym made.puts) (none_where put (is_change change.edit)));
        policies = λ url. subst (λ (fs : List CachedFile). policy_of fs url ≡ policy_of (edited change.edit change.url files) url) made.leads refl ∙ policy_edited change.edit change.url url files sound.ascend;
        room = needed;
      }

-- ---- The step of files that stay

planned_step : (step : FileStep) (files : List CachedFile) (room : ℕ) (change : PlannedFile) → IsSoundFiles files → IfOk step (λ after. IsSoundFiles after.files) → IfOk step (TellsChange files) → IsOkAnd step (λ after. IsMade after files change) → room_for change.edit ≤ room → IsOkAnd step (λ after. IsPlanned after (record { files = files; room = room }) change)
planned_step (Ok after) files room change sound stays told made needed = planned files sound after stays told change made room needed
planned_step (Err fault) files room change sound stays told made needed = absurd made

-- the files before are those of the step, and the ones that are left
pub plans_by : (step : List CachedFile → FileStep) (before : Files) (files now : List CachedFile) (room : ℕ) (change : PlannedFile) → before.files ≡ files → now ≡ files → IsSoundFiles files → IfOk (step files) (λ after. IsSoundFiles after.files) → IfOk (step files) (TellsChange files) → IsOkAnd (step files) (λ after. IsMade after files change) → room_for change.edit ≤ room → Plans (step before.files) before (record { files = now; room = room }) (Ok change)
plans_by step before files now room change was is sound stays told made needed = record {
  same = is ∙ sym was;
  ok = subst (λ (fs : List CachedFile). IsPlanOf (step fs) (record { files = now; room = room }) change) (sym was)
      (subst (λ (fs : List CachedFile). IsPlanOf (step files) (record { files = fs; room = room }) change) (sym is) (planned_step (step files) files room change sound stays told made needed));
  err = tt;
}

-- ---- What a caller has of a plan
