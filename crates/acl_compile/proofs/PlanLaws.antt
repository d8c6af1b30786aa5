-- The steps of a plan, and what a commit keeps.
use Rattle.std.proofs.Common.{◌≡◌, ℕ, ◌+◌, ◌*◌, ◌^◌, ◌<◌, ◌≤◌, List, ◌++◌, length, None, refl, sym, ap, subst, ◌∙◌, arith}
use Rattle.std.proofs.Math.Nat.{mul-le-mul_left, mul-le-mul_right}
use Rattle.acl_model.specs.declared.binding.Binding.{Binding}
use Rattle.acl_model.specs.declared.entry.Policy.{Policy}
use Rattle.acl_model.specs.SortKeys.{binding_sort_key}
use Rattle.acl_model.specs.Changes.{replaced}
use Rattle.base_rows.specs.declared.edit.Edit.{Edit}
use Rattle.base_rows.specs.Edits.{edited}
use Rattle.acl_buckets.specs.RowBuckets.{Buckets, HasRoom}
use Rattle.acl_buckets.specs.BindingBuckets.{KeptBindings, HasRoomByKey}
use Rattle.acl_rows.specs.declared.row.Row.{Row}
use Rattle.acl_rows.specs.SortKeys.{row_sort_key}
use Rattle.acl_rows.specs.Rows.{Slots, rows_of, member_keys}
use Rattle.acl_changes.specs.Patch.{IsPatch, rows_apart}
use Rattle.acl_changes.specs.Touched.{touches}
use Rattle.acl_changes.proofs.Patches.{patched}
use Rattle.acl_changes.proofs.Apart.{few_edits}
use Rattle.acl_changes.specs.Bindings.{AreEditsOf}
use Rattle.acl_changes.specs.Policies.{AllHeld}
use Rattle.acl_changes.specs.Steps.{HolderFits, HaveKeys, sort_key_steps}
use Rattle.acl_compile.specs.Compiled.{CompiledState, compiled_state, UrlsApart, IsSound}
use Rattle.acl_compile.specs.Plans.{Plan, slots_with, slots_after, bindings_after, Fits, IsMemberPlan}
use Rattle.acl_compile.specs.UrlSlots.{UrlAndSlot, AreSlotsOf, AreGuessed, IsSoundWithSlots}

-- ---- Steps

-- what fits the keys of an entry fits the steps of one of its sort keys
pub keys_fit : (slots : Slots) (s b k : ℕ) → HaveKeys s slots → AllHeld slots (λ h. HolderFits h b k (s * b + k))
keys_fit slots s b k keys owner held holds side n entry stands =
    let few : length (member_keys held.url entry) ≤ s = keys owner held holds side n entry stands in
    let more : length (member_keys held.url entry) * b ≤ s * b = mul-le-mul_right b few in
    omega arith

-- the steps of the bindings, and of the sort keys
pub member_cost : (start middle end q c s b k : ℕ) → middle ≤ start + c * b → end ≤ middle + q * (s * b + k) → end ≤ start + (c + q) * sort_key_steps s b k
member_cost start middle end q c s b k first second =
    let one_key : s * b + k ≤ sort_key_steps s b k = omega arith in
    let one : b ≤ sort_key_steps s b k = omega arith in
    let all_keys : q * (s * b + k) ≤ q * sort_key_steps s b k = mul-le-mul_left q one_key in
    let bindings : c * b ≤ c * sort_key_steps s b k = mul-le-mul_left c one in
    sum (sort_key_steps s b k) all_keys bindings
  where
    sum : (u : ℕ) → q * (s * b + k) ≤ q * u → c * b ≤ c * u → end ≤ start + (c + q) * u
    sum u all_keys bindings = omega arith

-- the bindings are planned first, and then the rows
pub member_most : (slots : Slots) (bindings : List Binding) (rows : List Row) (gone come : List Binding) (start middle end : ℕ)
    → ((b : ℕ) → length bindings < 2 ^ b → middle ≤ start + (length gone + length come) * b)
    → ((b k u : ℕ) → length bindings < 2 ^ b → length rows < 2 ^ k → AllHeld slots (λ h. HolderFits h b k u) → end ≤ middle + length (touches slots (gone ++ come)) * u)
    → (s b k : ℕ) → HaveKeys s slots → length bindings + length come < 2 ^ b → length rows < 2 ^ k → end ≤ start + (length gone + length come + length (touches slots (gone ++ come))) * sort_key_steps s b k
member_most slots bindings rows gone come start middle end first second s b k keys few fits =
    let fewer : length bindings < 2 ^ b = omega arith in
    member_cost start middle end (length (touches slots (gone ++ come))) (length gone + length come) s b k (first b fewer) (second b k (s * b + k) fewer fits (keys_fit slots s b k keys))

-- ---- A plan of members

pub member_plan : (gone come : List Binding) (slots : Slots) (bindings : KeptBindings) (rows : Buckets) (row_edits : List (Edit Row)) (binding_edits : List (Edit Binding))
    → length slots ≤ 128 → UrlsApart slots → IsPatch slots bindings.rows slots (replaced gone come bindings.rows) row_edits → AreEditsOf gone come bindings.rows binding_edits
    → HasRoom row_edits rows.room → HasRoomByKey binding_edits bindings.room
    → (room url_slot_room : ℕ) → IsMemberPlan gone come (compiled_state slots bindings rows room url_slot_room) (record { rows = row_edits; bindings = binding_edits; slot = None })
unfolding slots_after slots_with bindings_after
member_plan gone come slots bindings rows row_edits binding_edits few apart patch edits row_room binding_room room url_slot_room = record {
  fits = record {
    patch = subst (λ (bs : List Binding). IsPatch slots bindings.rows slots bs row_edits) (sym edits.made) patch;
    found = edits.found;
    few = few;
    apart = apart;
    row_room = row_room;
    binding_room = binding_room;
    slot_room = tt;
    url_slot_room = tt;
  };
  slots = refl;
  bindings = edits.made;
  few = edits.few;
}

-- ---- A commit

pub record IsCommitted (c : CompiledState) (plan : Plan) (slots : Slots) (bindings : List Binding) (rows : List Row) (defaults : Policy) (url_slots : List UrlAndSlot) (guesses : List ℕ) : Type 0 where
  pub sound : IsSoundWithSlots slots bindings rows defaults url_slots guesses
  pub slots_are : slots ≡ slots_after plan c
  pub bindings_are : bindings ≡ bindings_after plan c
  pub rows_are : rows ≡ rows_of slots bindings
  pub few : length plan.rows ≤ rows_apart c.rows rows

pub committed : (c : CompiledState) (plan : Plan) (slots : Slots) (bindings : List Binding) (rows : List Row) (defaults : Policy) (url_slots : List UrlAndSlot) (guesses : List ℕ) → Fits plan c → IsSound c.slots c.bindings c.rows defaults
    → slots ≡ slots_with plan.slot c.slots → bindings ≡ edited binding_sort_key plan.bindings c.bindings → rows ≡ edited row_sort_key plan.rows c.rows → AreSlotsOf slots url_slots → AreGuessed slots guesses → IsCommitted c plan slots bindings rows defaults url_slots guesses
unfolding slots_after bindings_after
committed c plan slots bindings rows defaults url_slots guesses fits sound slots_are bindings_are rows_are url_slots_are guessed =
    let anew : rows ≡ rows_of (slots_after plan c) (bindings_after plan c) = rows_are ∙ ap (edited row_sort_key plan.rows) sound.rows_are ∙ patched c.slots c.bindings (slots_after plan c) (bindings_after plan c) plan.rows fits.patch in
    let same : rows_of (slots_after plan c) (bindings_after plan c) ≡ rows_of slots bindings = (λ i. rows_of (sym slots_are i) (sym bindings_are i)) in
    record {
      sound = record {
        sound = record {
          rows_are = anew ∙ same;
          few = subst (λ (xs : Slots). length xs ≤ 128) (sym slots_are) fits.few;
          apart = subst UrlsApart (sym slots_are) fits.apart;
          defaults_are = sound.defaults_are;
        };
        url_slots_are = url_slots_are;
        guessed = guessed;
      };
      slots_are = slots_are;
      bindings_are = bindings_are;
      rows_are = anew ∙ same;
      few = subst (λ (n : ℕ). length plan.rows ≤ n) (λ i. rows_apart (sym sound.rows_are i) (sym anew i)) (few_edits c.slots c.bindings (slots_after plan c) (bindings_after plan c) plan.rows fits.patch);
    }
