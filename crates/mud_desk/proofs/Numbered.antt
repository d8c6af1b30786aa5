-- The entry of a number in the policy that is held for a URL is that of the part of the URL's file.
use Rattle.std.proofs.Common.{◌≡◌, ℕ, ◌-◌, ◌<◌, List, [], length, Option, Some, None, refl, sym, ap, ◌∙◌, subst, arith}
use Rattle.std.specs.Prelude.{max, slice_get}
use Rattle.std.proofs.lemmas.Option.{slice_get_past}
use Rattle.mud_base.specs.declared.packet.Direction.{Direction}
use Rattle.acl_model.specs.declared.entry.Entry.{Entry}
use Rattle.acl_rows.specs.declared.row.Row.{Row}
use Rattle.acl_rows.specs.Rows.{Slots, Holder}
use Rattle.acl_rows.specs.View.{View, Part, IsFilePart, IsViewOf, holder_from, holder_policy}
use Rattle.acl_compile.specs.Plans.{policy_held}
use Rattle.acl_model.specs.FirstMatch.{file_entries}
use Rattle.std.specs.Option.{option_map}
use Rattle.desk_model.specs.Findings.{numbered_entry}

-- the entries of the part, or none
abbrev entries_in : Option Part → List Entry
entries_in None = []
entries_in (Some part) = part.entries

entries_so : (rows : List Row) (side : Direction) (holder : Option Holder) (part : Option Part) → IsFilePart rows side holder part → file_entries side (option_map holder_policy holder) ≡ entries_in part
entries_so rows side None None is = refl
entries_so rows side None (Some part) is = absurd is
entries_so rows side (Some h) None is = absurd is
entries_so rows side (Some h) (Some part) is = sym is.entries

module _ (slots : Slots) (rows : List Row) (url : List ℕ) (side : Direction) (view : View) (lends : IsViewOf slots rows url side view) (n : ℕ) where
  numbered_so : numbered_entry (policy_held slots) side url n ≡ slice_get (entries_in view.file) (n - 1)
  unfolding numbered_entry policy_held
  numbered_so = ap (λ (es : List Entry). slice_get es (n - 1)) (entries_so rows side (holder_from url 0 slots) view.file lends.file)

  -- there is no part
  pub none_numbered : None ≡ view.file → None ≡ numbered_entry (policy_held slots) side url n
  none_numbered none = ap (λ (p : Option Part). slice_get (entries_in p) (n - 1)) none ∙ sym numbered_so

  -- there is one
  pub numbered_in : (part : Part) → Some part ≡ view.file → slice_get part.entries (n - 1) ≡ numbered_entry (policy_held slots) side url n
  numbered_in part some = ap (λ (p : Option Part). slice_get (entries_in p) (n - 1)) some ∙ sym numbered_so

-- ---- The entry of a number in a part

pub entry_past : (entries : List Entry) (number n : ℕ) → n ≡ max number 1 → length entries < n → None ≡ slice_get entries (number - 1)
entry_past entries number n is past = sym (slice_get_past entries (number - 1) (omega arith))

pub entry_within : (entries : List Entry) (number n : ℕ) (entry : Entry) → n ≡ max number 1 → slice_get entries (n - 1) ≡ Some entry → Some entry ≡ slice_get entries (number - 1)
entry_within entries number n entry is at = sym (subst (λ k. slice_get entries k ≡ Some entry) {x = n - 1} {y = number - 1} (omega arith) at)
