use Rattle.std.proofs.Common.{◌≡◌, ℕ, List, reverse, Some, ap, ap₂, sym, ◌∙◌}
use Rattle.std.specs.Option.{option_map}
use Rattle.std.proofs.lemmas.Option.{same_Some, none-some}
use Rattle.base_rows.specs.Sortable.{row_at}
use Rattle.acl_model.specs.Policies.{UrlPolicy}
use Rattle.acl_rows.specs.declared.row.Owner.TheVariants.{Url}
use Rattle.acl_rows.specs.Rows.{held_by}
use Rattle.acl_compile.specs.UrlSlots.{url_of}
use Rattle.acl_compile.proofs.UrlSlotLaws.{IsHeldAt, held_nowhere, held_at}
use Rattle.acl_compile.proofs.url_slots.find_held.Goals as goal

pub returns-in_err-found : goal.returns-in_err-found
returns-in_err-found c =
    ap (option_map _) c.from_residual.ensures
    ∙ sym (held_nowhere c.args.slots.now c.args.url_slots.now.rows c.requires.url_slots c.args.url.now (ap (λ (u : List ℕ). row_at url_of (reverse u) c.args.url_slots.now.rows) (sym c.new.ensures) ∙ sym c.in_err-found.ensures))

pub returns-in_err-held : goal.returns-in_err-held
returns-in_err-held c =
    let at : IsHeldAt c.args.slots.now c.args.url.now c.in_ok-found.found.now.slot_number =
    held_at c.args.slots.now c.args.url_slots.now.rows c.requires.url_slots c.args.url.now c.in_ok-found.found.now (ap (λ (u : List ℕ). row_at url_of (reverse u) c.args.url_slots.now.rows) (sym c.new.ensures) ∙ sym c.in_ok-found.ensures) in
    absurd (none-some at.held (c.in_err-held.ensures ∙ ap (λ (j : ℕ). held_by c.args.slots.now (Url j)) (c.from.ensures ∙ c.slot_number-slot_number.ensures) ∙ at.there))

pub returns : goal.returns
returns c =
    let at : IsHeldAt c.args.slots.now c.args.url.now c.in_ok-found.found.now.slot_number =
    held_at c.args.slots.now c.args.url_slots.now.rows c.requires.url_slots c.args.url.now c.in_ok-found.found.now (ap (λ (u : List ℕ). row_at url_of (reverse u) c.args.url_slots.now.rows) (sym c.new.ensures) ∙ sym c.in_ok-found.ensures) in
    let same : c.in_ok-held.held.now ≡ at.held =
    same_Some c.in_ok-held.held.now at.held (c.in_ok-held.ensures ∙ ap (λ (j : ℕ). held_by c.args.slots.now (Url j)) (c.from.ensures ∙ c.slot_number-slot_number.ensures) ∙ at.there) in
    ap₂ (λ (j : ℕ) (held : UrlPolicy). Some (Url j, held)) c.slot_number-slot_number.ensures same ∙ sym at.found
