use Rattle.std.proofs.Common.{◌≡◌, ℕ, false, Some, sym, subst}
use Rattle.std.specs.Str.{bytes_eq}
use Rattle.acl_model.specs.Policies.{UrlPolicy}
use Rattle.acl_rows.specs.declared.row.Owner.TheVariants.{Url}
use Rattle.acl_rows.specs.Rows.{held_by}
use Rattle.acl_compile.proofs.SlotLaws.{unique}
use Rattle.acl_compile.proofs.url_slots.find_guessed.Goals as goal

pub returns-in-Some : goal.returns-in-Some
returns-in-Some c = sym (unique c.args.url.now c.args.slots.now c.slot_number-slot_number.result c.in-Some.held.now c.requires.apart c.in-Some.ensures.held c.in-Some.ensures.own)

pub find_held-requires-clause-missed : goal.find_held-requires-clause-missed
find_held-requires-clause-missed c = subst (λ (n : ℕ). (held : UrlPolicy) → held_by c.args.slots.now (Url n) ≡ Some held → bytes_eq held.url c.args.url.now ≡ false) c.slot_number-slot_number.ensures c.in-None.ensures.missed
