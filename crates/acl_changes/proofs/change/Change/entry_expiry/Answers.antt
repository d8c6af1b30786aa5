use Rattle.std.proofs.Common.{◌≡◌, List, sym, ap, ◌∙◌, arith}
use Rattle.std.specs.List.{filter_map}
use Rattle.acl_model.specs.declared.entry.Selector.{Selector}
use Rattle.acl_model.specs.Keys.{key_of}
use Rattle.acl_changes.specs.Steps.{key_looks, entry_look}
use Rattle.acl_changes.proofs.Looks.{look_unmembered, look_other_family, look_keys}
use Rattle.acl_changes.proofs.change.Change.entry_expiry.Goals.{then-not-is_membered-via-then-not-is_membered, then-not-is_membered-via-else-not-is_membered+then-not-is_in_family}
use Rattle.acl_changes.proofs.change.Change.entry_expiry.Goals as goal

pub returns-then-not-is_membered-clause-looked : goal.returns-then-not-is_membered-clause-looked
returns-then-not-is_membered-clause-looked g c =
    let none : entry_look c.args.self.now c.args.url.now c.args.entry.now c.args.addr ≡ 0 = elim c.then-not-is_membered.branch [
      | then-not-is_membered-via-then-not-is_membered w ↦ look_unmembered c.args.self.now c.args.url.now c.args.entry.now c.args.addr (sym c.is_membered.ensures ∙ w.if-not-is_membered.true)
      | then-not-is_membered-via-else-not-is_membered+then-not-is_in_family w ↦ look_other_family c.args.self.now c.args.url.now c.args.entry.now c.args.addr (sym w.is_in_family.ensures ∙ w.if-not-is_in_family.true)
    ] in
    omega (arith, none)

pub returns-clause-looked : goal.returns-clause-looked
returns-clause-looked g c =
    let same = look_keys c.args.self.now c.args.url.now c.args.entry.now c.args.addr (sym c.is_membered.ensures ∙ c.if-not-is_membered.false) (sym c.is_in_family.ensures ∙ c.if-not-is_in_family.false) in
    let list = ap (λ (ss : List Selector). key_looks c.args.self.now c.args.addr (filter_map (key_of c.args.url.now) ss)) c.as_slice-selectors.ensures in
    omega (arith, c.least_expiry.ensures.looked, same, list)
