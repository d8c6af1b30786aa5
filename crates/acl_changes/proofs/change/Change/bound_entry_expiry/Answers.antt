use Rattle.std.proofs.Common.{sym, ◌∙◌}
use Rattle.acl_changes.specs.Change.{after}
use Rattle.acl_changes.proofs.FirstBound.{first_expiry, other_family}
use Rattle.acl_changes.proofs.change.Change.bound_entry_expiry.Goals as goal

pub returns-then-not-is_in_family-clause-value : goal.returns-then-not-is_in_family-clause-value
returns-then-not-is_in_family-clause-value g c =
    other_family (after c.args.self.now) c.args.url.now c.args.entry.now c.args.behind.now c.args.binding.now c.requires.first (sym c.is_in_family.ensures ∙ c.if-not-is_in_family.true)

pub returns-clause-value : goal.returns-clause-value
returns-clause-value g c =
    c.least_expiry.ensures.value
    ∙ first_expiry (after c.args.self.now) c.args.url.now c.args.entry.now c.args.behind.now c.args.binding.now c.requires.first c.tell_most.ensures (sym c.is_in_family.ensures ∙ c.if-not-is_in_family.false)
