use Rattle.std.proofs.Common.{sym, ap, ◌∷◌, [], ◌∙◌}
use Rattle.std.proofs.Math.Path.{transport}
use Rattle.std.proofs.lemmas.Result.{on_ok_weaker}
use Rattle.acl_rows.specs.declared.row.Owner.{Owner}
use Rattle.acl_rows.specs.Rows.{entry_expiry, held_by}
use Rattle.acl_changes.specs.Touched.{row_key}
use Rattle.acl_changes.specs.PolicyTouched.{bound_key}
use Rattle.acl_changes.specs.Fresh.{AreBoundFirst, one_fresh}
use Rattle.acl_changes.proofs.FreshLaws.{after_same, entry_asked}
use Rattle.acl_changes.proofs.change.Change.address_fresh.Goals as goal

pub bound_entry_expiry-until-requires-clause-first : goal.bound_entry_expiry-until-requires-clause-first
bound_entry_expiry-until-requires-clause-first g c =
    transport (λ i. AreBoundFirst (sym (after_same c.args.self.now c.requires.gone c.requires.come) i) (sym c.url-url.ensures i) c.args.entry.now c.args.behind.now (c.args.binding.now ∷ []))
    c.requires.first

pub returns-clause-ok : goal.returns-clause-ok
unfolding bound_key
returns-clause-ok g c =
    on_ok_weaker c.plan_fresh.result (λ put new holds.
    put new (c.bound_entry_expiry-until.ensures.value
    ∙ (λ i. entry_expiry (after_same c.args.self.now c.requires.gone c.requires.come i) (c.url-url.ensures i) c.args.entry.now c.args.binding.now.addr)
    ∙ entry_asked new c.args.self.now.bindings c.owner.result c.args.side c.args.binding.now.addr c.args.n c.args.holding.now.1 c.args.entry.now (ap (held_by new) c.owner.ensures ∙ holds) c.requires.stands)
    ∙ ap (λ (o : Owner). one_fresh c.args.self.now.slots c.args.self.now.bindings new (row_key o c.args.side c.args.binding.now.addr c.args.n) c.args.fresh.now) c.owner.ensures) c.plan_fresh.ensures.ok
