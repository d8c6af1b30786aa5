use Rattle.std.proofs.Common.{◌≡◌, ◌∙◌, arith}
use Rattle.acl_model.specs.Keys.{key_of}
use Rattle.acl_changes.specs.Change.{after}
use Rattle.acl_changes.specs.Steps.{key_steps}
use Rattle.acl_changes.proofs.LeastExpiries.{met_none, met_some, some_steps}
use Rattle.acl_changes.proofs.Looks.{none_look, some_look}
use Rattle.acl_changes.proofs.change.Change.selector_expiry.Goals as goal

pub returns-in-None-clause-value : goal.returns-in-None-clause-value
returns-in-None-clause-value g c = met_none (key_of c.args.url.now c.args.selector.now) (after c.args.self.now) c.args.addr c.args.expiry c.in-None.ensures

pub returns-in-Some-clause-value : goal.returns-in-Some-clause-value
returns-in-Some-clause-value g c =
    c.lesser.ensures
    ∙ met_some c.in-Some.key.kind c.in-Some.key.text.now (key_of c.args.url.now c.args.selector.now) (after c.args.self.now) c.args.addr c.args.expiry c.bound_expiry-until.result c.in-Some.ensures c.bound_expiry-until.ensures.value

pub returns-in-Some-clause-most : goal.returns-in-Some-clause-most
returns-in-Some-clause-most g c = λ b few.
    let e : b ≡ key_steps b (key_of c.args.url.now c.args.selector.now) = some_steps c.in-Some.key.kind c.in-Some.key.text.now (key_of c.args.url.now c.args.selector.now) b c.in-Some.ensures in
    omega (arith, c.bound_expiry-until.ensures.most b few, e)

pub returns-in-None-clause-looked : goal.returns-in-None-clause-looked
returns-in-None-clause-looked g c =
    let none = none_look c.args.self.now c.args.addr (key_of c.args.url.now c.args.selector.now) c.in-None.ensures in
    omega (arith, none)

pub returns-in-Some-clause-looked : goal.returns-in-Some-clause-looked
returns-in-Some-clause-looked g c =
    let same = some_look c.args.self.now c.args.addr c.in-Some.key.kind c.in-Some.key.text.now (key_of c.args.url.now c.args.selector.now) c.in-Some.ensures in
    omega (arith, c.bound_expiry-until.ensures.looked, same)
