use Rattle.std.proofs.Common.{List, ℕ, ap, ◌∙◌, arith}
use Rattle.acl_changes.specs.Keys.{sort_key_of_text}
use Rattle.acl_changes.specs.Change.{ChangeState, expiry_in, after}
use Rattle.acl_changes.proofs.After.{expiry_edited, expiry_kept}
use Rattle.acl_changes.proofs.Looks.{look_edited, look_kept}
use Rattle.acl_changes.proofs.change.Change.bound_expiry.Goals as goal

pub returns-in-Some-clause-value : goal.returns-in-Some-clause-value
unfolding after
returns-in-Some-clause-value g c =
    let p : List ℕ = sort_key_of_text c.args.key.now.key.kind c.args.key.now.key.text.now c.args.key.now.addr in
    let s = c.self.inside in
    expiry_edited p s.edits.now.rows s.gone.now s.come.now s.bindings.now.rows c.tell_order.ensures c.self.invariant.made c.in-Some.edit.now c.expiry_after.result c.in-Some.ensures c.expiry_after.ensures
    ∙ ap (λ (t : ChangeState). expiry_in p (after t)) c.self.view_is

pub returns-in-None-clause-value : goal.returns-in-None-clause-value
unfolding after
returns-in-None-clause-value g c =
    let p : List ℕ = sort_key_of_text c.args.key.now.key.kind c.args.key.now.key.text.now c.args.key.now.addr in
    let s = c.self.inside in
    expiry_kept p s.edits.now.rows s.gone.now s.come.now s.bindings.now.rows c.tell_order.ensures c.self.invariant.made c.kept_expiry.result c.in-None.ensures c.kept_expiry.ensures.value
    ∙ ap (λ (t : ChangeState). expiry_in p (after t)) c.self.view_is

pub returns-in-Some-clause-looked : goal.returns-in-Some-clause-looked
returns-in-Some-clause-looked g c =
    let key = c.args.key.now in
    let none = look_edited c.args.self.now key.key.kind key.key.text.now key.addr c.self.inside.edits.now.rows c.in-Some.edit.now (ap (λ (s : ChangeState). s.edits) c.self.view_is) c.in-Some.ensures in
    omega (arith, none)

pub returns-in-None-clause-looked : goal.returns-in-None-clause-looked
returns-in-None-clause-looked g c =
    let key = c.args.key.now in
    look_kept c.args.self.now key.key.kind key.key.text.now key.addr c.self.inside.bindings.now.rows (ap (λ (s : ChangeState). s.bindings) c.self.view_is) c.args.steps.now c.kept_expiry.new.steps c.kept_expiry.ensures.looked
