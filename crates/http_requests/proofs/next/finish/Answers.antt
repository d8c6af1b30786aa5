use Rattle.std.proofs.Common.{List, ℕ, sym, subst, ap, ◌∙◌}
use Rattle.mud_world.specs.Door.{put_out}
use Rattle.mud_world.specs.Whole.{WrotePart}
use Rattle.http_requests.specs.Steps.{CameWhole, HoldsWhole}
use Rattle.http_requests.proofs.Coming.{whole_came, whole_holds, cut_came, body_failed, leave_failed}
use Rattle.http_requests.proofs.next.finish.Goals as goal

pub returns-in-Ok-clause-held : goal.returns-in-Ok-clause-held
returns-in-Ok-clause-held g c = λ from s h e.
    let body = c.take_body.ensures.whole s e in
    subst (λ shape. HoldsWhole from shape c.take_body.new.buffer) (sym body.0) (whole_holds from c.args.shape _ _ h c.take_body.ensures.grown body.1)

pub returns-in-Ok-clause-whole : goal.returns-in-Ok-clause-whole
returns-in-Ok-clause-whole g c = λ t from s h e.
    let door = g.D.Door in
    let wrote = c.in-Ok.ensures.ok t ∙ ap (λ (leave : List ℕ). put_out leave (door.view c.args.door.now).state) c.leave_for.ensures in
    let body = c.take_body.ensures.whole s e in
    subst (λ shape. CameWhole from shape c.args.buffer.now c.take_body.new.buffer (door.view c.args.door.now).state (door.view c.take_body.new.door).state) (sym body.0)
    (whole_came from c.args.shape _ _ _ _ _ h wrote c.take_body.ensures.grown (c.take_body.ensures.received t) body.1)

pub returns-in-Ok-clause-broken : goal.returns-in-Ok-clause-broken
returns-in-Ok-clause-broken g c = λ t from fault h e.
    let wrote = c.in-Ok.ensures.ok t ∙ ap (λ (leave : List ℕ). put_out leave (g.D.Door.view c.args.door.now).state) c.leave_for.ensures in
    let body = c.take_body.ensures.cut fault e in
    cut_came from c.args.shape fault _ _ _ _ _ h wrote c.take_body.ensures.grown (c.take_body.ensures.received t) body.0 body.1 (c.take_body.ensures.end t fault e)

pub returns-in-Ok-clause-read : goal.returns-in-Ok-clause-read
returns-in-Ok-clause-read g c = λ t from h e.
    let wrote = c.in-Ok.ensures.ok t ∙ ap (λ (leave : List ℕ). put_out leave (g.D.Door.view c.args.door.now).state) c.leave_for.ensures in
    body_failed from c.args.shape _ _ _ _ _ h wrote c.take_body.ensures.grown (c.take_body.ensures.received t) (c.take_body.ensures.short e)

pub returns-in-Err-clause-write : goal.returns-in-Err-clause-write
returns-in-Err-clause-write g c = λ t from h e.
    let door = g.D.Door in
    leave_failed from c.args.shape c.args.buffer.now _ _ h
    (subst (λ leave. WrotePart leave (door.view c.args.door.now).state (door.view c.say.new.door).state) c.leave_for.ensures (c.in-Err.ensures.part t))
