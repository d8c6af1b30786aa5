use Rattle.std.proofs.Common.{◌≡◌, ◌++◌, Ok, ap, subst, ◌∙◌}
use Rattle.http_requests.specs.Steps.{CameFault}
use Rattle.http_requests.proofs.Coming.{whole_later, fault_later, read_later, leave_later, whole_held, fault_came, head_failed}
use Rattle.http_requests.proofs.next.next_request.Goals as goal

pub returns-in-Ok-Found-clause-held : goal.returns-in-Ok-Found-clause-held
returns-in-Ok-Found-clause-held g c = λ shape e.
    let held = c.in-Ok-Found.ensures.found c.in-Ok-Found.shape (ap Ok c.in-Ok-Found.field-0-is) in
    c.finish.ensures.held c.args.from shape held e

pub returns-in-Ok-Found-clause-whole : goal.returns-in-Ok-Found-clause-whole
returns-in-Ok-Found-clause-whole g c = λ t shape e.
    let held = c.in-Ok-Found.ensures.found c.in-Ok-Found.shape (ap Ok c.in-Ok-Found.field-0-is) in
    whole_later c.args.from shape _ _ _ _ _ _ (c.next_head.ensures.received t) (c.finish.ensures.whole t c.args.from shape held e)

pub returns-in-Ok-Found-clause-broken : goal.returns-in-Ok-Found-clause-broken
returns-in-Ok-Found-clause-broken g c = λ t fault e.
    let held = c.in-Ok-Found.ensures.found c.in-Ok-Found.shape (ap Ok c.in-Ok-Found.field-0-is) in
    fault_later c.args.from fault _ _ _ _ _ _ (c.next_head.ensures.received t) (c.finish.ensures.broken t c.args.from fault held e)

pub returns-in-Ok-Found-clause-read : goal.returns-in-Ok-Found-clause-read
returns-in-Ok-Found-clause-read g c = λ t e.
    let held = c.in-Ok-Found.ensures.found c.in-Ok-Found.shape (ap Ok c.in-Ok-Found.field-0-is) in
    read_later c.args.from _ _ _ _ _ _ (c.next_head.ensures.received t) (c.finish.ensures.read t c.args.from held e)

pub returns-in-Ok-Found-clause-write : goal.returns-in-Ok-Found-clause-write
returns-in-Ok-Found-clause-write g c = λ t e.
    let held = c.in-Ok-Found.ensures.found c.in-Ok-Found.shape (ap Ok c.in-Ok-Found.field-0-is) in
    leave_later c.args.from _ _ _ _ _ _ (c.next_head.ensures.received t) (c.finish.ensures.write t c.args.from held e)

pub returns-in-Ok-Found-clause-untouched : goal.returns-in-Ok-Found-clause-untouched
returns-in-Ok-Found-clause-untouched g c = λ r behind begins.
    let held = c.in-Ok-Found.ensures.found c.in-Ok-Found.shape (ap Ok c.in-Ok-Found.field-0-is) in
    let same = c.next_head.ensures.untouched r.head (r.body ++ behind) begins.head in
    c.finish.ensures.untouched (whole_held c.args.from c.args.buffer.now c.next_head.new.buffer c.in-Ok-Found.shape r behind begins same held) ∙ same

pub returns-in-Ok-Broken-clause-broken : goal.returns-in-Ok-Broken-clause-broken
returns-in-Ok-Broken-clause-broken g c = λ t fault e.
    let door = g.D.Door in
    let same : c.in-Ok-Broken.fault ≡ fault = cc in
    subst (λ f. CameFault c.args.from f c.args.buffer.now c.next_head.new.buffer (door.view c.args.door.now).state (door.view c.next_head.new.door).state) same
    (fault_came c.args.from c.in-Ok-Broken.fault _ _ _ _ (c.in-Ok-Broken.ensures.broken t c.in-Ok-Broken.fault (ap Ok c.in-Ok-Broken.field-0-is)) (c.next_head.ensures.received t))

pub returns-in-Err-clause-read : goal.returns-in-Err-clause-read
returns-in-Err-clause-read g c = λ t e.
    head_failed c.args.from _ _ _ _ c.in-Err.ensures.failed (c.next_head.ensures.received t)
