use Rattle.std.proofs.Common.{Ok, Err, refl, ap, ◌∙◌, arith, rules}
use Rattle.http_requests.proofs.Running.{left_kept, left_more}
use Rattle.http_requests.proofs.Stops.{more_left}
use Rattle.http_requests.proofs.Serves.{none_yet, progress_more, ended_here, closed_here, spent_here, broken_here, read_failed_here, leave_failed_here, refusal_failed_here, answer_failed_here}
use Rattle.http_requests.proofs.serve.serve_connection.Goals as goal

pub returns-in-Ok-Ended-clause-served : goal.returns-in-Ok-Ended-clause-served
returns-in-Ok-Ended-clause-served g c = λ t s k.
    ended_here g.S.Service.may g.S.Service.refusal c.args.from _ _ s _ _ _ _ _ (c.requests.invariant.progress t s k)
    (c.in-Ok-Ended.ensures.ended t (ap Ok c.in-Ok-Ended.field-0-is))

pub returns-in-Ok-clause-served : goal.returns-in-Ok-clause-served
returns-in-Ok-clause-served g c = λ t s k.
    broken_here g.S.Service.may g.S.Service.refusal c.args.from _ _ _ s _ _ _ _ _ _ c.in-Ok-Broken.fault (c.requests.invariant.progress t s k)
    (c.in-Ok-Broken.ensures.broken t c.in-Ok-Broken.fault (ap Ok c.in-Ok-Broken.field-0-is)) c.answer_fault.ensures.state (c.in-Ok.ensures.ok t)

pub returns-in-Err-clause-served : goal.returns-in-Err-clause-served
returns-in-Err-clause-served g c = λ t s k.
    refusal_failed_here g.S.Service.may g.S.Service.refusal c.args.from _ _ _ s _ _ _ _ _ _ c.in-Ok-Broken.fault (c.requests.invariant.progress t s k)
    (c.in-Ok-Broken.ensures.broken t c.in-Ok-Broken.fault (ap Ok c.in-Ok-Broken.field-0-is)) c.answer_fault.ensures.state (c.in-Err.ensures.part t)

pub returns-in-Err-Read-clause-served : goal.returns-in-Err-Read-clause-served
returns-in-Err-Read-clause-served g c = λ t s k.
    read_failed_here g.S.Service.may g.S.Service.refusal c.args.from _ _ s _ _ _ _ _ (c.requests.invariant.progress t s k)
    (c.in-Err-Read.ensures.read t (ap Err c.in-Err-Read.field-0-is))

pub returns-in-Err-Write-clause-served : goal.returns-in-Err-Write-clause-served
returns-in-Err-Write-clause-served g c = λ t s k.
    leave_failed_here g.S.Service.may g.S.Service.refusal c.args.from _ _ s _ _ _ _ _ (c.requests.invariant.progress t s k)
    (c.in-Err-Write.ensures.write t (ap Err c.in-Err-Write.field-0-is))

pub returns-in-Ok-Some-Closed-clause-served : goal.returns-in-Ok-Some-Closed-clause-served
returns-in-Ok-Some-Closed-clause-served g c = λ t s k.
    let shape = c.in-Ok-Whole.shape in
    let came = c.in-Ok-Whole.ensures.whole t shape (ap Ok c.in-Ok-Whole.field-0-is) in
    closed_here g.S.Service.may g.S.Service.refusal c.args.from _ _ c.requests.more s _ _ _ _ _ _ (g.S.Service.held c.answer_first.new.service) shape
    (c.requests.invariant.progress t s k) came (c.in-Ok-Some-Closed.ensures.ok t) c.requests.invariant.some
    (c.answer_first.ensures.answer c.args.from came.request came.behind came.begins came.is_shape)
    (c.in-Ok-Some-Closed.ensures.closed (cc) came.request came.is_shape.closes)

pub returns-in-Ok-Some-Spent-clause-served : goal.returns-in-Ok-Some-Spent-clause-served
returns-in-Ok-Some-Spent-clause-served g c = λ t s k.
    let shape = c.in-Ok-Whole.shape in
    let came = c.in-Ok-Whole.ensures.whole t shape (ap Ok c.in-Ok-Whole.field-0-is) in
    spent_here g.S.Service.may g.S.Service.refusal c.args.from _ _ c.requests.more s _ _ _ _ _ _ (g.S.Service.held c.answer_first.new.service) shape
    (c.requests.invariant.progress t s k) came (c.in-Ok-Some-Spent.ensures.ok t) c.requests.invariant.some
    (c.answer_first.ensures.answer c.args.from came.request came.behind came.begins came.is_shape)
    (c.in-Ok-Some-Spent.ensures.spent (cc) came.request came.is_shape.closes)

pub returns-in-Err-answer_first-clause-served : goal.returns-in-Err-answer_first-clause-served
returns-in-Err-answer_first-clause-served g c = λ t s k.
    let shape = c.in-Ok-Whole.shape in
    let came = c.in-Ok-Whole.ensures.whole t shape (ap Ok c.in-Ok-Whole.field-0-is) in
    answer_failed_here g.S.Service.may g.S.Service.refusal c.args.from _ _ c.requests.more s _ _ _ _ _ _ (g.S.Service.held c.answer_first.new.service) shape
    (c.requests.invariant.progress t s k) came (c.in-Err-answer_first.ensures.part t) c.requests.invariant.some
    (c.answer_first.ensures.answer c.args.from came.request came.behind came.begins came.is_shape)

pub requests-init : goal.requests-init
requests-init g c = record {
  ready = c.requires.ready;
  left = λ s k. search rules;
  progress = λ t s k. none_yet g.S.Service.may g.S.Service.refusal c.args.from _ s _ _ k c.clear.ensures;
  some = omega arith;
  reads = refl;
  turns = refl;
  writes = refl;
}

pub requests-preserved : goal.requests-preserved
requests-preserved g c = record {
  ready = c.answer_first.ensures.ready;
  left = λ s k.
      let shape = c.in-Ok-Whole.shape in
      let held = c.in-Ok-Whole.ensures.held shape (ap Ok c.in-Ok-Whole.field-0-is) in
      left_more g.S.Service.may _ _ s _ _ (c.requests.invariant.left s k) (c.answer_first.ensures.answer c.args.from held.request held.behind held.begins held.is_shape);
  progress = λ t s k.
      let shape = c.in-Ok-Whole.shape in
      let came = c.in-Ok-Whole.ensures.whole t shape (ap Ok c.in-Ok-Whole.field-0-is) in
      progress_more g.S.Service.may g.S.Service.refusal c.args.from _ _ c.requests.more _ s _ _ _ _ _ _ _ (g.S.Service.held c.answer_first.new.service) shape c.len.result
      (c.requests.invariant.progress t s k) came (c.in-Ok-None.ensures.ok t) c.requests.invariant.some
      (c.answer_first.ensures.answer c.args.from came.request came.behind came.begins came.is_shape)
      (c.in-Ok-None.ensures.goes_on (cc) came.request came.is_shape.closes) c.len.ensures.value c.consume.ensures refl;
  some = more_left c.requests.more c.in-Ok-Whole.shape.closes c.requests.invariant.some (c.in-Ok-None.ensures.goes_on (cc));
  reads = c.in-Ok-None.ensures.calls.reads ∙ c.in-Ok-Whole.ensures.calls.reads.steady refl ∙ c.requests.invariant.reads;
  turns = c.in-Ok-None.ensures.calls.turns ∙ c.in-Ok-Whole.ensures.calls.turns ∙ c.requests.invariant.turns;
  writes = c.in-Ok-None.ensures.calls.writes.steady refl ∙ c.in-Ok-Whole.ensures.calls.writes.steady refl ∙ c.requests.invariant.writes;
}

pub returns-in-Ok-Some-Closed-clause-left : goal.returns-in-Ok-Some-Closed-clause-left
returns-in-Ok-Some-Closed-clause-left g c = λ s k.
    let shape = c.in-Ok-Whole.shape in
    let held = c.in-Ok-Whole.ensures.held shape (ap Ok c.in-Ok-Whole.field-0-is) in
    left_more g.S.Service.may _ _ s _ _ (c.requests.invariant.left s k) (c.answer_first.ensures.answer c.args.from held.request held.behind held.begins held.is_shape)

pub returns-in-Ok-Some-Spent-clause-left : goal.returns-in-Ok-Some-Spent-clause-left
returns-in-Ok-Some-Spent-clause-left g c = λ s k.
    let shape = c.in-Ok-Whole.shape in
    let held = c.in-Ok-Whole.ensures.held shape (ap Ok c.in-Ok-Whole.field-0-is) in
    left_more g.S.Service.may _ _ s _ _ (c.requests.invariant.left s k) (c.answer_first.ensures.answer c.args.from held.request held.behind held.begins held.is_shape)

pub returns-in-Err-answer_first-clause-left : goal.returns-in-Err-answer_first-clause-left
returns-in-Err-answer_first-clause-left g c = λ s k.
    let shape = c.in-Ok-Whole.shape in
    let held = c.in-Ok-Whole.ensures.held shape (ap Ok c.in-Ok-Whole.field-0-is) in
    left_more g.S.Service.may _ _ s _ _ (c.requests.invariant.left s k) (c.answer_first.ensures.answer c.args.from held.request held.behind held.begins held.is_shape)

pub returns-in-Ok-clause-left : goal.returns-in-Ok-clause-left
returns-in-Ok-clause-left g c = λ s k. left_kept g.S.Service.may _ _ s (c.requests.invariant.left s k) c.answer_fault.ensures.state

pub returns-in-Err-clause-left : goal.returns-in-Err-clause-left
returns-in-Err-clause-left g c = λ s k. left_kept g.S.Service.may _ _ s (c.requests.invariant.left s k) c.answer_fault.ensures.state
