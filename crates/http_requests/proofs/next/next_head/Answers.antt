use Rattle.std.proofs.Common.{refl, ◌∙◌}
use Rattle.http_requests.proofs.Steps.{head_waits, received_more}
use Rattle.http_requests.proofs.next.next_head.Goals as goal

pub returns-in_err-fill-in-Wait-clause-untouched : goal.returns-in_err-fill-in-Wait-clause-untouched
returns-in_err-fill-in-Wait-clause-untouched g c = λ head rest is.
    absurd (head_waits c.args.buffer.now c.more.buffer c.octets.result.now head rest is (c.more.invariant.untouched head rest is) c.octets.ensures.value (c.in-Wait.ensures.wait refl))

pub returns-then-branch-eq0-clause-untouched : goal.returns-then-branch-eq0-clause-untouched
returns-then-branch-eq0-clause-untouched g c = λ head rest is.
    absurd (head_waits c.args.buffer.now c.more.buffer c.octets.result.now head rest is (c.more.invariant.untouched head rest is) c.octets.ensures.value (c.in-Wait.ensures.wait refl))

pub more-preserved : goal.more-preserved
more-preserved g c = record {
  received = λ t. received_more _ _ _ _ _ _ (c.more.invariant.received t) (c.in_ok-fill-in-Wait.ensures.octets t);
  untouched = λ head rest is.
      absurd (head_waits c.args.buffer.now c.more.buffer c.octets.result.now head rest is (c.more.invariant.untouched head rest is) c.octets.ensures.value (c.in-Wait.ensures.wait refl));
  reads = c.in_ok-fill-in-Wait.ensures.calls.reads.steady refl ∙ c.more.invariant.reads;
  turns = c.in_ok-fill-in-Wait.ensures.calls.turns ∙ c.more.invariant.turns;
  writes = c.in_ok-fill-in-Wait.ensures.calls.writes ∙ c.more.invariant.writes;
}
