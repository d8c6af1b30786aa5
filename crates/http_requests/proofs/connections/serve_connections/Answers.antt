use Rattle.std.proofs.Common.{◌≡◌, true, refl, arith, ◌∙◌}
use Rattle.mud_world.specs.Door.{has_more}
use Rattle.http_requests.proofs.Running.{left_further}
use Rattle.http_requests.proofs.Visits.{rounds_more}
use Rattle.http_requests.proofs.connections.serve_connections.Goals as goal

pub loop-i-preserved : goal.loop-i-preserved
loop-i-preserved g c = record {
  ready = c.serve_connection.ensures.ready;
  left = λ s k. left_further g.S.Service.may _ _ s (c.loop-i.invariant.left s k) c.serve_connection.ensures.left;
  served = λ t s k.
      let next = c.in_ok-next.ensures.ok t in
      let more : has_more (g.D.Door.view c.loop-i.door).state.ahead ≡ true = cc in
      rounds_more g.S.Service.may g.S.Service.refusal c.args.from _ _ c.serve_connection.result c.loop-i.i s _ (g.D.Door.view c.loop-i.door) (g.D.Door.view c.next.new.self) _ (c.loop-i.invariant.served t s k)
      more next.1 (c.serve_connection.ensures.served t) c.in_ok-next.ensures.reads c.in_ok-next.ensures.writes c.serve_connection.ensures.calls;
  reads = omega (arith, c.loop-i.invariant.reads, c.in_ok-next.ensures.reads, c.serve_connection.ensures.calls.reads.later);
  writes = omega (arith, c.loop-i.invariant.writes, c.in_ok-next.ensures.writes, c.serve_connection.ensures.calls.writes.later);
  turns = c.serve_connection.ensures.calls.turns ∙ c.in_ok-next.ensures.cause.steady refl ∙ c.loop-i.invariant.turns;
}
