use Rattle.std.proofs.Common.{length, refl, arith, rules, ap, ℕ, List}
use Rattle.pcapng_read.proofs.Passing.{passes_none, passes_fetch, passes_on}
use Rattle.pcapng_read.proofs.read.pass.Goals as goal

pub pieces-init : goal.pieces-init
pieces-init g c = record {
  octets = λ t. passes_none c.args.count c.args.buffer.now.held (g.D.Door.view c.args.source.now).state;
  reads = refl;
  turns = refl;
  writes = refl;
}

pub pieces-preserved : goal.pieces-preserved
pieces-preserved g c = record {
  octets = λ t.
      let size = ap (λ (octets : List ℕ). length octets) c.held.ensures in
      passes_on _ _ c.min-piece.result _ _ _ _ _ _
      (passes_fetch _ _ _ _ _ _ _ _ (c.pieces.invariant.octets t) (c.in_ok-fetch.ensures.octets t))
      (omega (arith, c.min-piece.ensures)) (omega (arith, c.min-piece.ensures, size)) refl c.hand_out.ensures.held;
  reads = search rules;
  turns = search rules;
  writes = search rules;
}
