use Rattle.std.proofs.Common.{Some, inl, inr, sym, ◌∙◌, arith, rules}
use Rattle.std.specs.Prelude.{IsTrue}
use Rattle.std.proofs.lemmas.Bool.{false≢true}
use Rattle.read_buffer.specs.Reading.{behind}
use Rattle.read_buffer.proofs.Readings.{follows_more}
use Rattle.pcapng_read.specs.Parts.{blocks_at, coming_next, is_decided}
use Rattle.pcapng_read.proofs.Stages.{block_no_end}
use Rattle.pcapng_read.proofs.read.step.Goals as goal

pub returns-in-Block-Some-clause-ok : goal.returns-in-Block-Some-clause-ok
returns-in-Block-Some-clause-ok g c = λ t.
    let new = c.read_block.new in
    follows_more _ (behind (blocks_at c.forward.standing) c.forward.buffer.held) (behind (coming_next (Some c.in-Block-Some.current) new.buffer.given new.standing) new.buffer.held) _ _ _
    (c.forward.invariant.octets t) (rw c.in-Block-Some.field-0-is at (rw c.in-Block-Some.is at (c.in_ok-read_block.ensures.ok t)))

pub forward-preserved : goal.forward-preserved
forward-preserved g c = record {
  octets = λ t.
      follows_more _ (behind (blocks_at c.forward.standing) c.forward.buffer.held) (behind (blocks_at c.read_block.new.standing) c.read_block.new.buffer.held) _ _ _
      (c.forward.invariant.octets t) (rw c.in-Block-None.field-0-is at (rw c.in-Block-None.is at (c.in_ok-read_block.ensures.ok t)));
  within = c.in_ok-read_block.ensures.within;
  further =
      elim c.in_ok-read_block.ensures.further [
        | inl ended ↦ absurd (block_no_end c.in-Block-None.field-0 (sym c.in-Block-None.is ∙ ended))
        | inr more ↦ omega (arith, more, c.forward.invariant.further)
      ];
  unread = λ decided.
      let same = c.forward.invariant.unread decided in
      let now : IsTrue (is_decided c.forward.standing.section.order c.forward.buffer.held) = rw (same.2, same.1) decided in
      absurd (false≢true (rw c.in-Block-None.field-0-is at (rw c.in-Block-None.is at (c.in_ok-read_block.ensures.packet now))));
  reads = search rules;
  turns = search rules;
  writes = search rules;
}
