use Rattle.std.proofs.Common.{sym, ◌∙◌}
use Rattle.pcapng_read.proofs.Stages.{stopped}
use Rattle.pcapng_read.proofs.reader.NgReader.advance.Goals as goal

pub returns-in-Ok-clause-end : goal.returns-in-Ok-clause-end
returns-in-Ok-clause-end g c = λ t none.
    let ended = c.in-Ok.ensures.end t (sym c.is_some.ensures ∙ none) in
    record {
      held = ended.0;
      left = ended.1;
      ended = stopped c.self.inside.fault c.step.new.standing c.step.new.buffer.held c.in_default.is ended.0;
    }
