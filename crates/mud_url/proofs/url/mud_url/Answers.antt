use Rattle.std.proofs.Common.{sym, ◌∙◌}
use Rattle.mud_url.proofs.Idempotence.{is_canonical-canonical}
use Rattle.mud_url.proofs.url.mud_url.Goals as goal

pub invariant_of-result : goal.invariant_of-result
invariant_of-result c = rw c.canonical_text.ensures (is_canonical-canonical c.args.octets.now (sym c.first_fault.ensures ∙ c.in-None.is))
