use Rattle.std.proofs.lemmas.Bool.Decides.{same_from_decides}
use Rattle.std.proofs.lemmas.Slice.Eq.{bytes_eq-Decides}
use Rattle.mud_url.specs.Host.{lowered}
use Rattle.mud_url.specs.Url.{begins_with_scheme, scheme}
use Rattle.mud_url.proofs.parts.begins_with_scheme.Goals as goal

pub returns : goal.returns
unfolding begins_with_scheme scheme lowered
returns c = rw (← c.cut_scheme.ensures.front) (same_from_decides _ _ c.eq_ignore_ascii_case.ensures.test (bytes_eq-Decides (lowered c.cut_scheme.result.0.now) scheme))
