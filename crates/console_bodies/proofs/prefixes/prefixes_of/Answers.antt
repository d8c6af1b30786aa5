use Rattle.std.proofs.Common.{arith, List}
use Rattle.serde_json.specs.View.{view}
use Rattle.mud_base.proofs.Readings.{over_refused}
use Rattle.mud_base.specs.Addresses.{PrefixParts}
use Rattle.console_bodies.specs.declared.fault.BodyFault.{BodyFault}
use Rattle.console_bodies.specs.Values as spec
use Rattle.console_bodies.proofs.prefixes.prefixes_of.Goals as goal

pub returns-in_err-next_prefix : goal.returns-in_err-next_prefix
returns-in_err-next_prefix c = grind (arith, over_refused {F = BodyFault} {A = List PrefixParts} view spec.next_prefix)
