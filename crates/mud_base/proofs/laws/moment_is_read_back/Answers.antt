use Rattle.std.proofs.Common.{arith}
use Rattle.mud_base.proofs.Numbers.{number_upto-decimal}
use Rattle.mud_base.proofs.laws.moment_is_read_back.Goals as goal

pub returns : goal.returns
returns c = number_upto-decimal 253402300799 c.args.moment (omega arith) (omega arith)
