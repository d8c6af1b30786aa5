use Rattle.std.proofs.Common.{◌<◌, ◌^◌, arith}
use Rattle.mud_base.proofs.Numbers.{number_upto-decimal}
use Rattle.mud_base.proofs.laws.number_is_read_back.Goals as goal

pub returns : goal.returns
returns c within = let small : c.args.number < 2 ^ 64 = omega arith in number_upto-decimal c.args.most c.args.number small within
