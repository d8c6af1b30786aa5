use Rattle.std.proofs.Common.{length}
use Rattle.run_advice.proofs.wrong_words.+fault_behind.Given as goal

abbrev pub decreases-fault_behind : goal.decreases-fault_behind
decreases-fault_behind l = length l.operands.now
