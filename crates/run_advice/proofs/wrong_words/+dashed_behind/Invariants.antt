use Rattle.std.proofs.Common.{length}
use Rattle.run_advice.proofs.wrong_words.+dashed_behind.Given as goal

abbrev pub decreases-dashed_behind : goal.decreases-dashed_behind
decreases-dashed_behind l = length l.words.now
