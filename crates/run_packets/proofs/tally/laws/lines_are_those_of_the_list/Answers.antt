use Rattle.run_packets.proofs.TallyLaws.TextLaws.{lines_told}
use Rattle.run_packets.proofs.tally.laws.lines_are_those_of_the_list.Goals as goal

pub returns : goal.returns
returns c = lines_told
