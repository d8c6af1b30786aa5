use Rattle.usage_tables.specs.FileItems.{held_in}
use Rattle.file_cache.proofs.ReadLaws.{part_one}
use Rattle.file_cache.proofs.read.read_candidate_part.Goals as goal

pub returns-in_ok-candidate : goal.returns-in_ok-candidate
returns-in_ok-candidate c = part_one c.args.reader.now held_in c.in_ok-flag.flag c.in_ok-candidate.candidate _ _ c.in_ok-flag.ensures c.if-flag-eq1.true c.in_ok-candidate.ensures
