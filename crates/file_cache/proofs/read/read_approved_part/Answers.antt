use Rattle.usage_tables.specs.FileItems.{approved_in}
use Rattle.file_cache.proofs.ReadLaws.{part_one}
use Rattle.file_cache.proofs.read.read_approved_part.Goals as goal

pub returns-in_ok-approved : goal.returns-in_ok-approved
returns-in_ok-approved c = part_one c.args.reader.now approved_in c.in_ok-flag.flag c.in_ok-approved.approved _ _ c.in_ok-flag.ensures c.if-flag-eq1.true c.in_ok-approved.ensures
