use Rattle.mud_file.proofs.Bounds.{read_files_are_bounded}
use Rattle.mud_file.proofs.laws.read_files_are_bounded.Goals as goal

pub returns : goal.returns
returns c = read_files_are_bounded
