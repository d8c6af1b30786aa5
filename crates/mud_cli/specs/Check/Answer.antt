-- What `check` answers to a usage file.
use Rattle.std.specs.Prelude.{true, false, Result, Ok, Err}
use Rattle.usage_walk.specs.declared.fault.Broken.{Broken}
use Rattle.mud_file.specs.declared.usage_file.UsageFile.{UsageFile}
use Rattle.mud_cli.specs.Check.Lines.{file_lines, broken_line}
use Rattle.mud_cli.specs.declared.answer.Answer.{Answer}

-- the answer to a usage file that was read or refused
unfoldable pub checking : Result UsageFile Broken → Answer
checking (Ok file) = record { text = file_lines file; refused = false }
checking (Err broken) = record { text = broken_line broken; refused = true }
