use Rattle.item_codec.proofs.FieldLaws.{string_again, string_read, string_apart}
use Rattle.item_codec.proofs.laws.strings.Goals as goal

pub returns-clause-back : goal.returns-clause-back
returns-clause-back c = string_again

pub returns-clause-alone : goal.returns-clause-alone
returns-clause-alone c = string_read

pub returns-clause-apart : goal.returns-clause-apart
returns-clause-apart c = string_apart
