use Rattle.item_codec.proofs.FieldLaws.{number_again, number_read, number_apart}
use Rattle.item_codec.proofs.laws.numbers.Goals as goal

pub returns-clause-back : goal.returns-clause-back
returns-clause-back c = number_again

pub returns-clause-alone : goal.returns-clause-alone
returns-clause-alone c = λ width value octets rest h fits e. number_read width octets value rest h fits e

pub returns-clause-apart : goal.returns-clause-apart
returns-clause-apart c = number_apart
