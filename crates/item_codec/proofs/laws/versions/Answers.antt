use Rattle.item_codec.proofs.FieldLaws.{version_to_again, version_to_read, version_again, version_read}
use Rattle.item_codec.proofs.laws.versions.Goals as goal

pub returns-clause-back_to : goal.returns-clause-back_to
returns-clause-back_to c = version_to_again

pub returns-clause-alone_to : goal.returns-clause-alone_to
returns-clause-alone_to c most octets value rest fits e = let v = version_to_read most octets value rest fits e in (v.read, v.least, v.most)

pub returns-clause-back : goal.returns-clause-back
returns-clause-back c = version_again

pub returns-clause-alone : goal.returns-clause-alone
returns-clause-alone c = version_read
