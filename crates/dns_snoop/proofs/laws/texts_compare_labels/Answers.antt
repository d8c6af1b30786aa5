use Rattle.dns_snoop.proofs.NameLaws.{same_labels, same_texts}
use Rattle.dns_snoop.proofs.laws.texts_compare_labels.Goals as goal

pub returns-clause-same : goal.returns-clause-same
returns-clause-same c = same_labels

pub returns-clause-apart : goal.returns-clause-apart
returns-clause-apart c = same_texts
