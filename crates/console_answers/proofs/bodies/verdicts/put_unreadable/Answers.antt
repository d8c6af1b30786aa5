use Rattle.std.specs.Prelude.{codes}
use Rattle.console_answers.proofs.KeptLemmas.{kept_escaped_then}
use Rattle.desk_model.specs.Texts.Verdicts.{part_name, unreadable_text}
use Rattle.console_answers.proofs.bodies.verdicts.put_unreadable.Goals as goal

pub returns : goal.returns
unfolding unreadable_text
returns c = kept_escaped_then c.args.buffer.now (codes " unreadable ") (part_name c.args.part) c.put_escapes.new.buffer c.put_part.new.buffer c.put_escapes.ensures c.put_part.ensures
