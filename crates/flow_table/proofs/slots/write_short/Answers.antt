use Rattle.std.proofs.Common.{sym, ap, ◌∙◌}
use Rattle.std.specs.Option.{is_some}
use Rattle.flow_table.proofs.SlotLaws.{not_in_short, by_short, written_short}
use Rattle.flow_table.proofs.slots.write_short.Goals as goal

pub returns-in_default-clause-absent : goal.returns-in_default-clause-absent
returns-in_default-clause-absent c = λ _. not_in_short _ _ c.in_default.ensures

pub returns-in-Some-get_mut-clause-there : goal.returns-in-Some-get_mut-clause-there
returns-in-Some-get_mut-clause-there c = λ _. ap is_some (sym (c.in-Some-get_mut.ensures.value ∙ by_short _ _ _ c.in-Some.ensures))

pub returns-in-Some-get_mut-clause-written : goal.returns-in-Some-get_mut-clause-written
returns-in-Some-get_mut-clause-written c = λ _. written_short _ _ _ _ _ _ _ c.in-Some.ensures c.in-Some-get_mut.ensures.value c.keep_up.ensures ((c.get_mut.follows.holds c.keep_up.new.self).3 (ap is_some (sym c.in-Some-get_mut.ensures.value))).0

pub returns-in-None-clause-absent : goal.returns-in-None-clause-absent
returns-in-None-clause-absent c = λ _. sym (c.in-None.ensures.value ∙ by_short _ _ _ c.in-Some.ensures)
