use Rattle.std.proofs.Common.{ap, sym, ◌∙◌}
use Rattle.std.specs.Prelude.{position}
use Rattle.table_laws.specs.Lent.{is_lent}
use Rattle.table_laws.proofs.Indices.{found_behind, found_before}
use Rattle.table_laws.proofs.changes.index_from.Goals as goal

pub returns-in-Some-clause-found : goal.returns-in-Some-clause-found
returns-in-Some-clause-found c =
    sym (found_behind c.args.binding.now c.args.others.now c.args.from c.index_in_list.result c.in-Some.index (c.index_in_list.ensures ∙ ap (position (is_lent c.args.binding.now)) c.split_at.ensures.back) c.in-Some.is)

pub returns-in-None-clause-found : goal.returns-in-None-clause-found
returns-in-None-clause-found c =
    sym (found_before c.args.binding.now c.args.others.now c.args.from c.index_in_list-in-None.result c.index_in_list.result (c.index_in_list.ensures ∙ ap (position (is_lent c.args.binding.now)) c.split_at.ensures.back) c.in-None.is (c.index_in_list-in-None.ensures ∙ ap (position (is_lent c.args.binding.now)) c.split_at.ensures.front))
