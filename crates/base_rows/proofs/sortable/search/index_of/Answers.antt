use Rattle.std.proofs.Common.{sym}
use Rattle.base_rows.proofs.ProbeLaws.{sort_key_answers_fall, index_in_met, index_in_gap}
use Rattle.base_rows.proofs.sortable.search.index_of.Goals as goal

pub meet-requires : goal.meet-requires
meet-requires g c = sort_key_answers_fall g.R.Sortable.sort_key (g.K.KeyOf.sort_key c.args.key.now) c.args.rows.now c.requires

pub returns-in-Ok-clause-index : goal.returns-in-Ok-clause-index
returns-in-Ok-clause-index g c = sym (index_in_met g.R.Sortable.sort_key (g.K.KeyOf.sort_key c.args.key.now) c.args.rows.now c.in-Ok.met.at c.requires c.in-Ok.ensures.ok.meets)

pub returns-in-Err-clause-index : goal.returns-in-Err-clause-index
returns-in-Err-clause-index g c = sym (index_in_gap g.R.Sortable.sort_key (g.K.KeyOf.sort_key c.args.key.now) c.args.rows.now c.in-Err.index c.in-Err.ensures.err)
