use Rattle.std.proofs.Common.{map, ◌-◌, ◌≡◌, length, take, drop, sym, arith}
use Rattle.std.proofs.lemmas.List.{length-take, length-drop, length-map}
use Rattle.base_rows.specs.Search.{prefix_answer}
use Rattle.base_rows.proofs.SearchLaws.{joined_equal, stretch_cost}
use Rattle.base_rows.proofs.ProbeLaws.{prefix_answers_fall, rows_under_stretch, rows_under_gap}
use Rattle.base_rows.proofs.sortable.search.stretch_under.Goals as goal

pub meet-requires : goal.meet-requires
meet-requires g c = prefix_answers_fall g.R.Sortable.sort_key (g.K.PrefixOf.prefix c.args.prefix.now) c.args.rows.now c.requires

pub first_equal-first-requires-clause-falls : goal.first_equal-first-requires-clause-falls
first_equal-first-requires-clause-falls g c = prefix_answers_fall g.R.Sortable.sort_key (g.K.PrefixOf.prefix c.args.prefix.now) c.args.rows.now c.requires

pub past_equal-past-requires-clause-falls : goal.past_equal-past-requires-clause-falls
past_equal-past-requires-clause-falls g c = prefix_answers_fall g.R.Sortable.sort_key (g.K.PrefixOf.prefix c.args.prefix.now) c.args.rows.now c.requires

pub returns-in-Ok-clause-rows : goal.returns-in-Ok-clause-rows
returns-in-Ok-clause-rows g c =
    let sort_key = g.R.Sortable.sort_key in
    let prefix = g.K.PrefixOf.prefix c.args.prefix.now in
    let rows = c.args.rows.now in
    let first = c.first_equal-first.result in
    let past = c.past_equal-past.result in
    sym (rows_under_stretch sort_key prefix rows first past (omega arith) c.first_equal-first.ensures.before
    (joined_equal (map (prefix_answer sort_key prefix) rows) first c.in-Ok.met.at past c.first_equal-first.ensures.equal c.past_equal-past.ensures.equal) c.past_equal-past.ensures.after)

pub returns-in-Ok-clause-most : goal.returns-in-Ok-clause-most
returns-in-Ok-clause-most g c =
    let rows = c.args.rows.now in
    let first = c.first_equal-first.result in
    let past = c.past_equal-past.result in
    let met = c.in-Ok.met in
    let taken : length (take (past - first) (drop first rows)) ≡ past - first = omega (arith, length-take (past - first) (drop first rows), length-drop first rows, c.in-Ok.ensures.ok.end_le, length-map rows (prefix_answer g.R.Sortable.sort_key (g.K.PrefixOf.prefix c.args.prefix.now))) in
    stretch_cost (c.meet.new.steps - c.args.steps.now - 1) (met.end - met.start) (length rows) _ c.in-Ok.ensures.ok_most
    (omega (arith, c.in-Ok.ensures.ok.start_le, c.in-Ok.ensures.ok.at_lt))
    (omega (arith, c.in-Ok.ensures.ok_least))
    (λ single. omega (arith, c.in-Ok.ensures.ok_least, c.in-Ok.ensures.ok.start_le, c.in-Ok.ensures.ok.at_lt))

pub returns-in-Err-clause-rows : goal.returns-in-Err-clause-rows
returns-in-Err-clause-rows g c = sym (rows_under_gap g.R.Sortable.sort_key (g.K.PrefixOf.prefix c.args.prefix.now) c.args.rows.now _ c.in-Err.ensures.err)

pub first_equal-first-requires-clause-order : goal.first_equal-first-requires-clause-order
first_equal-first-requires-clause-order g c = c.in-Ok.ensures.ok.start_le

pub first_equal-first-requires-clause-before_start : goal.first_equal-first-requires-clause-before_start
first_equal-first-requires-clause-before_start g c = c.in-Ok.ensures.ok.before

pub first_equal-first-requires-clause-meets : goal.first_equal-first-requires-clause-meets
first_equal-first-requires-clause-meets g c = c.in-Ok.ensures.ok.meets

pub past_equal-past-requires-clause-order : goal.past_equal-past-requires-clause-order
past_equal-past-requires-clause-order g c = c.in-Ok.ensures.ok.at_lt

pub past_equal-past-requires-clause-after_end : goal.past_equal-past-requires-clause-after_end
past_equal-past-requires-clause-after_end g c = c.in-Ok.ensures.ok.after

pub past_equal-past-requires-clause-meets : goal.past_equal-past-requires-clause-meets
past_equal-past-requires-clause-meets g c = c.in-Ok.ensures.ok.meets

pub returns-in-Err-clause-some : goal.returns-in-Err-clause-some
returns-in-Err-clause-some g c = c.in-Err.ensures.err_least
