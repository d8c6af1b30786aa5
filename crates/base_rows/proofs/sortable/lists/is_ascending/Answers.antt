use Rattle.base_rows.specs.Ascending.{sort_keys_ascend}
use Rattle.base_rows.proofs.AscendLaws.{ascend_from, ascend_to, both_ways}
use Rattle.base_rows.proofs.sortable.lists.is_ascending.Goals as goal

pub returns-clause-test : goal.returns-clause-test
returns-clause-test g c =
    let sort_key = g.R.Sortable.sort_key in
    let list = c.args.list.now in
    both_ways c.is_ascending.result (sort_keys_ascend sort_key list) (λ e. ascend_to sort_key list (c.is_ascending.ensures.0 e)) (λ e. c.is_ascending.ensures.1 (ascend_from sort_key list e))
