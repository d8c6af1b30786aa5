use Rattle.acl_model.proofs.SortKeyLaws.{bound_sort_key_cmp}
use Rattle.acl_model.proofs.sort_key.order_bound.Goals as goal

pub returns : goal.returns
returns c =
    let e = bound_sort_key_cmp c.args.own.key.kind c.args.other.key.kind c.args.own.key.text.now c.args.other.key.text.now c.args.own.addr c.args.other.addr in
    cc e
