use Rattle.std.proofs.Common.{◌+◌, ◌<◌, ◌≤◌, [], ◌∷◌, ◌++◌, length, map, sym, ap, subst, ◌∙◌}
use Rattle.drop_ledger.specs.Counted.{kinds, count_of, count_rows}
use Rattle.drop_ledger.proofs.FirstRows.{again_counted, new_counted, late_counted, others_few, late_rows_are}
use Rattle.drop_ledger.proofs.counted.count_first.Goals as goal
use Rattle.drop_ledger.proofs.Parts.{others_of}

pub returns-then-contains-clause-counted : goal.returns-then-contains-clause-counted
returns-then-contains-clause-counted g c = λ len other_of xs are own begins rows_are few.
    again_counted (kinds g.D.Sortable.sort_key g.D.Tallied.counted g.O.Sortable.sort_key g.O.Tallied.counted other_of len c.args.most) are g.met.D.Tallied.stays g.D.Tallied.count g.met.D.Tallied.told
    xs c.args.rows.now.rows c.args.others.now.rows rows_are c.args.row few c.with_count.result c.next_count-count.result c.put.new.self.rows
    (sym c.contains.ensures ∙ c.if-contains.true) c.next_count-count.ensures.some c.with_count.ensures c.put.ensures.rows

pub returns-then-rows_under-most-clause-counted : goal.returns-then-rows_under-most-clause-counted
returns-then-rows_under-most-clause-counted g c = λ len other_of xs are own begins rows_are few.
    new_counted (kinds g.D.Sortable.sort_key g.D.Tallied.counted g.O.Sortable.sort_key g.O.Tallied.counted other_of len c.args.most) are g.met.D.Tallied.stays g.D.Tallied.count g.met.D.Tallied.told
    xs c.args.rows.now.rows c.args.others.now.rows rows_are c.args.row few c.with_count-then-rows_under-most.result (g.O.PrefixOf.prefix c.args.other) c.put-then-rows_under-most.new.self.rows
    (sym c.contains.ensures ∙ c.if-contains.false) begins (subst (λ rs. length rs < c.args.most) c.rows_under.ensures c.if-rows_under-most.true)
    c.with_count-then-rows_under-most.ensures c.put-then-rows_under-most.ensures.rows

pub returns-clause-counted : goal.returns-clause-counted
returns-clause-counted g c = λ len other_of xs are own begins rows_are few.
    let k = kinds g.D.Sortable.sort_key g.D.Tallied.counted g.O.Sortable.sort_key g.O.Tallied.counted other_of len c.args.most in
    late_counted k are g.met.D.Tallied.stays g.D.Tallied.count g.met.D.Tallied.told
    xs c.args.rows.now.rows c.args.others.now.rows rows_are c.args.row few (g.O.PrefixOf.prefix c.args.other) c.count_one.new.rows.rows
    (sym c.contains.ensures ∙ c.if-contains.false) begins (subst (λ rs. c.args.most ≤ length rs) c.rows_under.ensures c.if-rows_under-most.false)
    (c.count_one.ensures.counted (others_of k (map k.sort_key xs) xs) (rows_are.others ∙ late_rows_are k xs) (subst (λ o. count_of (g.O.Sortable.sort_key o) (map k.beginning (others_of k (map k.sort_key xs) xs)) + 1 < 18446744073709551616) (sym own) (others_few k are g.met.D.Tallied.stays g.D.Tallied.count g.met.D.Tallied.told xs c.args.row few))
    ∙ ap (λ o. count_rows k.beginning k.counted_late (others_of k (map k.sort_key xs) xs ++ o ∷ [])) own)
