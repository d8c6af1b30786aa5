use Rattle.std.proofs.Common.{List, ℕ, ◌+◌, ◌*◌, ap, arith, length-append}
use Rattle.mud_base.specs.declared.packet.Direction.TheVariants.{From, To}
use Rattle.acl_rows.specs.declared.row.RowKey.{RowKey}
use Rattle.acl_changes.specs.PolicyTouched.{side_policy_touches, new_touches}
use Rattle.acl_changes.specs.Fresh.{policy_count}
use Rattle.acl_changes.proofs.EntryHalves.{sides_planned}
use Rattle.acl_changes.proofs.change.Change.policy_fresh.Goals as goal

pub returns-in_err-fresh-clause-most : goal.returns-in_err-fresh-clause-most
unfolding new_touches policy_count
returns-in_err-fresh-clause-most g c = λ b k u few rows fit.
    let from : List RowKey = side_policy_touches c.args.self.now.bindings c.args.holding.now.0 c.args.holding.now.1 From in
    let to : List RowKey = side_policy_touches c.args.self.now.bindings c.args.holding.now.0 c.args.holding.now.1 To in
    let all = ap (λ (n : ℕ). n * (u + 1)) (length-append from to) in
    omega (arith, all, c.side_fresh.ensures.most b k u few rows (fit From))

pub returns-in_err-more-clause-most : goal.returns-in_err-more-clause-most
unfolding new_touches policy_count
returns-in_err-more-clause-most g c = λ b k u few rows fit.
    let from : List RowKey = side_policy_touches c.args.self.now.bindings c.args.holding.now.0 c.args.holding.now.1 From in
    let to : List RowKey = side_policy_touches c.args.self.now.bindings c.args.holding.now.0 c.args.holding.now.1 To in
    let all = ap (λ (n : ℕ). n * (u + 1)) (length-append from to) in
    omega (arith, all, c.side_fresh.ensures.most b k u few rows (fit From), c.side_fresh-2.ensures.most b k u few rows (fit To))

pub returns-in_err-add-clause-most : goal.returns-in_err-add-clause-most
unfolding new_touches policy_count
returns-in_err-add-clause-most g c = λ b k u few rows fit.
    let from : List RowKey = side_policy_touches c.args.self.now.bindings c.args.holding.now.0 c.args.holding.now.1 From in
    let to : List RowKey = side_policy_touches c.args.self.now.bindings c.args.holding.now.0 c.args.holding.now.1 To in
    let all = ap (λ (n : ℕ). n * (u + 1)) (length-append from to) in
    omega (arith, all, c.side_fresh.ensures.most b k u few rows (fit From), c.side_fresh-2.ensures.most b k u few rows (fit To))

pub returns-clause-ok : goal.returns-clause-ok
returns-clause-ok g c = sides_planned c.args.self.now.slots c.args.self.now.bindings c.args.holding.now c.in_ok-fresh.fresh c.in_ok-more.more c.add.new.self c.in_ok-fresh.ensures.ok c.in_ok-more.ensures.ok c.in_ok-add.ensures.ok

pub returns-clause-read : goal.returns-clause-read
unfolding new_touches
returns-clause-read g c =
    let from : List RowKey = side_policy_touches c.args.self.now.bindings c.args.holding.now.0 c.args.holding.now.1 From in
    let to : List RowKey = side_policy_touches c.args.self.now.bindings c.args.holding.now.0 c.args.holding.now.1 To in
    omega (arith, length-append from to, c.in_ok-fresh.ensures.read, c.in_ok-more.ensures.read)

pub returns-clause-most : goal.returns-clause-most
unfolding new_touches policy_count
returns-clause-most g c = λ b k u few rows fit.
    let from : List RowKey = side_policy_touches c.args.self.now.bindings c.args.holding.now.0 c.args.holding.now.1 From in
    let to : List RowKey = side_policy_touches c.args.self.now.bindings c.args.holding.now.0 c.args.holding.now.1 To in
    let all = ap (λ (n : ℕ). n * (u + 1)) (length-append from to) in
    omega (arith, all, c.side_fresh.ensures.most b k u few rows (fit From), c.side_fresh-2.ensures.most b k u few rows (fit To))
