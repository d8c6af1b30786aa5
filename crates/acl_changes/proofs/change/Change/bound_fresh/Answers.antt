use Rattle.std.proofs.Common.{ℕ, ◌+◌, List, length, map, drop, ap, sym, ◌∙◌, arith}
use Rattle.std.proofs.lemmas.List.{drop_all}
use Rattle.acl_model.specs.declared.binding.Binding.{Binding}
use Rattle.acl_rows.specs.declared.row.RowKey.{RowKey}
use Rattle.acl_changes.specs.PolicyTouched.{bound_key}
use Rattle.acl_changes.specs.Fresh.{more_fresh}
use Rattle.acl_changes.proofs.FirstBound.{one_bound_first}
use Rattle.acl_changes.proofs.FreshLaws.{one-more, none-more, next_bound, one_more_sort_key, all_sort_keys}
use Rattle.acl_changes.proofs.change.Change.bound_fresh.Goals as goal

pub returns-in_err-address_fresh-clause-most : goal.returns-in_err-address_fresh-clause-most
returns-in_err-address_fresh-clause-most g c = λ b k u few rows fit.
    one_more_sort_key c.args.steps.now c.loop-binding.steps c.address_fresh.new.steps c.loop-binding.binding-index (length c.args.bound.now) u c.loop-binding-test.true (c.loop-binding.invariant.most b k u few rows fit) (c.address_fresh.ensures.most b k u few rows fit)

pub address_fresh-requires-clause-first : goal.address_fresh-requires-clause-first
address_fresh-requires-clause-first g c =
    one_bound_first c.args.self.now.bindings c.args.holding.now.1.url c.args.entry.now c.args.behind.now c.args.bound.now c.loop-binding.binding-index c.binding-item.result c.requires.first c.loop-binding-test.true c.binding-item.is

pub loop-binding-preserved : goal.loop-binding-preserved
loop-binding-preserved g c =
    let i : ℕ = c.loop-binding.binding-index in
    let owner = c.args.holding.now.0 in
    let rest : List RowKey = map (bound_key owner c.args.side c.args.n) (drop (i + 1) c.args.bound.now) in
    record {
      fresh = λ new holds.
          c.loop-binding.invariant.fresh new holds
          ∙ ap (λ (ks : List RowKey). more_fresh c.args.self.now.slots c.args.self.now.bindings new ks c.loop-binding.fresh) (next_bound owner c.args.side c.args.n c.args.bound.now i c.binding-item.result c.loop-binding-test.true c.binding-item.is)
          ∙ one-more c.args.self.now.slots c.args.self.now.bindings new (bound_key owner c.args.side c.args.n c.binding-item.result) rest c.loop-binding.fresh
          ∙ ap (more_fresh c.args.self.now.slots c.args.self.now.bindings new rest) (sym (c.in_ok-address_fresh.ensures.ok new holds));
      up = omega (arith, c.loop-binding.invariant.up, c.address_fresh.ensures.least);
      most = λ b k u few rows fit. one_more_sort_key c.args.steps.now c.loop-binding.steps c.address_fresh.new.steps i (i + 1) u (omega arith) (c.loop-binding.invariant.most b k u few rows fit) (c.address_fresh.ensures.most b k u few rows fit);
    }

pub returns-clause-ok : goal.returns-clause-ok
returns-clause-ok g c = λ new holds.
    sym (c.loop-binding.invariant.fresh new holds
    ∙ ap (λ (bs : List Binding). more_fresh c.args.self.now.slots c.args.self.now.bindings new (map (bound_key c.args.holding.now.0 c.args.side c.args.n) bs) c.loop-binding.fresh) (drop_all c.loop-binding.binding-index c.args.bound.now c.loop-binding-test.false)
    ∙ none-more c.args.self.now.slots c.args.self.now.bindings new c.loop-binding.fresh)

pub returns-clause-most : goal.returns-clause-most
returns-clause-most g c = λ b k u few rows fit. all_sort_keys c.args.steps.now c.loop-binding.steps c.loop-binding.binding-index (length c.args.bound.now) u c.loop-binding.auto.binding-index-end (c.loop-binding.invariant.most b k u few rows fit)
