use Rattle.std.proofs.Common.{◌≡◌, List, ℕ, ◌+◌, ◌*◌, length, drop, sym, ap, ◌∙◌, arith}
use Rattle.std.specs.Option.{option_and_then}
use Rattle.std.specs.List.{filter_map, cons_option}
use Rattle.std.proofs.lemmas.List.{drop_all}
use Rattle.acl_model.specs.declared.entry.Selector.{Selector}
use Rattle.acl_model.specs.declared.binding.MemberKey.{MemberKey}
use Rattle.acl_model.specs.Keys.{key_of}
use Rattle.acl_rows.specs.Rows.{least_expiry}
use Rattle.acl_changes.specs.Change.{after}
use Rattle.acl_changes.specs.Steps.{key_looks}
use Rattle.acl_changes.proofs.LeastExpiries.{rest_cons, least-cons, steps-cons}
use Rattle.acl_changes.proofs.Looks.{looks_on, looks_off}
use Rattle.acl_changes.proofs.change.Change.least_expiry.Goals as goal

pub returns-in-None-clause-value : goal.returns-in-None-clause-value
returns-in-None-clause-value g c =
    let more : List MemberKey = filter_map (key_of c.args.url.now) (drop (c.loop-selector.selector-index + 1) c.args.selectors.now) in
    let rest : filter_map (key_of c.args.url.now) (drop c.loop-selector.selector-index c.args.selectors.now) ≡ cons_option (key_of c.args.url.now c.selector-item.result) more =
    rest_cons c.args.url.now c.args.selectors.now c.loop-selector.selector-index c.selector-item.result (omega arith) c.selector-item.is in
    sym (c.loop-selector.invariant.same
    ∙ ap (least_expiry (after c.args.self.now) c.args.addr c.loop-selector.expiry) rest
    ∙ least-cons (after c.args.self.now) c.args.addr c.loop-selector.expiry more (key_of c.args.url.now c.selector-item.result)
    ∙ ap (option_and_then (λ (u : ℕ). least_expiry (after c.args.self.now) c.args.addr u more)) (sym c.in-None.ensures.value))

pub returns-in-None-clause-most : goal.returns-in-None-clause-most
returns-in-None-clause-most g c = λ b few.
    let more : List MemberKey = filter_map (key_of c.args.url.now) (drop (c.loop-selector.selector-index + 1) c.args.selectors.now) in
    let rest : filter_map (key_of c.args.url.now) (drop c.loop-selector.selector-index c.args.selectors.now) ≡ cons_option (key_of c.args.url.now c.selector-item.result) more =
    rest_cons c.args.url.now c.args.selectors.now c.loop-selector.selector-index c.selector-item.result (omega arith) c.selector-item.is in
    let count = ap (λ (ks : List MemberKey). length ks * b) rest ∙ steps-cons b more (key_of c.args.url.now c.selector-item.result) in
    omega (arith, c.loop-selector.invariant.most b few, c.selector_expiry.ensures.most b few, count)

pub loop-selector-preserved : goal.loop-selector-preserved
loop-selector-preserved g c =
    let more : List MemberKey = filter_map (key_of c.args.url.now) (drop (c.loop-selector.selector-index + 1) c.args.selectors.now) in
    let rest : filter_map (key_of c.args.url.now) (drop c.loop-selector.selector-index c.args.selectors.now) ≡ cons_option (key_of c.args.url.now c.selector-item.result) more =
    rest_cons c.args.url.now c.args.selectors.now c.loop-selector.selector-index c.selector-item.result (omega arith) c.selector-item.is in
    record {
      same =
          c.loop-selector.invariant.same
          ∙ ap (least_expiry (after c.args.self.now) c.args.addr c.loop-selector.expiry) rest
          ∙ least-cons (after c.args.self.now) c.args.addr c.loop-selector.expiry more (key_of c.args.url.now c.selector-item.result)
          ∙ ap (option_and_then (λ (u : ℕ). least_expiry (after c.args.self.now) c.args.addr u more)) (sym c.in-Some.ensures.value);
      up = omega (arith, c.loop-selector.invariant.up, c.selector_expiry.ensures.least);
      looked =
          let same = ap (key_looks c.args.self.now c.args.addr) rest ∙ looks_on c.args.self.now c.args.addr c.loop-selector.expiry c.in-Some.next more (key_of c.args.url.now c.selector-item.result) c.in-Some.ensures.value in
          omega (arith, c.loop-selector.invariant.looked, c.selector_expiry.ensures.looked, same);
      most = λ b few.
          let count = ap (λ (ks : List MemberKey). length ks * b) rest ∙ steps-cons b more (key_of c.args.url.now c.selector-item.result) in
          omega (arith, c.loop-selector.invariant.most b few, c.selector_expiry.ensures.most b few, count);
    }

pub returns-clause-value : goal.returns-clause-value
unfolding least_expiry
returns-clause-value g c =
    sym (c.loop-selector.invariant.same
    ∙ ap (λ (ss : List Selector). least_expiry (after c.args.self.now) c.args.addr c.loop-selector.expiry (filter_map (key_of c.args.url.now) ss)) (drop_all c.loop-selector.selector-index c.args.selectors.now (omega arith)))

pub returns-in-None-clause-looked : goal.returns-in-None-clause-looked
returns-in-None-clause-looked g c =
    let more : List MemberKey = filter_map (key_of c.args.url.now) (drop (c.loop-selector.selector-index + 1) c.args.selectors.now) in
    let rest : filter_map (key_of c.args.url.now) (drop c.loop-selector.selector-index c.args.selectors.now) ≡ cons_option (key_of c.args.url.now c.selector-item.result) more =
    rest_cons c.args.url.now c.args.selectors.now c.loop-selector.selector-index c.selector-item.result (omega arith) c.selector-item.is in
    let same = ap (key_looks c.args.self.now c.args.addr) rest ∙ looks_off c.args.self.now c.args.addr c.loop-selector.expiry more (key_of c.args.url.now c.selector-item.result) c.in-None.ensures.value in
    omega (arith, c.loop-selector.invariant.looked, c.selector_expiry.ensures.looked, same)

pub returns-clause-looked : goal.returns-clause-looked
unfolding key_looks
returns-clause-looked g c =
    let done = ap (λ (ss : List Selector). key_looks c.args.self.now c.args.addr (filter_map (key_of c.args.url.now) ss)) (drop_all c.loop-selector.selector-index c.args.selectors.now (omega arith)) in
    omega (arith, c.loop-selector.invariant.looked, done)
