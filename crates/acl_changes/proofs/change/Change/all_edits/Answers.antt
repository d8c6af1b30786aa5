use Rattle.std.proofs.Common.{List, ◌+◌, ◌*◌, length, drop, sym, ap, ◌∙◌, arith}
use Rattle.std.proofs.lemmas.List.{drop_all}
use Rattle.acl_model.specs.declared.binding.Binding.{Binding}
use Rattle.acl_rows.specs.declared.row.RowKey.{RowKey}
use Rattle.acl_changes.specs.Touched.{binding_touches, touches, with_edits}
use Rattle.acl_changes.specs.Change.{more_edits}
use Rattle.acl_changes.specs.Steps.{least_steps}
use Rattle.acl_changes.proofs.Loops.{more_edits-append, length_times, least_steps-append, next_binding}
use Rattle.acl_changes.proofs.change.Change.all_edits.Goals as goal

pub returns-in_err-binding_edits-clause-most : goal.returns-in_err-binding_edits-clause-most
returns-in_err-binding_edits-clause-most g c = λ b k u few rows fit.
    let rest : List RowKey = touches c.args.self.now.slots (drop (c.loop-binding.binding-index + 1) c.args.changed.now) in
    let count = ap (λ (ts : List RowKey). length ts * u) (next_binding c.args.self.now.slots c.args.changed.now c.loop-binding.binding-index c.binding-item.result (omega arith) c.binding-item.is) ∙ length_times (binding_touches c.args.self.now.slots c.binding-item.result) rest u in
    omega (arith, c.loop-binding.invariant.most b k u few rows fit, c.binding_edits.ensures.most b k u few rows fit, count)

pub loop-binding-preserved : goal.loop-binding-preserved
loop-binding-preserved g c =
    let rest : List RowKey = touches c.args.self.now.slots (drop (c.loop-binding.binding-index + 1) c.args.changed.now) in
    let next = next_binding c.args.self.now.slots c.args.changed.now c.loop-binding.binding-index c.binding-item.result (omega arith) c.binding-item.is in
    record {
      edits =
          c.loop-binding.invariant.edits
          ∙ ap (λ (ts : List RowKey). more_edits c.args.self.now ts c.loop-binding.edits.rows) next
          ∙ more_edits-append c.args.self.now (binding_touches c.args.self.now.slots c.binding-item.result) rest c.loop-binding.edits.rows
          ∙ ap (more_edits c.args.self.now rest) (sym c.in_ok-binding_edits.ensures.ok);
      read =
          (let count = ap (least_steps c.args.self.now.rows) next ∙ least_steps-append c.args.self.now.rows (binding_touches c.args.self.now.slots c.binding-item.result) rest in
          omega (arith, c.loop-binding.invariant.read, c.in_ok-binding_edits.ensures.read, count));
      up = omega (arith, c.loop-binding.invariant.up, c.binding_edits.ensures.least);
      most = λ b k u few rows fit.
          let count = ap (λ (ts : List RowKey). length ts * u) next ∙ length_times (binding_touches c.args.self.now.slots c.binding-item.result) rest u in
          omega (arith, c.loop-binding.invariant.most b k u few rows fit, c.binding_edits.ensures.most b k u few rows fit, count);
    }

pub returns-clause-ok : goal.returns-clause-ok
unfolding touches more_edits with_edits
returns-clause-ok g c =
    sym (c.loop-binding.invariant.edits
    ∙ ap (λ (bs : List Binding). more_edits c.args.self.now (touches c.args.self.now.slots bs) c.loop-binding.edits.rows) (drop_all c.loop-binding.binding-index c.args.changed.now (omega arith)))

pub returns-clause-most : goal.returns-clause-most
returns-clause-most g c = λ b k u few rows fit. omega (arith, c.loop-binding.invariant.most b k u few rows fit)

pub returns-clause-read : goal.returns-clause-read
unfolding touches least_steps
returns-clause-read g c =
    let none = ap (λ (bs : List Binding). least_steps c.args.self.now.rows (touches c.args.self.now.slots bs)) (drop_all c.loop-binding.binding-index c.args.changed.now (omega arith)) in
    omega (arith, c.loop-binding.invariant.read, none)
