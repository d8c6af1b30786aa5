use Rattle.std.proofs.Common.{refl, sym, ap, ◌∙◌, arith}
use Rattle.desk_books.specs.Policies.{policy_with, AddsPolicy}
use Rattle.usage_tables.specs.Policies.{policy_in_row}
use Rattle.desk_books.proofs.Adding.{policy_more, none_held, no_others}
use Rattle.desk_books.proofs.compiling.add_policies.Goals as goal

pub loop-row-init : goal.loop-row-init
loop-row-init g c = record {
  policies = λ u. none_held c.args.files.now c.args.compiled.now.slots u c.requires.none;
  others = λ u. no_others c.args.compiled.now.slots u c.requires.none;
  bindings = refl;
  kept = c.requires.kept;
}

pub loop-row-preserved : goal.loop-row-preserved
loop-row-preserved g c =
    let row = c.row-item.result in
    let added : AddsPolicy row c.loop-row.compiled c.add_policy.new.compiled = c.in_ok-add_policy.ensures in
    record {
      policies = λ u. added.policies u ∙ ap (policy_with row.url (policy_in_row row) u) (c.loop-row.invariant.policies u) ∙ sym (policy_more c.args.files.now c.loop-row.row-index row u c.requires.sound.ascend c.loop-row-test.true c.row-item.is);
      others = λ u. let before = c.loop-row.invariant.others u in let more = added.others u in omega (arith, before, more);
      bindings = added.bindings ∙ c.loop-row.invariant.bindings;
      kept = added.rows;
    }
