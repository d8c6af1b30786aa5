use Rattle.std.proofs.Common.{◌≡◌, rules, ap, sym, subst, ◌∙◌, arith}
use Rattle.std.specs.Prelude.{filter}
use Rattle.std.proofs.lemmas.Fn.{filter_same}
use Rattle.acl_buckets.specs.BindingParts.{has_rows, joined, AreBucketed}
use Rattle.acl_buckets.proofs.BindingPartLaws.{joined_clear, bucketed_clear}
use Rattle.acl_buckets.proofs.binding_parts.clear_buckets.Goals as goal

pub returns-clause-rows : goal.returns-clause-rows
returns-clause-rows c =
    let left : c.retain.new.self.items ≡ filter has_rows c.args.buckets.now.items = filter_same _ has_rows _ (λ x b f' k. search rules) _ _ c.retain.ensures.filtered in
    ap joined left ∙ joined_clear c.args.buckets.now.items

pub returns-clause-bucketed : goal.returns-clause-bucketed
returns-clause-bucketed c =
    let left : c.retain.new.self.items ≡ filter has_rows c.args.buckets.now.items = filter_same _ has_rows _ (λ x b f' k. search rules) _ _ c.retain.ensures.filtered in
    subst AreBucketed (sym left) (bucketed_clear c.args.buckets.now.items c.requires)

pub returns-clause-cleared : goal.returns-clause-cleared
returns-clause-cleared c = record {
  stay = λ few. absurd (omega arith);
  stays = λ few. absurd (omega arith);
  left = λ many. filter_same _ has_rows _ (λ x b f' k. search rules) _ _ c.retain.ensures.filtered;
  next = λ many. omega arith;
}
