use Rattle.std.proofs.Common.{ap, subst, ◌∙◌}
use Rattle.std.specs.List.{AllByRecursion}
use Rattle.std.proofs.lemmas.Result.{on_ok_weaker}
use Rattle.acl_buckets.specs.RowBuckets.{Buckets, AreForgotten}
use Rattle.acl_buckets.specs.RowParts.{seen}
use Rattle.acl_buckets.proofs.rows.RowBuckets.make_room.Goals as goal

pub returns-clause-rows : goal.returns-clause-rows
returns-clause-rows c = c.make_room.ensures.kept.rows ∙ ap (λ (s : Buckets). s.rows) c.self.view_is

pub returns-clause-forgotten : goal.returns-clause-forgotten
returns-clause-forgotten c =
    on_ok_weaker c.make_room.result
    (subst (λ (s : Buckets). AllByRecursion (AreForgotten c.args.edits.now.rows s (seen c.make_room.new.buckets.items)) c.args.edits.now.rows) c.self.view_is)
    c.make_room.ensures.forgotten
