use Rattle.std.proofs.Common.{sym, subst}
use Rattle.acl_buckets.specs.BindingBuckets.{KeptBindings, AreFoundByKey}
use Rattle.acl_buckets.proofs.EditLaws.{found_in}
use Rattle.acl_buckets.proofs.bindings.BindingBuckets.make_edits.Goals as goal

pub make_all-requires-clause-found : goal.make_all-requires-clause-found
make_all-requires-clause-found g c =
    found_in c.self.inside.buckets.items c.args.edits.rows c.self.invariant.bucketed (subst (λ (k : KeptBindings). AreFoundByKey k.rows c.args.edits.rows) (sym c.self.view_is) c.requires.found)
