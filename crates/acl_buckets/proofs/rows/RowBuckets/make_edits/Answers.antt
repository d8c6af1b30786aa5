use Rattle.std.proofs.Common.{sym, subst}
use Rattle.acl_buckets.specs.RowBuckets.{Buckets, AreFoundBeside}
use Rattle.acl_buckets.proofs.rows.RowBuckets.make_edits.Goals as goal

pub make_all-requires-clause-found : goal.make_all-requires-clause-found
make_all-requires-clause-found g c = subst (λ (s : Buckets). AreFoundBeside s.rows c.args.edits.rows) (sym c.self.view_is) c.requires.found
