use Rattle.std.proofs.Common.{sym, ap, ◌∙◌}
use Rattle.acl_rows.specs.ByAddress.{SideRows}
use Rattle.acl_buckets.proofs.RowPartLaws.{part_read, part_past}
use Rattle.acl_buckets.proofs.row_parts.part_of.Goals as goal

pub returns-in-Some : goal.returns-in-Some
returns-in-Some c =
    ap (λ (p : SideRows). p.rows) (part_read c.args.buckets.now c.args.number c.in-Some.bucket.now c.in-Some.ensures.lookup.3.0 c.in-Some.ensures.lookup.1)

pub returns-in-None : goal.returns-in-None
returns-in-None c = c.requires ∙ sym (ap (λ (p : SideRows). p.rows) (part_past c.args.buckets.now c.args.number c.in-None.ensures.lookup.3))
