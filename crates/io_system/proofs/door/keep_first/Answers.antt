use Rattle.std.proofs.Common.{rules}
use Rattle.io_system.proofs.Kept.{first_kept}
use Rattle.io_system.proofs.door.keep_first.Goals as goal

pub returns : goal.returns
returns c =
    first_kept c.try_extend_from_slice-kept.result c.args.first.now.items c.args.octets.now c.split_at.result.0.now
    c.try_extend_from_slice-kept.new.self.items c.remaining_capacity.result c.min-count.result
    (search rules) (search rules) c.split_at.ensures.front c.split_at.ensures.front_len
    c.try_extend_from_slice-kept.ensures.variant c.try_extend_from_slice-kept.ensures.ok
