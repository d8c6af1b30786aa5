use Rattle.read_buffer.proofs.Buffers.{part_consumed}
use Rattle.http_requests.proofs.buffer.RequestBuffer.consume.Goals as goal

pub returns : goal.returns
returns c =
    part_consumed c.self.inside.octets.items c.args.self.now c.self.inside.start c.self.inside.end c.args.count c.self.invariant.0 c.self.invariant.1 c.self.view_is c.requires
