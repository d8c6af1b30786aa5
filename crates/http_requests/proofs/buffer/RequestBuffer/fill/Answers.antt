use Rattle.std.proofs.Common.{◌≡◌, ◌-◌, ◌++◌, length, take, drop, ap, ◌∙◌, rules}
use Rattle.std.specs.Prelude.{slice_range}
use Rattle.std.proofs.lemmas.List.{places}
use Rattle.read_buffer.proofs.Buffers.{part_filled}
use Rattle.http_requests.proofs.buffer.RequestBuffer.fill.Goals as goal

pub returns-clause-octets : goal.returns-clause-octets
returns-clause-octets g c = λ t.
    let xs = c.self.inside.octets.items in
    let ys = c.refill.new.octets in
    let start = c.self.inside.start in
    let end = c.self.inside.end in
    let n = c.in_ok-count.count in
    let whole : take c.self.inside.octets.len (ys ++ drop (length ys) xs) ≡ ys = search (rules, places) in
    record {
      taken = take n (drop (end - start) ys);
      took = (c.in_ok-count.ensures.octets t).0;
      held = part_filled c.as_mut_slice.result.now ys _ c.args.self.now start end n whole c.refill.ensures.front
          (ap (λ octets. slice_range octets start end) c.as_mut_slice.ensures.value ∙ c.self.view_is);
    }

pub returns-clause-front : goal.returns-clause-front
returns-clause-front g c =
    let xs = c.self.inside.octets.items in
    let ys = c.refill.new.octets in
    let start = c.self.inside.start in
    let end = c.self.inside.end in
    let n = c.in_ok-count.count in
    let whole : take c.self.inside.octets.len (ys ++ drop (length ys) xs) ≡ ys = search (rules, places) in
    record {
      more = take n (drop (end - start) ys);
      held = part_filled c.as_mut_slice.result.now ys _ c.args.self.now start end n whole c.refill.ensures.front
          (ap (λ octets. slice_range octets start end) c.as_mut_slice.ensures.value ∙ c.self.view_is);
    }
