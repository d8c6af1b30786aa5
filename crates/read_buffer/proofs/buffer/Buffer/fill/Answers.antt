use Rattle.std.proofs.Common.{◌≡◌, ◌+◌, ◌-◌, ◌++◌, length, take, drop, ap, ◌∙◌, rules}
use Rattle.std.specs.Prelude.{slice_range}
use Rattle.std.proofs.lemmas.List.{places}
use Rattle.read_buffer.specs.Held.{Holding}
use Rattle.read_buffer.proofs.Buffers.{part_grown}
use Rattle.read_buffer.proofs.buffer.Buffer.fill.Goals as goal

pub returns-clause-octets : goal.returns-clause-octets
returns-clause-octets g c = λ t.
    let xs = c.self.inside.octets.items in
    let ys = c.refill.new.octets in
    let start = c.self.inside.start in
    let end = c.self.inside.end in
    let n = c.in_ok-count.count in
    let whole : take c.self.inside.octets.len (ys ++ drop (length ys) xs) ≡ ys = search (rules, places) in
    let front : take (end - start) ys ≡ slice_range c.as_mut_slice.result.now start end = c.refill.ensures.front in
    let held : slice_range c.as_mut_slice.result.now start end ≡ c.args.self.now.held =
    ap (λ octets. slice_range octets start end) c.as_mut_slice.ensures.value ∙ ap (λ (holding : Holding). holding.held) c.self.view_is in
    record {
      octets = take n (drop (end - start) ys);
      took = (c.in_ok-count.ensures.octets t).0;
      held = ap (λ octets. slice_range octets 0 (end - start + n)) whole ∙ part_grown c.as_mut_slice.result.now ys start end n front
          ∙ ap (λ part. part ++ take n (drop (end - start) ys)) held;
    }
