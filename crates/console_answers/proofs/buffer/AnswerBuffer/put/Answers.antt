use Rattle.std.proofs.Common.{◌≡◌, ◌++◌, length, take, drop, refl, arith}
use Rattle.console_answers.proofs.KeptLemmas.{text_put_in}
use Rattle.console_answers.proofs.buffer.AnswerBuffer.put.Goals as goal

pub returns : goal.returns
returns c =
    let octets = c.self.inside.octets.items in
    let len = c.self.inside.len in
    let fits = c.min-fits.result in
    let after_put = c.put_in-self-inside.new.octets in
    let text = c.args.text.now in
    let end = c.put_in-self-inside.result in
    let same : c.as_mut_slice.result.now ≡ octets = cc in
    let was : c.args.self.now ≡ take len octets = cc in
    let whole : c.self.inside.octets.len ≡ 4096 = omega (arith, c.self.invariant.whole, c.as_mut_slice.ensures.len) in
    let long : length after_put ≡ 4096 = omega (arith, c.self.invariant.whole, c.put_in-self-inside.ensures.len) in
    let front : take end after_put ≡ take len octets ++ take fits text = rw same at c.put_in-self-inside.ensures.front in
    text_put_in octets after_put (drop (length after_put) octets) c.args.self.now text (take fits text) c.self.inside.octets.len len fits end c.self.invariant whole long c.min-fits.ensures refl c.put_in-self-inside.ensures.end front was
