use Rattle.std.proofs.Common.{◌≡◌, ℕ, List, length, take, drop, sym, ap, ap₂, ◌∙◌, arith, length-drop}
use Rattle.pcapng_read.specs.Options.{options_from, with_option}
use Rattle.pcapng_read.proofs.OptionListing.{whole_step}
use Rattle.pcapng_read.proofs.options.first_step.Goals as goal
use Rattle.pcapng_read.proofs.Parts.{filled}

pub returns : goal.returns
returns c =
    let octets = c.args.octets.now in
    let order = c.args.order in
    let code = c.number_16-code.result in
    let len = c.from-len.result in
    let rest = c.split_at.result.1.now in
    let size : length rest ≡ length (drop 4 octets) = ap (λ (octets : List ℕ). length octets) c.split_at.ensures.back in
    let left : drop (filled len) rest ≡ drop (filled len) (drop 4 octets) = ap (drop (filled len)) c.split_at.ensures.back in
    let small : length c.behind.result.now ≡ length (drop (filled len) rest) = ap (λ (octets : List ℕ). length octets) c.behind.ensures in (
      omega (arith, size, small, length-drop 4 octets, length-drop (filled len) rest, c.if-octets-lt-CONTENT_OFFSET.false),
      whole_step order octets code len (omega (arith, c.if-octets-lt-CONTENT_OFFSET.false)) c.number_16-code.ensures c.if-code-eq-END.false (c.from-len.ensures ∙ c.number_16.ensures)
          (omega (arith, size, length-drop 4 octets, c.if-octets-lt-CONTENT_OFFSET.false, c.if-rest-len.false))
          ∙ ap₂ (λ (content rest : List ℕ). with_option (record { code = code; content = content }) (options_from order 0 rest))
          (sym (c.split_at-2.ensures.front ∙ ap (take len) c.split_at.ensures.back)) (sym (c.behind.ensures ∙ left)),
    )
