use Rattle.std.proofs.Common.{◌≡◌, List, ℕ, ◌++◌, OnOk, append_assoc, ap, subst, ◌∙◌}
use Rattle.run_packets.specs.Tally.Texts.{hour_lines, end_lines}
use Rattle.run_packets.specs.Tally.Tallied.{tally_ending}
use Rattle.run_packets.proofs.TallyLaws.Stepped.{ending_is}
use Rattle.run_packets.proofs.tally.counting.TalliedLinesPacketLines.append_last.Goals as goal

pub returns : goal.returns
returns c = λ t is.
    let tally = c.args.self.now.tally in
    let hour : List ℕ = hour_lines c.hour.result c.counts.result.now in
    let rest : List ℕ = end_lines c.denied.result.now c.others.result.now c.totals.result in
    let same : hour ++ rest ≡ tally_ending t =
    (λ i. hour_lines (c.hour.ensures.value i) (c.counts.ensures.value i) ++ end_lines (c.denied.ensures.value i) (c.others.ensures i) (c.totals.ensures.value i)) ∙ ending_is t tally is.stands in
    let all : c.append_hour.new.lines ++ rest ≡ c.args.lines.now ++ tally_ending t =
    ap (λ (l : List ℕ). l ++ rest) c.in_ok-append_hour.ensures ∙ append_assoc c.args.lines.now hour rest ∙ ap (λ (l : List ℕ). c.args.lines.now ++ l) same in
    subst (λ (l : List ℕ). OnOk c.append_end.result (c.append_end.new.lines ≡ l)) all c.append_end.ensures
