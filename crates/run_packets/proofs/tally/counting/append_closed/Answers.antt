use Rattle.std.proofs.Common.{◌≡◌, ℕ, List, ◌++◌, OnOk, sym, ap, subst, ◌∙◌}
use Rattle.std.proofs.lemmas.List.{append-nil}
use Rattle.run_packets.proofs.TallyLaws.Stepped.{closed_is, closed_not}
use Rattle.run_packets.proofs.tally.counting.append_closed.Goals as goal

pub returns-then-is_over : goal.returns-then-is_over
returns-then-is_over c = λ all latest s stands now_is.
    subst (λ (l : List ℕ). OnOk c.append_hour.result (c.append_hour.new.lines ≡ c.args.lines.now ++ l))
    (closed_is latest s c.hour-hour.result c.args.now c.counts.result.now (c.hour-hour.ensures.value ∙ stands.hour) (c.counts.ensures.value ∙ stands.counts) now_is (sym c.is_over.ensures ∙ c.if-is_over.true))
    c.append_hour.ensures

pub returns : goal.returns
returns c = λ all latest s stands now_is.
    sym (append-nil c.args.lines.now)
    ∙ ap (λ (l : List ℕ). c.args.lines.now ++ l) (closed_not latest s c.hour-hour.result c.args.now (c.hour-hour.ensures.value ∙ stands.hour) now_is (sym c.is_over.ensures ∙ c.if-is_over.false))
