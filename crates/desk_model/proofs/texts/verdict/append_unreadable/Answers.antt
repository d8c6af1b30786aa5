use Rattle.std.proofs.Common.{List, ℕ, ◌++◌, ◌∙◌, ap, codes, append_assoc, ◌≡◌}
use Rattle.desk_model.specs.Texts.Verdicts as spec
use Rattle.desk_model.proofs.texts.verdict.append_unreadable.Goals as goal

pub returns : goal.returns
unfolding spec.unreadable_text
returns c =
    let wrote : c.append.new.self ++ c.as_bytes.result.now ≡ c.args.line.now ++ spec.unreadable_text c.args.part =
    ap (λ (name : List ℕ). c.append.new.self ++ name) (c.as_bytes.ensures.value ∙ c.part_name.ensures)
    ∙ ap (λ (line : List ℕ). line ++ spec.part_name c.args.part) c.in_ok-append.ensures.ok
    ∙ append_assoc c.args.line.now (codes " unreadable ") (spec.part_name c.args.part) in
    rw wrote at c.append-2.ensures.ok
