use Rattle.std.proofs.Common.{ℕ, List, ◌++◌, ap, ◌∙◌}
use Rattle.std.specs.Prelude.{codes}
use Rattle.rule_export.specs.Tests.{forwarding}
use Rattle.rule_export.proofs.MemberLaws.{in_three}
use Rattle.rule_export.proofs.entry.append_actions.Goals as goal

pub returns : goal.returns
returns c =
    in_three c.args.line.now (codes "{\"actions\":{\"forwarding\":\"") (forwarding c.args.action) (codes "\"},\"matches\":")
    c.in_ok-append.ensures.ok
    (c.in_ok-append-2.ensures.ok ∙ ap (λ (word : List ℕ). c.append.new.self ++ word) c.forwarding.ensures)
    c.in_ok-append-3.ensures.ok
