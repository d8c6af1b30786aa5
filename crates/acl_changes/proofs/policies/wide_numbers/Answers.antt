use Rattle.std.proofs.Common.{◌+◌, ◌++◌, ◌∷◌, [], List, ℕ, drop, ap, sym, ◌∙◌, arith}
use Rattle.acl_rows.specs.View.{wide_from}
use Rattle.acl_changes.proofs.PolicyLaws.{wide_more, wide_all}
use Rattle.acl_changes.proofs.policies.wide_numbers.Goals as goal
use Rattle.acl_changes.proofs.policies.wide_numbers.Goals.{then-not-is_membered+in_ok-push, else-not-is_membered}

pub loop-entry-preserved : goal.loop-entry-preserved
loop-entry-preserved c =
    let i : ℕ = c.loop-entry.entry-index in
    let more = wide_more c.args.entries.now i c.entry-item.result c.loop-entry.numbers c.loop-entry-test.true c.entry-item.is c.loop-entry.invariant.wide in
    record {
      number = omega (arith, c.loop-entry.invariant.number);
      wide = elim c.if-not-is_membered.branch [
        | then-not-is_membered+in_ok-push w ↦
            ap (λ (ns : List ℕ). ns ++ wide_from (i + 1 + 1) (drop (i + 1) c.args.entries.now))
            (w.numbers-is ∙ w.in_ok-push.ensures.ok ∙ ap (λ (n : ℕ). c.loop-entry.numbers ++ (n + 1) ∷ []) c.loop-entry.invariant.number)
            ∙ more.1 (sym c.is_membered.ensures ∙ w.if-not-is_membered.true)
        | else-not-is_membered w ↦
            ap (λ (ns : List ℕ). ns ++ wide_from (i + 1 + 1) (drop (i + 1) c.args.entries.now)) w.numbers-is
            ∙ more.0 (sym c.is_membered.ensures ∙ w.if-not-is_membered.false)
      ];
    }

pub returns : goal.returns
returns c = wide_all c.args.entries.now c.loop-entry.entry-index c.loop-entry.numbers c.loop-entry-test.false c.loop-entry.invariant.wide
