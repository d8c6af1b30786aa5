use Rattle.std.proofs.Common.{ap, ◌∙◌, arith}
use Rattle.acl_model.specs.declared.ruling.Why.TheVariants.{NoMatch}
use Rattle.packet_judge.specs.ByRows.{first_in, default_at, ruling_at, ruling_in, ruling_by_rows}
use Rattle.packet_judge.specs.RuleSteps.{most_steps}
use Rattle.packet_judge.proofs.StepSums.{TakesPart, file_takes, part_takes}
use Rattle.packet_judge.proofs.ruling.rule_by_rows.Goals as goal

pub returns-in-None-clause-most : goal.returns-in-None-clause-most
unfolding most_steps
returns-in-None-clause-most g c = λ b fits.
    let all : TakesPart c.args.question.now c.args.steps.now c.default_ruling.new.steps c.args.view.now.defaults =
    part_takes c.args.question.now c.args.steps.now c.default_ruling.new.steps c.defaults.result.now c.args.view.now.defaults c.defaults.ensures c.default_ruling.ensures.most in
    let here = all b fits.defaults in
    omega (arith, here)

pub returns-in-Some-first_in-clause-most : goal.returns-in-Some-first_in-clause-most
unfolding most_steps
returns-in-Some-first_in-clause-most g c = λ b fits.
    let here = file_takes c.args.question.now c.args.steps.now c.first_in.new.steps c.in-Some.part.now c.args.view.now.file c.in-Some.ensures c.first_in.ensures.most b fits.file in
    omega (arith, here)

pub returns-in-None-first_in-clause-most : goal.returns-in-None-first_in-clause-most
unfolding most_steps
returns-in-None-first_in-clause-most g c = λ b fits.
    let first = file_takes c.args.question.now c.args.steps.now c.first_in.new.steps c.in-Some.part.now c.args.view.now.file c.in-Some.ensures c.first_in.ensures.most b fits.file in
    let rest : TakesPart c.args.question.now c.first_in.new.steps c.default_ruling-in-None-first_in.new.steps c.args.view.now.defaults =
    part_takes c.args.question.now c.first_in.new.steps c.default_ruling-in-None-first_in.new.steps c.defaults-in-None-first_in.result.now c.args.view.now.defaults c.defaults-in-None-first_in.ensures c.default_ruling-in-None-first_in.ensures.most in
    let then = rest b fits.defaults in
    omega (arith, first, then)

pub returns-in-Some-first_in-clause-value : goal.returns-in-Some-first_in-clause-value
unfolding ruling_by_rows ruling_in
returns-in-Some-first_in-clause-value g c =
    let otherwise = default_at NoMatch (first_in c.args.question.now c.args.view.now.defaults) in
    c.entry_ruling.ensures otherwise
    ∙ ap (ruling_at c.in-Some.part.now.entries otherwise) c.in-Some-first_in.ensures.value
    ∙ ap (ruling_in c.args.question.now c.args.view.now.defaults) c.in-Some.ensures
