use Rattle.std.proofs.Common.{ℕ, ◌%◌, ◌++◌, codes, ap, ◌∙◌}
use Rattle.std.specs.Prelude.{decimal}
use Rattle.std.proofs.lemmas.Result.{on_ok_weaker}
use Rattle.run_drills.specs.Network.{usage_url}
use Rattle.run_drills.proofs.Joins.{joined_four}
use Rattle.run_drills.proofs.network.append_url.Goals as goal

pub returns : goal.returns
unfolding usage_url
returns c =
    on_ok_weaker c.append_decimal-2.result
    (λ last. joined_four c.args.text.now c.append.new.self c.append_decimal.new.line c.append-2.new.self c.append_decimal-2.new.line
    (codes "https://maker") (decimal (c.args.thing % 8)) (codes ".example.com/model") (decimal (c.args.thing % 32))
    c.in_ok-append.ensures.ok
    (c.in_ok-append_decimal.ensures.ok ∙ ap (λ (n : ℕ). c.append.new.self ++ decimal n) (c.from.ensures ∙ c.maker_of.ensures))
    c.in_ok-append-2.ensures.ok
    (last ∙ ap (λ (n : ℕ). c.append-2.new.self ++ decimal n) (c.from-2.ensures ∙ c.model_of.ensures.value)))
    c.append_decimal-2.ensures.ok
