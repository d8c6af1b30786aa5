use Rattle.std.proofs.Common.{ℕ, ◌%◌, ◌++◌, codes, ap, ◌∙◌}
use Rattle.std.specs.Prelude.{decimal}
use Rattle.std.proofs.lemmas.Result.{on_ok_weaker}
use Rattle.run_drills.specs.Network.{host_text}
use Rattle.run_drills.proofs.Joins.{joined_three}
use Rattle.run_drills.proofs.network.append_host.Goals as goal

pub returns : goal.returns
unfolding host_text
returns c =
    on_ok_weaker c.append-2.result
    (joined_three c.args.text.now c.append.new.self c.append_decimal.new.line c.append-2.new.self (codes "host") (decimal (c.args.thing % 32)) (codes ".example.com")
    c.in_ok-append.ensures.ok
    (c.in_ok-append_decimal.ensures.ok ∙ ap (λ (n : ℕ). c.append.new.self ++ decimal n) (c.from.ensures ∙ c.model_of.ensures.value)))
    c.append-2.ensures.ok
