use Rattle.std.proofs.Common.{ap, ◌∙◌}
use Rattle.sqlite.specs.Held.{state}
use Rattle.keep_sqlite.specs.Rows.{held_items}
use Rattle.keep_sqlite.proofs.laws.first_open_finds.Goals as goal

pub returns : goal.returns
returns g c clean =
    let ok = c.in_ok-items.ensures in
    let tells = ok.tells clean in
    ok.items tells ∙ ok.same tells ∙ ap (λ connection. held_items (state g.S.Store connection).now) c.unopened_keepers_tell-keeper.ensures.connection
