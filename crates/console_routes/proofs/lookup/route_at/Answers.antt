use Rattle.std.proofs.Common.{ap, sym, ◌∙◌}
use Rattle.std.specs.Prelude.{option_map}
use Rattle.matchit.specs.Router.{RouteOf}
use Rattle.console_routes.specs.declared.route.Route.{Route}
use Rattle.console_routes.proofs.Paths.{found_by_path}
use Rattle.console_routes.proofs.lookup.route_at.Goals as goal

-- src/lookup.rt:64:1
pub returns-in-Ok : goal.returns-in-Ok
returns-in-Ok c =
    let found = rw c.requires at c.in-Ok.ensures.found in
    ap (option_map (λ (r : RouteOf Route). r.value)) (sym found) ∙ found_by_path c.args.path.now

-- src/lookup.rt:64:1
pub returns-in-Err : goal.returns-in-Err
returns-in-Err c =
    let missing = rw c.requires at c.in-Err.ensures.missing in
    ap (option_map (λ (r : RouteOf Route). r.value)) (sym missing) ∙ found_by_path c.args.path.now
