-- The routes as a router keeps them.
use Rattle.std.specs.Prelude.{ℕ, List, [], map}
use Rattle.matchit.specs.Rows.{RowsOf}
use Rattle.matchit.specs.Router.{RouteOf}
use Rattle.console_routes.specs.declared.route.Route.{Route}
use Rattle.console_routes.specs.Routes.{text_of, all_routes}

-- what a router keeps of a route, whose path has no parameter
abbrev pub literal : Route → List ℕ × RouteOf Route
literal route = (text_of route, record { pattern = text_of route; text = text_of route; names = []; value = route })

-- what a router keeps of all routes, by the octets of their paths
unfoldable pub table : RowsOf (RouteOf Route)
table = map literal all_routes
