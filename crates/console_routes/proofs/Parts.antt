-- Parts of definitions that lemmas speak of.
use Rattle.std.specs.Prelude.{ℕ, Bool, is_some}
use Rattle.console_routes.specs.declared.action.Method.{Method}
use Rattle.console_routes.specs.declared.route.Route.{Route}
use Rattle.console_routes.specs.Actions.{action_of}

abbrev pub has_method : Route → Method → Bool
has_method route method = is_some (action_of route method)
