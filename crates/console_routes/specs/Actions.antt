-- What each route does, by the method of the request.
use Rattle.std.specs.Prelude.{ℕ, Bool, List, [], ◌∷◌, codes, find, filter, bytes_eq, Option, Some, None, is_some}
use Rattle.console_routes.specs.declared.action.Method.{Method}
use Rattle.console_routes.specs.declared.action.Method.TheVariants.{Delete, Get, Post, Put}
use Rattle.console_routes.specs.declared.action.Listing.TheVariants as listing
use Rattle.console_routes.specs.declared.action.Statement.TheVariants as statement
use Rattle.console_routes.specs.declared.action.Action.{Action}
use Rattle.console_routes.specs.declared.action.Action.TheVariants as action
use Rattle.console_routes.specs.declared.route.Route.{Route}
use Rattle.console_routes.specs.declared.route.Route.TheVariants.{Classes, Due, Files, HearDhcp, HearLldp, Holds, Leases, Locals, Names, Packets, Revokes, Things, Verdicts, Why}

-- the methods' names (RFC 9110, 9.3), whose case counts
unfoldable pub text_of : Method → List ℕ
text_of Delete = codes "DELETE"
text_of Get = codes "GET"
text_of Post = codes "POST"
text_of Put = codes "PUT"

-- all methods that a route may have, by the octets of their names
abbrev pub all_methods : List Method
all_methods = Delete ∷ Get ∷ Post ∷ Put ∷ []

-- the method of a name; none for a name that no route has, as `HEAD`
unfoldable pub method_of : List ℕ → Option Method
method_of name = find (λ (method : Method). bytes_eq (text_of method) name) all_methods

abbrev pub by_method : Method → Option Action → Option Action → Option Action → Option Action
by_method Get get post delete = get
by_method Post get post delete = post
by_method Delete get post delete = delete
by_method Put get post delete = None

abbrev pub locals_action : Method → Option Action
locals_action Get = Some (action.List listing.Locals)
locals_action Put = Some (action.State statement.Locals)
locals_action Post = None
locals_action Delete = None

-- what each route does by a method: by GET, POST and DELETE, and the local networks by GET and PUT
unfoldable pub action_of : Route → Method → Option Action
action_of HearDhcp method = by_method method None (Some action.HearDhcp) None
action_of HearLldp method = by_method method None (Some action.HearLldp) None
action_of Things method = by_method method (Some (action.List listing.Things)) (Some (action.State statement.Move)) (Some (action.State statement.Remove))
action_of Holds method = by_method method None (Some (action.State statement.Hold)) (Some (action.State statement.Release))
action_of Leases method = by_method method None (Some (action.State statement.Lease)) (Some (action.State statement.EndLease))
action_of Files method = by_method method (Some (action.List listing.Files)) (Some action.Import) None
action_of Verdicts method = by_method method None (Some (action.State statement.Verdict)) None
action_of Revokes method = by_method method None (Some (action.State statement.Revoke)) None
action_of Classes method = by_method method (Some (action.List listing.Classes)) (Some (action.State statement.Bind)) (Some (action.State statement.Unbind))
action_of Locals method = locals_action method
action_of Names method = by_method method (Some (action.List listing.Names)) (Some (action.State statement.Observe)) None
action_of Packets method = by_method method None (Some action.Judge) None
action_of Due method = by_method method (Some (action.List listing.Due)) None None
action_of Why method = by_method method None (Some action.Why) None

-- the methods of a route, by the octets of their names
unfoldable pub methods_of : Route → List Method
methods_of route = filter (λ (method : Method). is_some (action_of route method)) all_methods
