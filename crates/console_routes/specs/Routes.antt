-- The routes of the console.
use Rattle.std.specs.Prelude.{ℕ, Bool, List, [], ◌∷◌, codes, find, bytes_eq, Option}
use Rattle.mud_url.specs.Url.{before_query}
use Rattle.console_routes.specs.declared.route.Route.{Route}
use Rattle.console_routes.specs.declared.route.Route.TheVariants.{Classes, Due, Files, HearDhcp, HearLldp, Holds, Leases, Locals, Names, Packets, Revokes, Things, Verdicts, Why}

unfoldable pub text_of : Route → List ℕ
text_of Classes = codes "/classes"
text_of Due = codes "/due"
text_of Files = codes "/files"
text_of HearDhcp = codes "/hear/dhcp"
text_of HearLldp = codes "/hear/lldp"
text_of Holds = codes "/holds"
text_of Leases = codes "/leases"
text_of Locals = codes "/locals"
text_of Names = codes "/names"
text_of Packets = codes "/packets"
text_of Revokes = codes "/revokes"
text_of Things = codes "/things"
text_of Verdicts = codes "/verdicts"
text_of Why = codes "/why"

-- all routes, by the octets of their paths
abbrev pub all_routes : List Route
all_routes = Classes ∷ Due ∷ Files ∷ HearDhcp ∷ HearLldp ∷ Holds ∷ Leases ∷ Locals ∷ Names ∷ Packets ∷ Revokes ∷ Things ∷ Verdicts ∷ Why ∷ []

abbrev pub has_path : List ℕ → Route → Bool
has_path path route = bytes_eq (text_of route) path

-- the route of a target's path, octet for octet: no percent triplet is decoded, and no slash at the end is dropped
unfoldable pub route_of : List ℕ → Option Route
route_of target = find (has_path (before_query target)) all_routes
