-- The paths of the routes are texts without a parameter, and the router finds each by its path alone.
use Rattle.std.proofs.Common.{◌≡◌, ℕ, ◌<◌, List, [], ◌∷◌, Some, None, Bool, true, false, cond, refl, ap, ◌∙◌, arith, ltb-true, subst}
use Rattle.std.specs.Prelude.{All, nat_lt, map, find, option_map}
use Rattle.std.specs.List.{list_all}
use Rattle.std.specs.Str.{IsUtf8}
use Rattle.std.proofs.lemmas.List.Elements.{All-nil, All-cons}
use Rattle.std.proofs.lemmas.Str.{IsUtf8-from_ascii}
use Rattle.std.proofs.lemmas.Str.Ascii.{IsAscii-from_all}
use Rattle.std.proofs.lemmas.Bool.{and_parts}
use Rattle.matchit.specs.Router.{RouteOf}
use Rattle.matchit.specs.Level.{IsText}
use Rattle.matchit.specs.Seek.{first}
use Rattle.mud_url.proofs.Offsets.{same_octets}
use Rattle.console_routes.specs.declared.route.Route.{Route}
use Rattle.console_routes.specs.declared.route.Route.TheVariants.{Classes, Due, Files, HearDhcp, HearLldp, Holds, Leases, Locals, Names, Packets, Revokes, Things, Verdicts, Why}
use Rattle.console_routes.specs.Routes.{text_of, all_routes, has_path}
use Rattle.console_routes.specs.Table.{literal, table}
use Rattle.console_routes.proofs.Literals.{row_at, AllLiteral, first_literal}

abbrev is_low : ℕ → Bool
is_low octet = nat_lt octet 128

-- each path is of ASCII
low_path : (route : Route) → list_all is_low (text_of route) ≡ true
unfolding text_of
low_path Classes = refl
low_path Due = refl
low_path Files = refl
low_path HearDhcp = refl
low_path HearLldp = refl
low_path Holds = refl
low_path Leases = refl
low_path Locals = refl
low_path Names = refl
low_path Packets = refl
low_path Revokes = refl
low_path Things = refl
low_path Verdicts = refl
low_path Why = refl

text_from : (octets : List ℕ) → list_all is_low octets ≡ true → IsText octets
text_from [] e = tt
text_from (o ∷ os) e =
    let parts = and_parts (is_low o) (list_all is_low os) e in
    let low : o < 128 = ltb-true o 128 parts.0 in
    (omega arith, text_from os parts.1)

all_low : (octets : List ℕ) → list_all is_low octets ≡ true → All (λ o. o < 128) octets
all_low [] e = All-nil (λ o. o < 128)
all_low (o ∷ os) e =
    let parts = and_parts (is_low o) (list_all is_low os) e in
    All-cons (λ o. o < 128) o os (ltb-true o 128 parts.0) (all_low os parts.1)

path_is_utf8 : (route : Route) → IsUtf8 (text_of route)
path_is_utf8 route = IsUtf8-from_ascii (text_of route) (IsAscii-from_all (text_of route) (all_low (text_of route) (low_path route)))

all_literal : (routes : List Route) → AllLiteral (map literal routes)
all_literal [] = tt
all_literal (route ∷ rest) = (text_from (text_of route) (low_path route), all_literal rest)

value_at : (path : List ℕ) (routes : List Route) → option_map (λ (r : RouteOf Route). r.value) (row_at path (map literal routes)) ≡ find (has_path path) routes
value_at path [] = refl
value_at path (route ∷ rest) = by (has_path path route) (value_at path rest)
  where
    by : (v : Bool) → option_map (λ (r : RouteOf Route). r.value) (row_at path (map literal rest)) ≡ find (has_path path) rest → option_map (λ (r : RouteOf Route). r.value) (cond v (Some (literal route).1) (row_at path (map literal rest))) ≡ cond v (Some route) (find (has_path path) rest)
    by true h = refl
    by false h = h

-- what the router finds is the route of the path
pub found_by_path : (path : List ℕ) → option_map (λ (r : RouteOf Route). r.value) (first table path) ≡ find (has_path path) all_routes
unfolding table
found_by_path path = ap (option_map (λ (r : RouteOf Route). r.value)) (first_literal (map literal all_routes) path (all_literal all_routes)) ∙ value_at path all_routes

has_no_path : (path : List ℕ) → (IsUtf8 path → ⊥) → (route : Route) (v : Bool) → has_path path route ≡ v → v ≡ false
has_no_path path bad route false e = refl
has_no_path path bad route true e = absurd (bad (subst IsUtf8 (same_octets (text_of route) path e) (path_is_utf8 route)))

none_of : (path : List ℕ) → (IsUtf8 path → ⊥) → (routes : List Route) → find (has_path path) routes ≡ None
none_of path bad [] = refl
none_of path bad (route ∷ rest) = rw (has_no_path path bad route (has_path path route) refl) (none_of path bad rest)

-- no route has a path that is no text
pub none_by_path : (path : List ℕ) → (IsUtf8 path → ⊥) → find (has_path path) all_routes ≡ None
none_by_path path bad = none_of path bad all_routes
