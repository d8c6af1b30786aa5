-- The member selectors of what an entry tests: at most six.
use Rattle.std.proofs.Common.{◌≡◌, ℕ, ◌+◌, ◌≤◌, Bool, true, false, List, ◌++◌, Option, Some, None, refl, arith}
use Rattle.std.specs.Prelude.{unwrap_or, option_map, option_to_list}
use Rattle.std.specs.List.{count_by}
use Rattle.std.proofs.lemmas.List.Sums.{sum_by-append}
use Rattle.mud_base.specs.Addresses.{PrefixParts}
use Rattle.mud_base.specs.declared.packet.Direction.{Direction}
use Rattle.acl_model.specs.declared.entry.Selector.{Selector}
use Rattle.acl_model.specs.declared.entry.Selector.TheVariants as asks
use Rattle.acl_model.specs.declared.entry.Layer.{Layer}
use Rattle.acl_model.specs.Keys.{is_member}
use Rattle.serde_json.specs.Data.{Data}
use Rattle.usage_match.specs.declared.entry_tests.ListType.{ListType}
use Rattle.usage_match.specs.declared.entry_tests.MudTests.{MudTests}
use Rattle.usage_match.specs.declared.entry_tests.IpTests.{IpTests}
use Rattle.usage_match.specs.declared.entry_tests.Tests.{Tests}
use Rattle.usage_match.specs.Matches.{where_true, thing_selectors, operator_selectors, mud_selectors, peer_network, peer_name, ip_selectors, tests_of, no_tests, matches_of, tests_at}
use Rattle.usage_walk.proofs.Always.{Always, WhereThere, always_bind, always_after, always_done, always_there}

abbrev members : List Selector → ℕ
members selectors = count_by is_member selectors

members-append : (first second : List Selector) → members (first ++ second) ≡ members first + members second
members-append first second = sum_by-append _ first second

-- one at most, and none of a near selector
one_at_most : (found : Option Selector) → members (option_to_list found) ≤ 1
unfolding is_member
one_at_most None = omega arith
one_at_most (Some (asks.Controller uri)) = omega arith
one_at_most (Some asks.MyController) = omega arith
one_at_most (Some (asks.Manufacturer host)) = omega arith
one_at_most (Some asks.SameManufacturer) = omega arith
one_at_most (Some (asks.Model url)) = omega arith
one_at_most (Some (asks.Name name)) = omega arith
one_at_most (Some asks.LocalNetworks) = omega arith
one_at_most (Some (asks.Network prefix)) = omega arith

no_local : (holds : Bool) → members (option_to_list (where_true holds asks.LocalNetworks)) ≡ 0
unfolding is_member
no_local true = refl
no_local false = refl

no_network : (found : Option PrefixParts) → members (option_to_list (option_map asks.Network found)) ≡ 0
unfolding is_member
no_network None = refl
no_network (Some prefix) = refl

two_lists : (first second : List Selector) (x y : ℕ) → members first ≤ x → members second ≤ y → members (first ++ second) ≤ x + y
two_lists first second x y few few' = omega (arith, members-append first second)

three_lists : (first second third : List Selector) (x y z : ℕ) → members first ≤ x → members second ≤ y → members third ≤ z → members ((first ++ second) ++ third) ≤ (x + y) + z
three_lists first second third x y z few few' few'' = two_lists (first ++ second) third (x + y) z (two_lists first second x y few few') few''

none : (selectors : List Selector) → members selectors ≡ 0 → members selectors ≤ 0
none selectors e = omega arith

few_of_things : (manufacturer : Option (List ℕ)) (same : Bool) (model : Option (List ℕ)) → members (thing_selectors manufacturer same model) ≤ 3
unfolding thing_selectors
few_of_things manufacturer same model =
    let first = option_map asks.Manufacturer manufacturer in
    let second = where_true same asks.SameManufacturer in
    let third = option_map asks.Model model in
    three_lists (option_to_list first) (option_to_list second) (option_to_list third) 1 1 1 (one_at_most first) (one_at_most second) (one_at_most third)

few_of_operator : (locals : Bool) (controller : Option (List ℕ)) (mine : Bool) → members (operator_selectors locals controller mine) ≤ 2
unfolding operator_selectors
few_of_operator locals controller mine =
    let first = option_to_list (where_true locals asks.LocalNetworks) in
    let second = option_map asks.Controller controller in
    let third = where_true mine asks.MyController in
    three_lists first (option_to_list second) (option_to_list third) 0 1 1 (none first (no_local locals)) (one_at_most second) (one_at_most third)

few_of_mud : (mud : MudTests) → members (mud_selectors mud) ≤ 5
unfolding mud_selectors
few_of_mud mud =
    two_lists (thing_selectors mud.manufacturer mud.same_manufacturer mud.model) (operator_selectors mud.local_networks mud.controller mud.my_controller) 3 2 (few_of_things mud.manufacturer mud.same_manufacturer mud.model) (few_of_operator mud.local_networks mud.controller mud.my_controller)

few_of_ip : (side : Direction) (ip : IpTests) → members (ip_selectors side ip) ≤ 1
unfolding ip_selectors
few_of_ip side ip =
    let first = option_to_list (option_map asks.Network (peer_network side ip)) in
    let second = option_map asks.Name (peer_name side ip) in
    two_lists first (option_to_list second) 0 1 (none first (no_network (peer_network side ip))) (one_at_most second)

abbrev pub IsFewTests : Tests → Type 0
IsFewTests tests = members tests.selectors ≤ 6

few_of_tests : (side : Direction) (mud : MudTests) (ip : IpTests) (header : Layer) → IsFewTests (tests_of side mud ip header)
unfolding tests_of
few_of_tests side mud ip header = two_lists (mud_selectors mud) (ip_selectors side ip) 5 1 (few_of_mud mud) (few_of_ip side ip)

always_matches_of : (type : ListType) (side : Direction) (path : List ℕ) (d : Data) → Always IsFewTests (matches_of type side path d)
unfolding matches_of
always_matches_of type side path d =
    always_after IsFewTests _ _ (λ _.
    always_after IsFewTests _ _ (λ parts.
    always_done IsFewTests _ (few_of_tests side parts.mud parts.ip parts.layer)))

few_or_none : (found : Option Tests) → WhereThere IsFewTests found → IsFewTests (unwrap_or found no_tests)
unfolding no_tests
few_or_none None _ = omega arith
few_or_none (Some tests) few = few

pub always_tests_at : (type : ListType) (side : Direction) (path : List ℕ) (d : Data) → Always IsFewTests (tests_at type side path d)
unfolding tests_at
always_tests_at type side path d =
    always_after IsFewTests _ _ (λ found.
    always_bind (WhereThere IsFewTests) IsFewTests _ _ (always_there IsFewTests (matches_of type side _) (always_matches_of type side _) found) (λ tests few.
    always_done IsFewTests (unwrap_or tests no_tests) (few_or_none tests few)))
