-- The networks in which the peer meets all near selectors of an entry: for each choice of one prefix for each selector, the
-- part that its prefixes have in common.
use Rattle.std.specs.Prelude.{Bool, not, ◌&&◌, nat_le, List, [], ◌∷◌, map, flat_map, filter, Option, Some, None, if◌then◌else◌}
use Rattle.std.specs.List.{filter_map, list_any}
use Rattle.std.specs.Option.{option_and_then}
use Rattle.mud_base.specs.Addresses.{prefix_holds}
use Rattle.mud_base.specs.declared.addr.Family.{Family}
use Rattle.mud_base.specs.declared.prefix.Prefix.{Prefix}
use Rattle.base_rows.specs.Sortable.{RowsAndRoom, set_rows}
use Rattle.base_rows.specs.Addresses.{prefix_sort_key}
use Rattle.acl_model.specs.declared.entry.Selector.{Selector}
use Rattle.acl_model.specs.declared.entry.Selector.TheVariants as asks
use Rattle.acl_model.specs.declared.entry.Entry.{Entry}
use Rattle.acl_model.specs.Keys.{is_member}
use Rattle.acl_model.specs.Match.{is_in_family}

-- ---- Prefixes

-- the first holds each address of the second: it fixes no more bits, and those alike
unfoldable pub holds_all : Prefix → Prefix → Bool
holds_all p q = nat_le p.len q.len && prefix_holds p q.addr

-- two prefixes have a common part only where one holds the other; it is then the longer
unfoldable pub common_part : Prefix → Prefix → Option Prefix
common_part p q = if holds_all p q then Some q else (if holds_all q p then Some p else None)

-- ---- Choices

unfoldable pub is_local_of : Family → Prefix → Bool
is_local_of family p = is_in_family family p.addr

-- the prefixes that a near selector names: any local network of the family, or its own network; a member selector names none
unfoldable pub named_by : Family → List Prefix → Selector → List Prefix
named_by family locals asks.LocalNetworks = filter (is_local_of family) locals
named_by family locals (asks.Network p) = p ∷ []
named_by family locals _ = []

unfoldable pub is_near : Selector → Bool
is_near selector = not (is_member selector)

unfoldable pub has_near : Entry → Bool
has_near entry = list_any is_near entry.selectors

-- in ascending order by address and length, each once
unfoldable pub in_order : List Prefix → List Prefix
in_order ps = set_rows prefix_sort_key ps []

-- the networks of an entry with near selectors: what each choice of a prefix that each of them names has in common
unfoldable pub near_networks : Family → List Prefix → Entry → List Prefix
near_networks family locals entry = in_order (filter_map common_of (choices (map (named_by family locals) (filter is_near entry.selectors))))
  where
    -- the common part of all prefixes of a choice of at least one
    common_of : List Prefix → Option Prefix
    common_of [] = None
    common_of (p ∷ []) = Some p
    common_of (p ∷ (q ∷ qs)) = option_and_then (common_part p) (common_of (q ∷ qs))

    -- each way to take one of each
    choices : List (List Prefix) → List (List Prefix)
    choices [] = [] ∷ []
    choices (ps ∷ pss) = flat_map (λ p. map (λ choice. p ∷ choice) (choices pss)) ps

-- ---- The same without the choices, whose number is the product of those of the prefixes: one selector at a time, from the
-- last to the first, and each network once

-- a prefix, or what it has in common with each of those of the selectors behind
unfoldable pub joined_with : Option (List Prefix) → Prefix → List Prefix
joined_with None p = p ∷ []
joined_with (Some rest) p = filter_map (common_part p) rest

-- one selector more; a member selector changes nothing
unfoldable pub joint_with : Family → List Prefix → Selector → Option (List Prefix) → Option (List Prefix)
joint_with family locals s rest = if is_member s then rest else Some (in_order (flat_map (joined_with rest) (named_by family locals s)))

-- None where no near selector is among them
unfoldable pub joint : Family → List Prefix → List Selector → Option (List Prefix)
joint family locals [] = None
joint family locals (s ∷ ss) = joint_with family locals s (joint family locals ss)

-- what each local network of the family gives
abbrev pub joined_locals : Family → List Prefix → Option (List Prefix) → List Prefix
joined_locals family locals rest = flat_map (joined_with rest) (filter (is_local_of family) locals)

-- ---- Words for contracts

abbrev pub rows_in : RowsAndRoom Prefix → List Prefix
rows_in networks = networks.rows

abbrev pub listed : Option Prefix → List Prefix
listed None = []
listed (Some p) = p ∷ []

-- the networks, where the entry has a near selector
unfoldable pub asked_networks : Family → List Prefix → Entry → Option (List Prefix)
asked_networks family locals entry = if has_near entry then Some (near_networks family locals entry) else None
