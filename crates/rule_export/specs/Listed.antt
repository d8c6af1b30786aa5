-- The access list of a URL and a side with addresses alone, as the tables stand at a moment: the entries of the approved file
-- and then the default ones, each with the networks that stand for its selectors.
use Rattle.std.specs.Prelude.{ℕ, ◌+◌, Bool, true, false, ◌&&◌, List, [], ◌∷◌, ◌++◌, map, flat_map, filter, Option, Some, None, if◌then◌else◌}
use Rattle.std.specs.List.{list_all}
use Rattle.mud_base.specs.Addresses.{addr_bits}
use Rattle.mud_base.specs.declared.addr.Addr.{Addr}
use Rattle.mud_base.specs.declared.addr.Family.{Family}
use Rattle.mud_base.specs.declared.addr.Family.TheVariants as family
use Rattle.mud_base.specs.declared.packet.Direction.{Direction}
use Rattle.mud_base.specs.declared.prefix.Prefix.{Prefix}
use Rattle.acl_model.specs.declared.entry.Entry.{Entry}
use Rattle.acl_model.specs.declared.entry.Policy.{Policy}
use Rattle.acl_model.specs.declared.ruling.DefaultRule.TheVariants.{Dns, Ntp}
use Rattle.acl_model.specs.Keys.{is_membered}
use Rattle.acl_model.specs.Match.{is_in_family}
use Rattle.acl_model.specs.Defaults.{default_entry}
use Rattle.acl_model.specs.FirstMatch.{file_entries}
use Rattle.table_model.specs.declared.thing.Thing.{Thing}
use Rattle.table_model.specs.declared.bind.ClassRow.{ClassRow}
use Rattle.table_model.specs.declared.bind.NameRow.{NameRow}
use Rattle.table_model.specs.Tables.{Tables, meets}
use Rattle.rule_export.specs.Networks.{has_near, in_order, near_networks}
use Rattle.rule_export.specs.declared.item.RuleNumber.{RuleNumber}
use Rattle.rule_export.specs.declared.item.RuleNumber.TheVariants as rule
use Rattle.rule_export.specs.declared.item.Resolved.{Resolved}

-- ---- Items

-- an entry of the first is for packets of the second
unfoldable pub covers : Family → Family → Bool
covers family.Both f = true
covers family.V4 family.V4 = true
covers family.V6 family.V6 = true
covers _ _ = false

-- an item for each network, numbered from `k` on
unfoldable pub items_from : RuleNumber → ℕ → List (Option Prefix) → List Resolved
items_from r k [] = []
items_from r k (network ∷ networks) = record { rule = r; number = k; network = network } ∷ items_from r (k + 1) networks

-- an item, and the entry that it comes from
pub record ListItem : Type 0 where
  pub item : Resolved
  pub entry : Entry

abbrev pub item_of : ListItem → Resolved
item_of listed = listed.item

-- ---- The addresses that stand in the tables: of leases, of classes and of names, whether their expiries are live or not

unfoldable pub table_addrs : Tables → List Addr
table_addrs tables =
    flat_map (λ (thing : Thing). map (λ r. r.0) thing.leases) tables.things
    ++ flat_map (λ (row : ClassRow). row.addrs) tables.classes
    ++ flat_map (λ (row : NameRow). map (λ r. r.0) row.addrs) tables.names

-- the network of an address alone
unfoldable pub addr_network : Addr → Prefix
addr_network a = record { addr = a; len = addr_bits a }

-- ---- The list

-- by these tables, at this moment, for this URL and packets of this IP version
module _ (tables : Tables) (now : ℕ) (url : List ℕ) (version : Family) where
  -- the address is of the version and meets each selector of the entry
  unfoldable pub is_listed : Entry → Addr → Bool
  is_listed entry a = is_in_family version a && list_all (λ selector. meets tables now url selector a) entry.selectors

  -- With a member selector: the addresses that are listed, each of which stands in the tables. Else, with near selectors: what each
  -- choice of one prefix for each of them has in common. Else no network, since every address will do.
  unfoldable pub listed_networks : Entry → List (Option Prefix)
  listed_networks entry =
      if is_membered entry then map Some (in_order (map addr_network (filter (is_listed entry) (table_addrs tables))))
      else (if has_near entry then map Some (near_networks version tables.locals entry) else None ∷ [])

  unfoldable pub listed_items : RuleNumber → Entry → List ListItem
  listed_items r entry = if covers entry.family version then map (λ item. record { item = item; entry = entry }) (items_from r 1 (listed_networks entry)) else []

  -- the entries of a file, numbered from `n` on
  unfoldable pub listed_file : ℕ → List Entry → List ListItem
  listed_file n [] = []
  listed_file n (entry ∷ entries) = listed_items (rule.File n) entry ++ listed_file (n + 1) entries

  -- the whole list, where this is the policy of the URL's approved file
  unfoldable pub listed_of : Option Policy → Direction → List ListItem
  listed_of policy side =
      listed_file 1 (file_entries side policy)
      ++ (listed_items (rule.Default Dns) (default_entry Dns side) ++ listed_items (rule.Default Ntp) (default_entry Ntp side))
