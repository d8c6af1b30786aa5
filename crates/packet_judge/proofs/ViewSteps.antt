-- The steps of a ruling on the view of a URL are those that all rows tell.
use Rattle.std.proofs.Common.{◌≡◌, ℕ, ◌+◌, ◌^◌, ◌<◌, List, length, filter, Option, Some, None, refl, ap, arith}
use Rattle.std.specs.Option.{option_map_or}
use Rattle.mud_base.specs.declared.packet.Direction.{Direction}
use Rattle.acl_model.specs.Match.{peer_of}
use Rattle.acl_model.specs.Defaults.{default_policy}
use Rattle.acl_model.specs.declared.entry.Policy.{Policy}
use Rattle.acl_rows.specs.declared.row.Owner.{Owner}
use Rattle.acl_rows.specs.declared.row.Owner.TheVariants.{Default}
use Rattle.acl_rows.specs.declared.row.Row.{Row}
use Rattle.acl_rows.specs.Rows.{Slots, Holder, default_held}
use Rattle.acl_rows.specs.View.{Part, View, is_at, rows_at, holder_from, IsPartOf, IsFilePart, IsViewOf}
use Rattle.acl_rows.proofs.Parts.{side_few}
use Rattle.packet_judge.specs.ByRows.{Asked, peer_rows}
use Rattle.packet_judge.specs.RuleSteps.{file_rows, least_steps, part_steps, file_steps, most_steps, IsFoundWithin, FitsRows, rows_of_peer, holder_rows_read, url_rows_read, holder_steps, url_steps}

-- ---- One part

part_rows_read : (rows : List Row) (side : Direction) (asked : Asked) (h : Holder) (part : Part) → IsPartOf rows side h.0 h.1.policy part → length (peer_rows asked part) ≡ holder_rows_read rows side (peer_of side asked.fields) h
unfolding peer_rows rows_at rows_of_peer holder_rows_read
part_rows_read rows side asked h part is = λ i. length (filter (is_at (peer_of (is.side_is i) asked.fields)) (is.rows_are i))

part_steps_taken : (rows : List Row) (side : Direction) (asked : Asked) (b : ℕ) (h : Holder) (part : Part) → IsPartOf rows side h.0 h.1.policy part → part_steps asked b part ≡ holder_steps rows side (peer_of side asked.fields) b h
unfolding part_steps holder_steps
part_steps_taken rows side asked b h part is = λ i. part_rows_read rows side asked h part is i + b + length (is.wide i)

default_steps : (rows : List Row) (side : Direction) (asked : Asked) (b : ℕ) (part : Part) → IsPartOf rows side Default default_policy part → part_steps asked b part ≡ holder_steps rows side (peer_of side asked.fields) b (Default, default_held)
unfolding default_held
default_steps rows side asked b part is = part_steps_taken rows side asked b (Default, default_held) part is

part_within : (rows : List Row) (side : Direction) (owner : Owner) (policy : Policy) (b : ℕ) (part : Part) → IsPartOf rows side owner policy part → length rows < 2 ^ b → part.among < 2 ^ b
part_within rows side owner policy b part is few = omega (arith, is.among, ap length is.rows_are, side_few owner side rows)

-- ---- The file's part, where there is one

file_within : (rows : List Row) (side : Direction) (b : ℕ) (o : Option Holder) (file : Option Part) → IsFilePart rows side o file → length rows < 2 ^ b → IsFoundWithin b file
file_within rows side b None None is few = tt
file_within rows side b None (Some part) is few = absurd is
file_within rows side b (Some h) None is few = absurd is
file_within rows side b (Some h) (Some part) is few = part_within rows side h.0 h.1.policy b part is few

file_rows_read : (rows : List Row) (side : Direction) (asked : Asked) (o : Option Holder) (file : Option Part) → IsFilePart rows side o file → file_rows asked file ≡ option_map_or (holder_rows_read rows side (peer_of side asked.fields)) o 0
unfolding file_rows
file_rows_read rows side asked None None is = refl
file_rows_read rows side asked None (Some part) is = absurd is
file_rows_read rows side asked (Some h) None is = absurd is
file_rows_read rows side asked (Some h) (Some part) is = part_rows_read rows side asked h part is

file_steps_taken : (rows : List Row) (side : Direction) (asked : Asked) (b : ℕ) (o : Option Holder) (file : Option Part) → IsFilePart rows side o file → file_steps asked b file ≡ option_map_or (holder_steps rows side (peer_of side asked.fields) b) o 0
unfolding file_steps
file_steps_taken rows side asked b None None is = refl
file_steps_taken rows side asked b None (Some part) is = absurd is
file_steps_taken rows side asked b (Some h) None is = absurd is
file_steps_taken rows side asked b (Some h) (Some part) is = part_steps_taken rows side asked b h part is

-- ---- The view

module _ (slots : Slots) (rows : List Row) (url : List ℕ) (side : Direction) (view : View) where
  pub fits : (b : ℕ) → IsViewOf slots rows url side view → length rows < 2 ^ b → FitsRows b view
  fits b is few = record {
    file = file_within rows side b (holder_from url 0 slots) view.file is.file few;
    defaults = part_within rows side Default default_policy b view.defaults is.defaults few;
  }

  pub least : (asked : Asked) → IsViewOf slots rows url side view → least_steps asked view ≡ url_rows_read slots rows url side (peer_of side asked.fields)
  unfolding least_steps url_rows_read
  least asked is = file_rows_read rows side asked (holder_from url 0 slots) view.file is.file

  pub most : (asked : Asked) (b : ℕ) → IsViewOf slots rows url side view → most_steps asked b view ≡ url_steps slots rows url side (peer_of side asked.fields) b
  unfolding most_steps url_steps
  most asked b is = λ i. file_steps_taken rows side asked b (holder_from url 0 slots) view.file is.file i + default_steps rows side asked b view.defaults is.defaults i
