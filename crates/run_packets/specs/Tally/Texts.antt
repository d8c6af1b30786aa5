-- The lines of a tally. Each ends with a line feed.
use Rattle.std.specs.Prelude.{ℕ, List, [], ◌∷◌, ◌++◌, codes, flat_map, Option, Some, None}
use Rattle.mud_base.specs.Texts.{mac_text, addr_text}
use Rattle.mud_base.specs.declared.addr.Mac.{Mac}
use Rattle.mud_base.specs.declared.packet.Direction.{Direction}
use Rattle.mud_base.specs.declared.packet.Direction.TheVariants.{From, To}
use Rattle.text_values.specs.Numbers.{number_text}
use Rattle.desk_model.specs.Texts.Verdicts.{ruling_text}
use Rattle.drop_ledger.specs.declared.rows.CountRow.{CountRow}
use Rattle.drop_ledger.specs.declared.rows.DeniedRow.{DeniedRow}
use Rattle.drop_ledger.specs.declared.rows.OtherRow.{OtherRow}
use Rattle.drop_ledger.specs.declared.totals.Totals.{Totals}

unfoldable pub side_name : Direction → List ℕ
side_name From = codes " from"
side_name To = codes " to"

-- the Thing and the side that it is on
unfoldable pub thing_text : Mac → Direction → List ℕ
thing_text mac side = codes " " ++ mac_text mac ++ side_name side

-- a name, and a number behind a space
unfoldable pub total_text : List ℕ → ℕ → List ℕ
total_text name number = name ++ number_text number

-- the Thing, the side, the ruling, and how often it was given
unfoldable pub count_line : CountRow → List ℕ
count_line row = codes "count" ++ thing_text row.mac row.side ++ codes " " ++ ruling_text row.ruling ++ number_text row.count ++ codes "\n"

-- a missing port is a dash
unfoldable pub port_text : Option ℕ → List ℕ
port_text None = codes " -"
port_text (Some port) = number_text port

-- the Thing, the side, the peer, the protocol, the peer's port, and how many packets
unfoldable pub denied_line : DeniedRow → List ℕ
denied_line row =
    codes "denied" ++ thing_text row.mac row.side ++ codes " " ++ addr_text row.peer ++ number_text row.protocol
    ++ port_text row.port ++ number_text row.count ++ codes "\n"

-- the Thing, the side, and how many packets there were of peers, protocols and ports that have no line
unfoldable pub others_line : OtherRow → List ℕ
others_line row = codes "denied" ++ thing_text row.mac row.side ++ codes " others" ++ number_text row.count ++ codes "\n"

-- how many packets there were; on how many no ruling was given, by their verdicts; how many pass and are dropped by rulings, and on how
-- many two were given
unfoldable pub totals_line : Totals → List ℕ
totals_line t =
    flat_map total_of (
    (codes "packets", t.packets)
    ∷ (codes " unmanaged", t.unmanaged)
    ∷ (codes " link", t.link)
    ∷ (codes " unreadable", t.unreadable)
    ∷ (codes " pass", t.pass)
    ∷ (codes " drop", t.drop)
    ∷ (codes " both", t.both)
    ∷ [])
    ++ codes "\n"
  where
    total_of : List ℕ × ℕ → List ℕ
    total_of row = total_text row.0 row.1

-- the line of an hour, and those of the counts in it; nothing where there is no hour
unfoldable pub hour_lines : Option ℕ → List CountRow → List ℕ
hour_lines None rows = []
hour_lines (Some hour) rows = hour_line hour ++ flat_map count_line rows
  where
    -- the hour: whole hours since 1970
    hour_line : ℕ → List ℕ
    hour_line hour = total_text (codes "hour") hour ++ codes "\n"

-- the lines at the end: what was denied, then the others of each Thing and side, then the totals
unfoldable pub end_lines : List DeniedRow → List OtherRow → Totals → List ℕ
end_lines denied others totals = flat_map denied_line denied ++ flat_map others_line others ++ totals_line totals
