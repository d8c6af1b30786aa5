-- Parts of definitions that lemmas speak of.
use Rattle.std.specs.Prelude.{ℕ, List, Option, find, option_map, Bool, [], nat_lt, ◌&&◌, ◌||◌, ◌∷◌, ◌+◌}
use Rattle.dhcp_lldp.specs.Options.{DhcpOption, has_code}
use Rattle.dhcp_lldp.specs.declared.heard.HearFault.{HearFault}
use Rattle.dhcp_lldp.specs.Tlvs.{Tlv, is_mud, is_out_of_order}
use Rattle.dhcp_lldp.specs.declared.heard.HearFault.TheVariants as faults
use Rattle.mud_base.specs.Faults.{row, row_at}

abbrev pub content_of : ℕ → List DhcpOption → Option (List ℕ)
content_of code options = option_map (λ (option : DhcpOption). option.content) (find (has_code code) options)

abbrev pub tlv_rows : ℕ → Bool → Option ℕ → List Tlv → List (Option HearFault)
tlv_rows before is_announced cut [] = row_at faults.Cut cut ∷ row (nat_lt before 3) faults.Order ∷ []
tlv_rows before is_announced cut (tlv ∷ more) =
    row (is_out_of_order before tlv) faults.Order
    ∷ row (is_announced && is_mud tlv) faults.Repeat
    ∷ tlv_rows (before + 1) (is_announced || is_mud tlv) cut more
