-- The lines of `hear`. Each ends with a line feed.
use Rattle.std.specs.Prelude.{ℕ, List, ◌++◌, codes, decimal}
use Rattle.mud_base.specs.Texts.{mac_text, addr_text}
use Rattle.mud_base.specs.declared.addr.Mac.{Mac}
use Rattle.mud_base.specs.declared.addr.Addr.{Addr}
use Rattle.text_values.specs.Faults.{url_part}
use Rattle.text_values.specs.Numbers.{offset_text}
use Rattle.dhcp_lldp.specs.Heard as hear_fault
use Rattle.dhcp_lldp.specs.declared.heard.Heard.{Heard}
use Rattle.dhcp_lldp.specs.declared.heard.Heard.TheVariants.{Url, Lease, Nothing}
use Rattle.dhcp_lldp.specs.declared.heard.HearFault.{HearFault}

-- ---- What a message says

unfoldable pub heard_line : Heard → List ℕ
heard_line (Url mac url) = codes "url " ++ mac_text mac ++ codes " " ++ url ++ codes "\n"
heard_line (Lease mac addr seconds) =
    codes "lease " ++ mac_text mac ++ codes " " ++ addr_text addr ++ codes " " ++ decimal seconds ++ codes "\n"
heard_line Nothing = codes "nothing\n"

-- ---- Faults: the rule's name, then its offset where it has one

unfoldable pub fault_line : HearFault → List ℕ
fault_line fault =
    codes "fault " ++ hear_fault.name_of fault ++ offset_text (hear_fault.offset_of fault) ++ url_part (hear_fault.url_fault_of fault) ++ codes "\n"
