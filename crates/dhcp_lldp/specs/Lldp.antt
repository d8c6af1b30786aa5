-- What an LLDP frame says (IEEE 802.1AB).
use Rattle.std.specs.Prelude.{nat_lt, ◌==◌, Bool, not, ◌&&◌, List, [], ◌∷◌, ℕ, length, drop, Option, Result}
use Rattle.mud_base.specs.Faults.{row, unless}
use Rattle.mud_base.specs.Ethernet.{source_offset, type_offset, head_len}
use Rattle.mud_base.specs.Numbers.{big_16}
use Rattle.mud_base.specs.Offsets.{mac_at, is_group_at}
use Rattle.dhcp_lldp.specs.declared.heard.Heard.{Heard}
use Rattle.dhcp_lldp.specs.declared.heard.HearFault.{HearFault}
use Rattle.dhcp_lldp.specs.declared.heard.HearFault.TheVariants as faults
use Rattle.dhcp_lldp.specs.Mud.{announced}
use Rattle.dhcp_lldp.specs.Listings.{Listing}
use Rattle.dhcp_lldp.specs.Tlvs.{Tlv, listing, tlv_fault, mud_string_of}

unfoldable pub tlvs_of : List ℕ → Listing Tlv
tlvs_of frame = listing 0 head_len (drop head_len frame)

unfoldable pub lldp_of : List ℕ → Result Heard HearFault
lldp_of frame = unless (rows frame) (announced (mac_at source_offset frame) (mud_string_of (tlvs_of frame).whole))
  where
    -- The TLVs stand behind the head of an Ethernet frame (clause 7). The type of LLDP is 88-CC, and a source has an address of its
    -- own.
    is_lldp : List ℕ → Bool
    is_lldp frame = big_16 type_offset frame == 0x88CC && not (is_group_at source_offset frame)

    -- the table of faults, in its order
    rows : List ℕ → List (Option HearFault)
    rows frame =
        row (nat_lt (length frame) head_len) (faults.Cut 0)
        ∷ row (not (is_lldp frame)) faults.Hardware
        ∷ tlv_fault (tlvs_of frame)
        ∷ []
