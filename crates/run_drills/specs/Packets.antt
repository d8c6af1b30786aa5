-- The packets of a drill, as Ethernet frames with IPv4. Their checksums are 0.
use Rattle.std.specs.Prelude.{ℕ, ◌+◌, ◌/◌, ◌%◌, ◌==◌, List, [], ◌∷◌, ◌++◌, if◌then◌else◌}
use Rattle.mud_base.specs.Texts.{octets_v4}
use Rattle.run_drills.specs.Network.{thing_count, mac_of, lease_of, host_address, dns_address}

-- the hardware address of the far side, which is no Thing's: 02:00:00:00:00:fe
abbrev pub far_mac : List ℕ
far_mac = 2 ∷ 0 ∷ 0 ∷ 0 ∷ 0 ∷ 0xFE ∷ []

unfoldable pub port_octets : ℕ → List ℕ
port_octets port = (port / 256) ∷ (port % 256) ∷ []

-- the type of IPv4, and its header up to the addresses: 40 octets in all, identification 1, a time to live of 64, TCP
abbrev pub tcp_head : List ℕ
tcp_head = 0x08 ∷ 0x00 ∷ 0x45 ∷ 0x00 ∷ 0x00 ∷ 0x28 ∷ 0x00 ∷ 0x01 ∷ 0x00 ∷ 0x00 ∷ 0x40 ∷ 0x06 ∷ 0x00 ∷ 0x00 ∷ []

-- TCP behind the ports: sequence number 1, five words of header, these flags, a window of 65,535
abbrev pub tcp_tail : ℕ → List ℕ
tcp_tail flags = 0 ∷ 0 ∷ 0 ∷ 1 ∷ 0 ∷ 0 ∷ 0 ∷ 0 ∷ 0x50 ∷ flags ∷ 0xFF ∷ 0xFF ∷ 0 ∷ 0 ∷ 0 ∷ 0 ∷ []

-- the Thing begins a connection from its port 50000 to this port of the address (SYN)
unfoldable pub call_frame : ℕ → ℕ → ℕ → List ℕ
call_frame thing address port =
    far_mac ++ (mac_of thing).0 ++ tcp_head ++ octets_v4 (lease_of thing) ++ octets_v4 address ++ port_octets 50000 ++ port_octets port ++ tcp_tail 0x02

-- the Thing's host answers a call of its port 443 (SYN and ACK)
unfoldable pub answer_frame : ℕ → List ℕ
answer_frame thing =
    (mac_of thing).0 ++ far_mac ++ tcp_head ++ octets_v4 (host_address thing) ++ octets_v4 (lease_of thing) ++ port_octets 443 ++ port_octets 50000 ++ tcp_tail 0x12

-- the Thing asks the DNS server, from its port 40000
unfoldable pub query_frame : ℕ → List ℕ
query_frame thing =
    far_mac ++ (mac_of thing).0 ++ udp_head ++ octets_v4 (lease_of thing) ++ octets_v4 dns_address ++ port_octets 40000 ++ port_octets 53 ++ udp_tail
  where
    -- the same for UDP: 28 octets in all, identification 2
    udp_head : List ℕ
    udp_head = 0x08 ∷ 0x00 ∷ 0x45 ∷ 0x00 ∷ 0x00 ∷ 0x1C ∷ 0x00 ∷ 0x02 ∷ 0x00 ∷ 0x00 ∷ 0x40 ∷ 0x11 ∷ 0x00 ∷ 0x00 ∷ []

    -- UDP behind the ports: eight octets in all
    udp_tail : List ℕ
    udp_tail = 0 ∷ 8 ∷ 0 ∷ 0 ∷ []

-- ---- The packet of a number, from 1 on, of so many

-- what a Thing does, by the remainder of the packet's number by 5
unfoldable pub frame_of_kind : ℕ → ℕ → ℕ → List ℕ
frame_of_kind packets thing kind =
    if kind == 0 then call_frame thing (host_address thing) 443
    else (if kind == 1 then call_frame thing (host_address thing) 80
    else (if kind == 2 then query_frame thing
    else (if kind == 3 then call_frame thing (lease_of (neighbour_of packets thing)) 443
    else answer_frame thing)))
  where
    -- the Thing whose address a Thing calls in place of its host's
    neighbour_of : ℕ → ℕ → ℕ
    neighbour_of packets thing = (thing + 7) % thing_count packets + 1

unfoldable pub packet_frame : ℕ → ℕ → List ℕ
packet_frame packets number = frame_of_kind packets (thing_of packets number) (number % 5)
  where
    -- the Thing that it is of
    thing_of : ℕ → ℕ → ℕ
    thing_of packets number = 1 + number % thing_count packets

-- it comes so many seconds after the moment 1000 of the commands
abbrev pub packet_moment : ℕ → ℕ
packet_moment number = 1000 + number
