-- What the definitions say of the first Things and packets.
use Rattle.std.proofs.Common.{◌≡◌, [], ◌∷◌, codes, refl}
use Rattle.mud_base.specs.Texts.{octets_v4}
use Rattle.frame_view.proofs.Hex.{from_hex}
use Rattle.mud_base.proofs.OnLiterals.{texts_on_literals}
use Rattle.run_drills.specs.Network.{thing_count, file_count, mac_of, lease_of, usage_url, host_text, host_address}
use Rattle.run_drills.specs.Packets.{port_octets, call_frame, answer_frame, query_frame, frame_of_kind, packet_frame, packet_moment}

-- ---- The network

url_of_first : usage_url 1 ≡ codes "https://maker1.example.com/model1"
unfolding usage_url texts_on_literals
url_of_first = refl

-- the models' numbers go on behind those of the makers
url_of_tenth : usage_url 42 ≡ codes "https://maker2.example.com/model10"
unfolding usage_url texts_on_literals
url_of_tenth = refl

host_of_last : host_text 256 ≡ codes "host0.example.com"
unfolding host_text texts_on_literals
host_of_last = refl

address_of_host : host_address 33 ≡ 0xC6336401
unfolding host_address
address_of_host = refl

mac_of_last : (mac_of 256).0 ≡ 2 ∷ 0 ∷ 0 ∷ 1 ∷ 1 ∷ 0 ∷ []
unfolding mac_of
mac_of_last = refl

lease_of_last : lease_of 256 ≡ 0x0A000100
unfolding lease_of
lease_of_last = refl

no_more_things : thing_count 100000 ≡ 256
no_more_things = refl

no_more_files : file_count 100000 ≡ 32
no_more_files = refl

-- ---- The packets of five

-- the first is of the second Thing: its host isn't called at port 80 by its usage file
first : packet_frame 5 1 ≡ from_hex (codes "0200000000fe 020000010002 0800 45000028 00010000 40060000 0a000002 c6336402 c3500050 00000001 00000000 5002ffff 00000000")
unfolding packet_frame frame_of_kind call_frame mac_of lease_of host_address port_octets octets_v4
first = refl

-- a query of the third
second : packet_frame 5 2 ≡ from_hex (codes "0200000000fe 020000010003 0800 4500001c 00020000 40110000 0a000003 c0000235 9c400035 00080000")
unfolding packet_frame frame_of_kind query_frame mac_of lease_of host_address port_octets octets_v4
second = refl

-- the fourth calls the second
third : packet_frame 5 3 ≡ from_hex (codes "0200000000fe 020000010004 0800 45000028 00010000 40060000 0a000004 0a000002 c35001bb 00000001 00000000 5002ffff 00000000")
unfolding packet_frame frame_of_kind call_frame mac_of lease_of host_address port_octets octets_v4
third = refl

-- the host of the fifth answers it
fourth : packet_frame 5 4 ≡ from_hex (codes "020000010005 0200000000fe 0800 45000028 00010000 40060000 c6336405 0a000005 01bbc350 00000001 00000000 5012ffff 00000000")
unfolding packet_frame frame_of_kind answer_frame mac_of lease_of host_address port_octets octets_v4
fourth = refl

-- the first calls its host
fifth : packet_frame 5 5 ≡ from_hex (codes "0200000000fe 020000010001 0800 45000028 00010000 40060000 0a000001 c6336401 c35001bb 00000001 00000000 5002ffff 00000000")
unfolding packet_frame frame_of_kind call_frame mac_of lease_of host_address port_octets octets_v4
fifth = refl

moment_of_fifth : packet_moment 5 ≡ 1005
moment_of_fifth = refl
