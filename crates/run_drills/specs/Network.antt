-- The made network of a drill. Its Things are numbered from 1 on. Those whose numbers leave the same remainder by 32 are of one
-- model: they have one MUD URL, one usage file, and one host with which they speak.
use Rattle.std.specs.Prelude.{ℕ, ◌+◌, ◌/◌, ◌%◌, min, List, [], ◌∷◌, ◌++◌, codes, decimal}
use Rattle.mud_base.specs.declared.addr.Mac.{Mac}

-- with so many packets there are as many Things, but at most 256
abbrev pub thing_count : ℕ → ℕ
thing_count packets = min packets 256

-- and as many usage files, but at most 32
abbrev pub file_count : ℕ → ℕ
file_count packets = min (thing_count packets) 32

-- the number of a Thing's model
abbrev pub model_of : ℕ → ℕ
model_of thing = thing % 32

-- 02:00:00:01, and the two octets of the Thing's number
unfoldable pub mac_of : ℕ → Mac
mac_of thing = record { 0 = 2 ∷ 0 ∷ 0 ∷ 1 ∷ (thing / 256) ∷ (thing % 256) ∷ [] }

-- the IPv4 address that a Thing has by lease: 10.0.0.0 plus its number
unfoldable pub lease_of : ℕ → ℕ
lease_of thing = 0x0A000000 + thing

unfoldable pub usage_url : ℕ → List ℕ
usage_url thing = codes "https://maker" ++ decimal (thing % 8) ++ codes ".example.com/model" ++ decimal (model_of thing)

-- the name of the host with which a Thing speaks, and its IPv4 address: 198.51.100.0 plus the number of the model
unfoldable pub host_text : ℕ → List ℕ
host_text thing = codes "host" ++ decimal (model_of thing) ++ codes ".example.com"

unfoldable pub host_address : ℕ → ℕ
host_address thing = 0xC6336400 + model_of thing

-- the IPv4 address of the DNS server: 192.0.2.53
abbrev pub dns_address : ℕ
dns_address = 0xC0000235
