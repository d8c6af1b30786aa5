-- A port of this machine and its client.
use Rattle.std.specs.Prelude.{ℕ, Bool, is_some, List, [], ◌∷◌, Option, Some, None, option_and_then}
use Rattle.std.specs.declared.time.Instant.{Instant}
use Rattle.std.specs.declared.net.ip_addr.IpAddr.{IpAddr}
use Rattle.std.specs.declared.net.ip_addr.IpAddr.TheVariants.{V4, V6}
use Rattle.std.specs.Net.Addr.{ipv4_octets, ipv6_octets}
use Rattle.io_system.specs.declared.client.Client.{Client}
use Rattle.io_system.specs.declared.port.Port.{Port}

-- the octets of an address
abbrev pub octets_of : IpAddr → List ℕ
octets_of (V4 address) = ipv4_octets address
octets_of (V6 address) = ipv6_octets address

-- 127.0.0.1: what is sent there stays on this machine
abbrev pub localhost : List ℕ
localhost = 127 ∷ 0 ∷ 0 ∷ 1 ∷ []

-- whether a client is served
abbrev pub is_served : {N S L : Type 0} → Port N S L → Bool
is_served port = is_some port.client

-- the octets of a client, where they are known, and none where no client is served
abbrev pub client_octets : {S : Type 0} → (S → Option (List ℕ)) → Option (Client S) → Option (List ℕ)
client_octets of_client None = Some []
client_octets of_client (Some client) = of_client client.stream

-- the moment of the first read of the client since it came or was last written to, if it is served and there was one
abbrev pub since_of : {N S L : Type 0} → Port N S L → Option Instant
since_of port = option_and_then (λ client. client.since) port.client
