-- The octet of differentiated services (RFC 2474, 3): IPv4's type of service, IPv6's traffic class.
use Rattle.std.specs.Prelude.{ℕ, ◌/◌, ◌%◌}

-- the codepoint, its upper six bits
unfoldable pub codepoint : ℕ → ℕ
codepoint octet = octet / 4

-- explicit congestion notification, its lower two bits (RFC 3168, 5)
unfoldable pub congestion : ℕ → ℕ
congestion octet = octet % 4
