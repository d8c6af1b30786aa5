-- The bodies of the answers to what was heard of a Thing.
use Rattle.std.specs.Prelude.{ℕ, ◌≤◌, List, [], ◌++◌, length, codes}
use Rattle.json.specs.Print.{quoted}
use Rattle.item_codec.specs.Word.{text_of}
use Rattle.mud_base.specs.Texts.{mac_text, addr_text}
use Rattle.dhcp_lldp.specs.declared.heard.Heard.{Heard}
use Rattle.dhcp_lldp.specs.declared.heard.Heard.TheVariants.{Url, Lease, Nothing}
use Rattle.desk_model.specs.declared.reply.Outcome.{Outcome}
use Rattle.console_answers.specs.declared.bodies.heard.HeardTexts.{HeardTexts}
use Rattle.console_answers.specs.Bodies.Outcomes.{until_text}

unfoldable pub texts_of : Heard → HeardTexts
texts_of (Url mac url) = record { mac = mac_text mac; address = [] }
texts_of (Lease mac address seconds) = record { mac = mac_text mac; address = addr_text address }
texts_of Nothing = record { mac = []; address = [] }

unfoldable pub nothing_body : List ℕ
nothing_body = codes "{\"heard\":\"nothing\"}"

unfoldable pub heard_url_body : List ℕ → List ℕ → Outcome → List ℕ
heard_url_body mac url o = codes "{\"heard\":\"url\",\"mac\":" ++ quoted mac ++ codes ",\"result\":" ++ quoted (text_of o.word) ++ codes ",\"url\":" ++ quoted url ++ codes "}"

unfoldable pub lease_end : Outcome → List ℕ
lease_end o = codes ",\"result\":" ++ quoted (text_of o.word) ++ codes ",\"until\":" ++ until_text o.until ++ codes "}"

unfoldable pub heard_lease_body : List ℕ → List ℕ → Outcome → List ℕ
heard_lease_body address mac o = codes "{\"address\":" ++ quoted address ++ codes ",\"heard\":\"lease\",\"mac\":" ++ quoted mac ++ lease_end o

-- what became of what was heard, with what was said
unfoldable pub heard_body : Heard → Outcome → List ℕ
heard_body (Url mac url) o = heard_url_body (mac_text mac) url o
heard_body (Lease mac address seconds) o = heard_lease_body (addr_text address) (mac_text mac) o
heard_body Nothing o = nothing_body

-- ---- What the types say

-- a hardware address has six octets, and a URL at most 256
abbrev pub HeardFits : Heard → Type 0
HeardFits (Url mac url) = (length mac.0 ≤ 6) × (length url ≤ 256)
HeardFits (Lease mac address seconds) = length mac.0 ≤ 6
HeardFits Nothing = Unit {0}
