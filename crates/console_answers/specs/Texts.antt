-- JSON texts (RFC 8259) of values in bodies.
use Rattle.std.specs.Prelude.{ℕ, List, codes, Option, Some, None}
use Rattle.json.specs.Print.{quoted}

-- a URL, and null where there is none
unfoldable pub url_text : Option (List ℕ) → List ℕ
url_text None = codes "null"
url_text (Some url) = quoted url
