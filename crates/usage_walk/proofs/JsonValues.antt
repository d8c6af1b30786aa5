-- The JSON value of octets is the one that they read as, where they are UTF-8.
use Rattle.std.proofs.Common.{◌≡◌, ℕ, Bool, true, false, List, None, Some, refl, if◌then◌else◌}
use Rattle.std.specs.Str.{is_utf8, IsUtf8}
use Rattle.std.proofs.lemmas.Str.{is_utf8-from_IsUtf8, IsUtf8-from_is_utf8}
use Rattle.serde_json.specs.Data.{Data}
use Rattle.serde_json.specs.Read.{read}
use Rattle.usage_walk.specs.Json.{value_in}

pub value_some : (octets : List ℕ) (d : Data) → IsUtf8 octets → read octets ≡ Some d → value_in octets ≡ Some d
unfolding value_in
value_some octets d utf8 reads = rw (is_utf8-from_IsUtf8 octets utf8) reads

none_by : (octets : List ℕ) (b : Bool) → is_utf8 octets ≡ b → (IsUtf8 octets → read octets ≡ None) → (if is_utf8 octets then read octets else None) ≡ None
none_by octets true e refused = rw e (refused (IsUtf8-from_is_utf8 octets e))
none_by octets false e refused = rw e

pub value_none : (octets : List ℕ) → (IsUtf8 octets → read octets ≡ None) → value_in octets ≡ None
unfolding value_in
value_none octets refused = none_by octets (is_utf8 octets) refl refused
