-- Parts of definitions that lemmas speak of.
use Rattle.std.specs.Prelude.{ℕ, Bool, List, ◌==◌, codes, ◌||◌, ◌∷◌, ◌++◌, [], nat_lt, ◌&&◌}
use Rattle.mud_world.specs.Door.{Connection}
use Rattle.http_requests.specs.Visits.{Visit}
use Rattle.http_requests.specs.Ends.{is_read_failed, is_write_failed}
use Rattle.std.specs.List.{list_any, slice_split}
use Rattle.std.specs.Str.{str_eq_ignore_ascii_case}
use Rattle.httparse.specs.Grammar.{trim_ows}
use Rattle.http_requests.specs.Fields.{lists_word, has_value}

abbrev pub after_of : Visit → Connection
after_of v = v.after

abbrev pub before_of : Visit → Connection
before_of v = v.before

abbrev pub failed_to_read : Visit → Bool
failed_to_read v = is_read_failed v.end

abbrev pub failed_to_write : Visit → Bool
failed_to_write v = is_write_failed v.end

abbrev pub has_element : List ℕ → List ℕ → Bool
has_element word value = list_any (λ part. str_eq_ignore_ascii_case (trim_ows part) word) (slice_split (λ c. c == 44) value)

abbrev pub closes_by : ℕ → List (List ℕ × List ℕ) → Bool
closes_by minor fields = minor == 0 || lists_word (codes "connection") (codes "close") fields

abbrev pub continue_octets : List ℕ
continue_octets = codes "HTTP/1.1 100 Continue" ++ 13 ∷ 10 ∷ 13 ∷ 10 ∷ []

abbrev pub awaits_by : ℕ → ℕ → List (List ℕ × List ℕ) → Bool
awaits_by minor body_len fields = minor == 1 && nat_lt 0 body_len && has_value (codes "expect") (codes "100-continue") fields
