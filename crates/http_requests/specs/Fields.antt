-- What the fields of a head say (RFC 9110, section 5). A field is here its name and its value, without the white space around it.
use Rattle.std.specs.Prelude.{ℕ, ◌==◌, Bool, ◌&&◌, nat_le, List, [], ◌∷◌, length, map, if◌then◌else◌}
use Rattle.std.specs.List.{list_any, list_all, slice_split}
use Rattle.std.specs.Char.{is_ascii_digit}
use Rattle.std.specs.Str.{str_eq_ignore_ascii_case}
use Rattle.httparse.specs.Grammar.{RequestHead, trim_ows}
use Rattle.httparse.specs.Spans.{name_and_value}

-- the fields of a head, in order
abbrev pub fields_of : RequestHead → List (List ℕ × List ℕ)
fields_of head = map name_and_value head.fields

-- Names are compared without regard to the case of letters (5.1).
abbrev pub is_named : List ℕ → List ℕ × List ℕ → Bool
is_named name field = str_eq_ignore_ascii_case field.0 name

-- whether there is a field of the name
abbrev pub has_field : List ℕ → List (List ℕ × List ℕ) → Bool
has_field name fields = list_any (is_named name) fields

-- the values of the fields of the name, in order
abbrev pub values_of : List ℕ → List (List ℕ × List ℕ) → List (List ℕ)
values_of name [] = []
values_of name (f ∷ fs) = if is_named name f then f.1 ∷ values_of name fs else values_of name fs

-- whether a field of the name has the word in its list
abbrev pub lists_word : List ℕ → List ℕ → List (List ℕ × List ℕ) → Bool
lists_word name word fields = list_any (λ f. is_named name f && has_element word f.1) fields
  where
    -- whether a list of words with commas between them has the word, in any case (5.6.1)
    has_element : List ℕ → List ℕ → Bool
    has_element word value = list_any (λ part. str_eq_ignore_ascii_case (trim_ows part) word) (slice_split (λ c. c == 44) value)

-- whether a field of the name has this value, in any case
abbrev pub has_value : List ℕ → List ℕ → List (List ℕ × List ℕ) → Bool
has_value name value fields = list_any (λ f. is_named name f && str_eq_ignore_ascii_case f.1 value) fields

-- a length is 1 to 10 decimal digits
abbrev pub is_length : List ℕ → Bool
is_length text = nat_le 1 (length text) && nat_le (length text) 10 && list_all is_ascii_digit text
