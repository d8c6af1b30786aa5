-- Texts that name flags of TCP (RFC 8519, 4.2, `flags`; RFC 7950, 9.7.2).
use Rattle.std.specs.Prelude.{ℕ, Bool, false, not, ◌&&◌, ◌||◌, ◌==◌, ◌-◌, nat_lt, List, [], ◌∷◌, length, map, sum, slice_index, bytes_eq, Option, Some, None, if◌then◌else◌}
use Rattle.std.specs.List.{list_any, list_all, filter, slice_split}
use Rattle.serde_json.specs.Data.{Data}
use Rattle.acl_model.specs.declared.tcp_flag.TcpFlag.{TcpFlag}
use Rattle.acl_model.specs.TcpFlags.{all_flags, word_of, bit_of}
use Rattle.usage_walk.specs.declared.fault.Rule.TheVariants as rule
use Rattle.usage_walk.specs.declared.member.Member.{Member}
use Rattle.usage_walk.specs.Reading.{Reading}
use Rattle.usage_match.specs.Texts.{meant_where_there}

-- what stands between the spaces of a text: words, and nothing where two spaces follow one another
unfoldable pub pieces : List ℕ → List (List ℕ)
pieces text = slice_split (λ c. c == 32) text

unfoldable pub is_piece : List ℕ → Bool
is_piece piece = length piece == 0 || is_flag piece
  where
    is_flag : List ℕ → Bool
    is_flag word = list_any (λ f. bytes_eq (word_of f) word) all_flags

-- how many times a text names a flag
unfoldable pub times : List ℕ → TcpFlag → ℕ
times text f = length (filter (λ piece. bytes_eq piece (word_of f)) (pieces text))

unfoldable pub begins_with_space : List ℕ → Bool
begins_with_space [] = false
begins_with_space (c ∷ more) = c == 32

-- words that are flags, each at most once, parted by one or more spaces, with no space at either end
unfoldable pub is_flag_text : List ℕ → Bool
is_flag_text text = not (begins_with_space text) && not (ends_with_space text) && (list_all is_piece (pieces text)) && not (has_repeat text)
  where
    ends_with_space : List ℕ → Bool
    ends_with_space text = slice_index text (length text - 1) == 32

    has_repeat : List ℕ → Bool
    has_repeat text = list_any (λ f. nat_lt 1 (times text f)) all_flags

unfoldable pub bit_where_named : List ℕ → TcpFlag → ℕ
bit_where_named text f = if nat_lt 0 (times text f) then bit_of f else 0

unfoldable pub flags_in : List ℕ → Option ℕ
flags_in text = if is_flag_text text then Some (octet_of text) else None
  where
    -- the octet of flags in which those that the text names are set, and no other
    octet_of : List ℕ → ℕ
    octet_of text = sum (map (bit_where_named text) all_flags)

-- an octet of flags, where it is there
unfoldable pub flags_where_there : List ℕ → Member → Data → Reading (Option ℕ)
flags_where_there path m parent = meant_where_there 0 rule.FlagText flags_in path m parent
