-- The text of an octet of flags of TCP (RFC 8519, 4.2, `flags`; RFC 7950, 9.7.2): the words of those that are set.
use Rattle.std.specs.Prelude.{ℕ, ◌/◌, ◌%◌, ◌==◌, Bool, true, not, ◌&&◌, List, [], ◌∷◌, ◌++◌, codes, if◌then◌else◌}
use Rattle.acl_model.specs.declared.tcp_flag.TcpFlag.{TcpFlag}
use Rattle.acl_model.specs.TcpFlags.{all_flags, word_of, bit_of}
use Rattle.rule_export.specs.Objects.{quoted}

unfoldable pub is_set : ℕ → TcpFlag → Bool
is_set octet flag = octet / bit_of flag % 2 == 1

unfoldable pub words_text : Bool → ℕ → List TcpFlag → List ℕ
words_text first octet [] = []
words_text first octet (f ∷ fs) = flag_text first octet f ++ words_text (first && not (is_set octet f)) octet fs
  where
    -- the word of a flag that is set, behind a space unless it is the first
    flag_text : Bool → ℕ → TcpFlag → List ℕ
    flag_text first octet flag = if is_set octet flag then (if first then word_of flag else codes " " ++ word_of flag) else []

-- from the highest bit to the lowest
unfoldable pub flags_text : ℕ → List ℕ
flags_text octet = quoted (words_text true octet all_flags)
