-- Texts that name flags of TCP, and the octets that they stand for.
use Rattle.std.proofs.Common.{◌≡◌, None, Some, refl}
use Rattle.std.specs.Prelude.{codes}
use Rattle.acl_model.specs.TcpFlags as flag
use Rattle.usage_match.specs.Flags.{pieces, is_piece, times, begins_with_space, is_flag_text, bit_where_named, flags_in}

unfoldable flags_on_literals : Unit {0}
unfolding flag.all_flags flag.word_of flag.bit_of pieces is_piece times begins_with_space is_flag_text bit_where_named flags_in
flags_on_literals = tt

one_flag : flags_in (codes "syn") ≡ Some 2
unfolding flags_on_literals
one_flag = refl

no_flag : flags_in (codes "") ≡ Some 0
unfolding flags_on_literals
no_flag = refl

two_spaces : flags_in (codes "ack  syn") ≡ Some 18
unfolding flags_on_literals
two_spaces = refl

all_flags : flags_in (codes "fin syn rst psh ack urg ece cwr") ≡ Some 255
unfolding flags_on_literals
all_flags = refl

another_word : flags_in (codes "syn push") ≡ None
unfolding flags_on_literals
another_word = refl

space_first : flags_in (codes " syn") ≡ None
unfolding flags_on_literals
space_first = refl

space_last : flags_in (codes "syn ") ≡ None
unfolding flags_on_literals
space_last = refl

space_alone : flags_in (codes " ") ≡ None
unfolding flags_on_literals
space_alone = refl

word_twice : flags_in (codes "syn syn") ≡ None
unfolding flags_on_literals
word_twice = refl
