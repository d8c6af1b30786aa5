-- The flags of TCP, and the words that name them (RFC 8519, 4.2, `flags`; RFC 9293, 3.1).
use Rattle.std.specs.Prelude.{ℕ, List, [], ◌∷◌, codes}
use Rattle.acl_model.specs.declared.tcp_flag.TcpFlag.{TcpFlag}
use Rattle.acl_model.specs.declared.tcp_flag.TcpFlag.TheVariants.{Cwr, Ece, Urg, Ack, Psh, Rst, Syn, Fin}

-- from the highest bit of the octet to the lowest
unfoldable pub all_flags : List TcpFlag
all_flags = Cwr ∷ Ece ∷ Urg ∷ Ack ∷ Psh ∷ Rst ∷ Syn ∷ Fin ∷ []

unfoldable pub word_of : TcpFlag → List ℕ
word_of Cwr = codes "cwr"
word_of Ece = codes "ece"
word_of Urg = codes "urg"
word_of Ack = codes "ack"
word_of Psh = codes "psh"
word_of Rst = codes "rst"
word_of Syn = codes "syn"
word_of Fin = codes "fin"

-- what a flag stands for in the octet
unfoldable pub bit_of : TcpFlag → ℕ
bit_of Cwr = 128
bit_of Ece = 64
bit_of Urg = 32
bit_of Ack = 16
bit_of Psh = 8
bit_of Rst = 4
bit_of Syn = 2
bit_of Fin = 1
