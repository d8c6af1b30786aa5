-- What DNS messages answer, computed by the definition.
use Rattle.std.specs.Prelude.{◌≡◌, ℕ, List, [], ◌∷◌, ◌++◌, length, take, replicate, codes, Ok, Err, refl}
use Rattle.mud_base.specs.declared.addr.Addr.{Addr}
use Rattle.mud_base.specs.declared.addr.Addr.TheVariants.{V4, V6}
use Rattle.dns_snoop.specs.declared.answers.Answers.{Answers}
use Rattle.dns_snoop.specs.declared.fault.DnsFault.TheVariants as faults
use Rattle.dns_snoop.specs.Messages.{answers_of}
use Rattle.dns_snoop.proofs.OnLiterals.{messages_on_literals}

-- the header of an answer to one question, with so many answers
abbrev header : ℕ → List ℕ
header answers = 0 ∷ 1 ∷ 0x81 ∷ 0x80 ∷ 0 ∷ 1 ∷ 0 ∷ answers ∷ 0 ∷ 0 ∷ 0 ∷ 0 ∷ []

-- a question of the class of the Internet
abbrev question : List ℕ → ℕ → List ℕ
question name kind = name ++ 0 ∷ kind ∷ 0 ∷ 1 ∷ []

-- an answer of that class
abbrev answer : List ℕ → ℕ → ℕ → List ℕ → List ℕ
answer owner kind ttl content = owner ++ 0 ∷ kind ∷ 0 ∷ 1 ∷ 0 ∷ 0 ∷ 0 ∷ ttl ∷ 0 ∷ length content ∷ content

-- a pointer to this offset
abbrev pointer : ℕ → List ℕ
pointer offset = 0xC0 ∷ offset ∷ []

-- the name test.example.com, whose label example stands at the offset 17 of a message that asks for it
abbrev test : List ℕ
test = 4 ∷ codes "test" ++ 7 ∷ codes "example" ++ 3 ∷ codes "com" ++ 0 ∷ []

-- the address 198.51.100.8, and the content that says it
abbrev eight : Addr
eight = V4 0xC6336408

abbrev eight_octets : List ℕ
eight_octets = 198 ∷ 51 ∷ 100 ∷ 8 ∷ []

-- test.example.com has these addresses
abbrev said : List (Addr × ℕ) → Answers
said rows = record { name = codes "test.example.com"; rows = rows }

one_address : answers_of (header 1 ++ question test 1 ++ answer (pointer 12) 1 60 eight_octets) ≡ Ok (said ((eight, 60) ∷ []))
unfolding messages_on_literals
one_address = refl

-- a.example.com is another name for it, for 30 seconds
by_an_alias : answers_of (header 2 ++ question test 1 ++ answer (pointer 12) 5 30 (1 ∷ codes "a" ++ pointer 17) ++ answer (pointer 46) 1 60 eight_octets)
    ≡ Ok (said ((eight, 30) ∷ []))
unfolding messages_on_literals
by_an_alias = refl

-- an address of the name itself behind a link is none of the alias
not_of_the_alias : answers_of (header 2 ++ question test 1 ++ answer (pointer 12) 5 30 (1 ∷ codes "a" ++ pointer 17) ++ answer (pointer 12) 1 60 eight_octets)
    ≡ Ok (said [])
unfolding messages_on_literals
not_of_the_alias = refl

-- letters of either case are one
in_upper_case : answers_of (header 1 ++ question (4 ∷ codes "TEST" ++ 7 ∷ codes "Example" ++ 3 ∷ codes "com" ++ 0 ∷ []) 1 ++ answer test 1 60 eight_octets)
    ≡ Ok (said ((eight, 60) ∷ []))
unfolding messages_on_literals
in_upper_case = refl

version_6 : answers_of (header 1 ++ question test 28 ++ answer (pointer 12) 28 60 (0x20 ∷ 1 ∷ 0x0D ∷ 0xB8 ∷ replicate 11 0 ++ 7 ∷ []))
    ≡ Ok (said ((V6 0x20010DB8000000000000000000000007, 60) ∷ []))
unfolding messages_on_literals
version_6 = refl

-- an address of a type that wasn't asked for, and one for no time
other_type : answers_of (header 1 ++ question test 28 ++ answer (pointer 12) 1 60 eight_octets) ≡ Ok (said [])
unfolding messages_on_literals
other_type = refl

no_seconds : answers_of (header 1 ++ question test 1 ++ answer (pointer 12) 1 0 eight_octets) ≡ Ok (said [])
unfolding messages_on_literals
no_seconds = refl

-- the labels a.b and com aren't the labels a, b and com
apart_by_labels : answers_of (header 1 ++ question (1 ∷ codes "a" ++ 1 ∷ codes "b" ++ 3 ∷ codes "com" ++ 0 ∷ []) 1 ++ answer (3 ∷ codes "a.b" ++ 3 ∷ codes "com" ++ 0 ∷ []) 1 60 eight_octets)
    ≡ Ok (record { name = codes "a.b.com"; rows = [] })
unfolding messages_on_literals
apart_by_labels = refl

-- ---- Faults

no_octets : answers_of [] ≡ Err (faults.Cut 0)
unfolding messages_on_literals
no_octets = refl

a_question_alone : answers_of (0 ∷ 1 ∷ 1 ∷ 0 ∷ 0 ∷ 1 ∷ replicate 6 0 ++ question test 1) ≡ Err faults.NotAnswer
unfolding messages_on_literals
a_question_alone = refl

-- the pointer at 34 leads to itself
pointer_to_itself : answers_of (header 1 ++ question test 1 ++ answer (pointer 34) 1 60 eight_octets) ≡ Err (faults.Pointer 34)
unfolding messages_on_literals
pointer_to_itself = refl

reserved_bits : answers_of (header 0 ++ question (64 ∷ []) 1) ≡ Err (faults.Label 12)
unfolding messages_on_literals
reserved_bits = refl

label_cut : answers_of (header 0 ++ take 16 test) ≡ Err (faults.Cut 25)
unfolding messages_on_literals
label_cut = refl

question_cut : answers_of (header 0 ++ test) ≡ Err (faults.Cut 12)
unfolding messages_on_literals
question_cut = refl

-- an address of three octets
short_address : answers_of (header 1 ++ question test 1 ++ answer (pointer 12) 1 60 (take 3 eight_octets)) ≡ Err (faults.Cut 34)
unfolding messages_on_literals
short_address = refl

-- a name of 255 octets with its end, and one octet more in its last label
abbrev long_name : ℕ → List ℕ
long_name last = 63 ∷ replicate 63 97 ++ 63 ∷ replicate 63 97 ++ 63 ∷ replicate 63 97 ++ last ∷ replicate last 97 ++ 0 ∷ []

longest : answers_of (header 1 ++ question (long_name 61) 5) ≡ Err (faults.Cut 271)
unfolding messages_on_literals
longest = refl

too_long : answers_of (header 1 ++ question (long_name 62) 5) ≡ Err (faults.NameLong 204)
unfolding messages_on_literals
too_long = refl
