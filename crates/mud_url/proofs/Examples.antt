-- Readings of octets that are written out.
use Rattle.std.specs.Prelude.{◌≡◌, ℕ, true, false, List, [], ◌∷◌, ◌++◌, codes, replicate, Some, None, Ok, Err, refl}
use Rattle.mud_url.specs.declared.fault.UrlFault.TheVariants.{Empty, Octet, Scheme, Host, Port, Path, UserInfo, Fragment, Long}
use Rattle.mud_url.specs.Host.{host_name_of}
use Rattle.mud_url.specs.Url.{url_of, string_of, host_of, is_canonical}
use Rattle.mud_url.proofs.OnLiterals.{url_on_literals}

-- the URL of RFC 8520, 9
rfc_8520 : url_of (codes "https://lighting.example.com/lightbulb2000") ≡ Ok (codes "https://lighting.example.com/lightbulb2000")
unfolding url_on_literals
rfc_8520 = refl

-- each fault, with its offset
nothing : url_of (codes "") ≡ Err Empty
unfolding url_on_literals
nothing = refl

not_graphic : url_of (codes "https://a/b c") ≡ Err (Octet 11)
unfolding url_on_literals
not_graphic = refl

beyond_ascii : url_of (codes "https://a/" ++ 128 ∷ []) ≡ Err (Octet 10)
unfolding url_on_literals
beyond_ascii = refl

no_scheme : url_of (codes "http://a/") ≡ Err Scheme
unfolding url_on_literals
no_scheme = refl

no_host : url_of (codes "https:///b") ≡ Err Host
unfolding url_on_literals
no_host = refl

empty_label : url_of (codes "https://a..b/") ≡ Err Host
unfolding url_on_literals
empty_label = refl

trailing_dot : url_of (codes "https://a./") ≡ Err Host
unfolding url_on_literals
trailing_dot = refl

hyphen_first : url_of (codes "https://-a/") ≡ Err Host
unfolding url_on_literals
hyphen_first = refl

hyphen_last : url_of (codes "https://a-.b/") ≡ Err Host
unfolding url_on_literals
hyphen_last = refl

port_above : url_of (codes "https://a:65536/") ≡ Err Port
unfolding url_on_literals
port_above = refl

port_zero : url_of (codes "https://a:0/") ≡ Err Port
unfolding url_on_literals
port_zero = refl

port_leading_zero : url_of (codes "https://a:080/") ≡ Err Port
unfolding url_on_literals
port_leading_zero = refl

port_letters : url_of (codes "https://a:b/") ≡ Err Port
unfolding url_on_literals
port_letters = refl

path_octet : url_of (codes "https://a/b<c") ≡ Err (Path 11)
unfolding url_on_literals
path_octet = refl

broken_triplet : url_of (codes "https://a/%4g") ≡ Err (Path 10)
unfolding url_on_literals
broken_triplet = refl

cut_triplet : url_of (codes "https://a/b%4") ≡ Err (Path 11)
unfolding url_on_literals
cut_triplet = refl

query_octet : url_of (codes "https://a/?[") ≡ Err (Path 11)
unfolding url_on_literals
query_octet = refl

user : url_of (codes "https://user@a/") ≡ Err UserInfo
unfolding url_on_literals
user = refl

fragment : url_of (codes "https://a/#b") ≡ Err Fragment
unfolding url_on_literals
fragment = refl

-- of several faults the first in the order of the table
fragment_before_user : url_of (codes "https://user@a/#b") ≡ Err Fragment
unfolding url_on_literals
fragment_before_user = refl

user_before_host : url_of (codes "https://user@-/") ≡ Err UserInfo
unfolding url_on_literals
user_before_host = refl

host_before_port : url_of (codes "https://-:x/") ≡ Err Host
unfolding url_on_literals
host_before_port = refl

octet_before_scheme : url_of (codes "http://a ") ≡ Err (Octet 8)
unfolding url_on_literals
octet_before_scheme = refl

-- an `@` behind the authority is no user
at_in_path : url_of (codes "https://a/@") ≡ Ok (codes "https://a/@")
unfolding url_on_literals
at_in_path = refl

-- the canonical text
port_443 : url_of (codes "https://a:443/b") ≡ Ok (codes "https://a/b")
unfolding url_on_literals
port_443 = refl

empty_port : url_of (codes "https://a:/b") ≡ Ok (codes "https://a/b")
unfolding url_on_literals
empty_port = refl

other_port : url_of (codes "https://a:8443/b") ≡ Ok (codes "https://a:8443/b")
unfolding url_on_literals
other_port = refl

last_port : url_of (codes "https://a:65535") ≡ Ok (codes "https://a:65535/")
unfolding url_on_literals
last_port = refl

upper_case : url_of (codes "HTTPS://Light.EXAMPLE.com/A?B") ≡ Ok (codes "https://light.example.com/A?B")
unfolding url_on_literals
upper_case = refl

empty_path : url_of (codes "https://a") ≡ Ok (codes "https://a/")
unfolding url_on_literals
empty_path = refl

empty_query : url_of (codes "https://a?") ≡ Ok (codes "https://a/?")
unfolding url_on_literals
empty_query = refl

query : url_of (codes "https://a/b?c?d=/") ≡ Ok (codes "https://a/b?c?d=/")
unfolding url_on_literals
query = refl

kept_as_written : url_of (codes "https://a/../%7e/./") ≡ Ok (codes "https://a/../%7e/./")
unfolding url_on_literals
kept_as_written = refl

underscore : url_of (codes "https://_a-1/") ≡ Ok (codes "https://_a-1/")
unfolding url_on_literals
underscore = refl

-- labels of 63 and 64 octets, hosts of 253 and 254
label_of_63 : url_of (codes "https://" ++ replicate 63 97) ≡ Ok (codes "https://" ++ replicate 63 97 ++ codes "/")
unfolding url_on_literals
label_of_63 = refl

label_of_64 : url_of (codes "https://" ++ replicate 64 97) ≡ Err Host
unfolding url_on_literals
label_of_64 = refl

-- three labels of 63 octets, and one of so many
long_host : ℕ → List ℕ
long_host last = replicate 63 97 ++ 46 ∷ replicate 63 97 ++ 46 ∷ replicate 63 97 ++ 46 ∷ replicate last 97

host_of_253 : host_name_of (long_host 61) ≡ Some (long_host 61)
unfolding url_on_literals long_host
host_of_253 = refl

host_of_253_and_dot : host_name_of (long_host 61 ++ 46 ∷ []) ≡ Some (long_host 61)
unfolding url_on_literals long_host
host_of_253_and_dot = refl

host_of_254 : host_name_of (long_host 62) ≡ None
unfolding url_on_literals long_host
host_of_254 = refl

-- host names
name_lowered : host_name_of (codes "Test.Example.COM") ≡ Some (codes "test.example.com")
unfolding url_on_literals
name_lowered = refl

name_with_dot : host_name_of (codes "a.b.") ≡ Some (codes "a.b")
unfolding url_on_literals
name_with_dot = refl

name_with_two_dots : host_name_of (codes "a..") ≡ None
unfolding url_on_literals
name_with_two_dots = refl

dot_alone : host_name_of (codes ".") ≡ None
unfolding url_on_literals
dot_alone = refl

no_name : host_name_of (codes "") ≡ None
unfolding url_on_literals
no_name = refl

name_with_port : host_name_of (codes "a:1") ≡ None
unfolding url_on_literals
name_with_port = refl

-- 255 octets and 256
long_url : ℕ → List ℕ
long_url n = codes "https://a/" ++ replicate n 98

of_255 : url_of (long_url 245) ≡ Ok (long_url 245)
unfolding url_on_literals long_url
of_255 = refl

of_256 : url_of (long_url 246) ≡ Err Long
unfolding url_on_literals long_url
of_256 = refl

-- MUD strings: one zero octet at the end, and what follows a space
string_zero : string_of (codes "https://a/" ++ 0 ∷ []) ≡ Ok (codes "https://a/")
unfolding url_on_literals
string_zero = refl

string_two_zeros : string_of (codes "https://a/" ++ 0 ∷ 0 ∷ []) ≡ Err (Octet 10)
unfolding url_on_literals
string_two_zeros = refl

string_space : string_of (codes "https://a/ b <") ≡ Ok (codes "https://a/")
unfolding url_on_literals
string_space = refl

string_space_first : string_of (codes " https://a/") ≡ Err Empty
unfolding url_on_literals
string_space_first = refl

string_zero_inside : string_of (codes "https://a/" ++ 0 ∷ codes " b") ≡ Err (Octet 10)
unfolding url_on_literals
string_zero_inside = refl

string_of_255_and_zero : string_of (long_url 245 ++ 0 ∷ []) ≡ Ok (long_url 245)
unfolding url_on_literals long_url
string_of_255_and_zero = refl

string_of_256 : string_of (codes "https://a/ " ++ replicate 245 98) ≡ Err Long
unfolding url_on_literals
string_of_256 = refl

-- canonical texts, among them one of 256 octets
canonical_text : is_canonical (codes "https://a/?b") ≡ true
unfolding url_on_literals
canonical_text = refl

not_lowered : is_canonical (codes "https://A/?b") ≡ false
unfolding url_on_literals
not_lowered = refl

path_missing : is_canonical (codes "https://a?b") ≡ false
unfolding url_on_literals
path_missing = refl

default_port : is_canonical (codes "https://a:443/") ≡ false
unfolding url_on_literals
default_port = refl

no_url : is_canonical (codes "https://a/<") ≡ false
unfolding url_on_literals
no_url = refl

canonical_256 : is_canonical (codes "https://a/?" ++ replicate 245 98) ≡ true
unfolding url_on_literals
canonical_256 = refl

not_canonical_256 : is_canonical (codes "https://a/" ++ replicate 246 98) ≡ false
unfolding url_on_literals
not_canonical_256 = refl

not_canonical_257 : is_canonical (codes "https://a/?" ++ replicate 246 98) ≡ false
unfolding url_on_literals
not_canonical_257 = refl

-- the host of a URL
host_of_text : host_of (codes "https://a.b:8443/c?d:e") ≡ codes "a.b"
unfolding url_on_literals
host_of_text = refl
