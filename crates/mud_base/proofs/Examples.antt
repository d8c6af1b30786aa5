-- Texts that are written out, as they are read and written.
use Rattle.std.specs.Prelude.{◌≡◌, ℕ, true, false, List, [], ◌∷◌, codes, Option, Some, None, option_map, refl}
use Rattle.std.specs.declared.cmp.Ordering.TheVariants.{Less, Greater}
use Rattle.mud_base.specs.declared.addr.Addr.TheVariants.{V4, V6}
use Rattle.mud_base.specs.Addresses.{addr_cmp, prefix_holds}
use Rattle.mud_base.specs.Reading.{mac_in, addr_in, prefix_in, moment_in}
use Rattle.mud_base.specs.Texts.{mac_text, addr_text, prefix_text}
use Rattle.mud_base.proofs.OnLiterals.{texts_on_literals}

-- the text as it is written once it was read
abbrev rewritten : List ℕ → Option (List ℕ)
rewritten text = option_map addr_text (addr_in text)

abbrev prefix_rewritten : List ℕ → Option (List ℕ)
prefix_rewritten text = option_map prefix_text (prefix_in text)

-- RFC 5952, 4.1: leading zeros are left out
leading_zeros : rewritten (codes "2001:0db8::0001") ≡ Some (codes "2001:db8::1")
unfolding texts_on_literals
leading_zeros = refl

-- 4.2.1: `::` stands for as many groups as it can
as_short_as_can_be : rewritten (codes "2001:db8:0:0:0:0:2:1") ≡ Some (codes "2001:db8::2:1")
unfolding texts_on_literals
as_short_as_can_be = refl

-- 4.2.2: it stands for more than one group
one_group_of_zero : rewritten (codes "2001:db8::1:1:1:1:1") ≡ Some (codes "2001:db8:0:1:1:1:1:1")
unfolding texts_on_literals
one_group_of_zero = refl

-- 4.2.3: it stands for the longest run of zeros, and of two such runs for the first
longest_run : rewritten (codes "2001:0:0:1:0:0:0:1") ≡ Some (codes "2001:0:0:1::1")
unfolding texts_on_literals
longest_run = refl

first_run : rewritten (codes "2001:db8:0:0:1:0:0:1") ≡ Some (codes "2001:db8::1:0:0:1")
unfolding texts_on_literals
first_run = refl

-- 4.3: letters are lowered
lower_case : rewritten (codes "2001:DB8::ABCD") ≡ Some (codes "2001:db8::abcd")
unfolding texts_on_literals
lower_case = refl

-- an IPv4 text at the end is read, and not written
mapped : rewritten (codes "::FFFF:192.0.2.1") ≡ Some (codes "::ffff:c000:201")
unfolding texts_on_literals
mapped = refl

-- RFC 4291, 2.2: the preferred form, and the compressed one
whole : addr_in (codes "ABCD:EF01:2345:6789:ABCD:EF01:2345:6789") ≡ Some (V6 0xABCD_EF01_2345_6789_ABCD_EF01_2345_6789)
unfolding texts_on_literals
whole = refl

unicast : addr_in (codes "2001:DB8:0:0:8:800:200C:417A") ≡ Some (V6 0x2001_0DB8_0000_0000_0008_0800_200C_417A)
unfolding texts_on_literals
unicast = refl

unicast_compressed : addr_in (codes "2001:DB8::8:800:200C:417A") ≡ Some (V6 0x2001_0DB8_0000_0000_0008_0800_200C_417A)
unfolding texts_on_literals
unicast_compressed = refl

multicast : addr_in (codes "FF01:0:0:0:0:0:0:101") ≡ Some (V6 0xFF01_0000_0000_0000_0000_0000_0000_0101)
unfolding texts_on_literals
multicast = refl

multicast_compressed : addr_in (codes "FF01::101") ≡ Some (V6 0xFF01_0000_0000_0000_0000_0000_0000_0101)
unfolding texts_on_literals
multicast_compressed = refl

loopback : addr_in (codes "0:0:0:0:0:0:0:1") ≡ Some (V6 1)
unfolding texts_on_literals
loopback = refl

loopback_compressed : addr_in (codes "::1") ≡ Some (V6 1)
unfolding texts_on_literals
loopback_compressed = refl

unspecified : addr_in (codes "0:0:0:0:0:0:0:0") ≡ Some (V6 0)
unfolding texts_on_literals
unspecified = refl

unspecified_compressed : addr_in (codes "::") ≡ Some (V6 0)
unfolding texts_on_literals
unspecified_compressed = refl

compatible : addr_in (codes "0:0:0:0:0:0:13.1.68.3") ≡ Some (V6 0x0D01_4403)
unfolding texts_on_literals
compatible = refl

compatible_compressed : addr_in (codes "::13.1.68.3") ≡ Some (V6 0x0D01_4403)
unfolding texts_on_literals
compatible_compressed = refl

mapped_form : addr_in (codes "0:0:0:0:0:FFFF:129.144.52.38") ≡ Some (V6 0xFFFF_8190_3426)
unfolding texts_on_literals
mapped_form = refl

mapped_form_compressed : addr_in (codes "::FFFF:129.144.52.38") ≡ Some (V6 0xFFFF_8190_3426)
unfolding texts_on_literals
mapped_form_compressed = refl

-- what no form has
two_gaps : addr_in (codes "1::2::3") ≡ None
unfolding texts_on_literals
two_gaps = refl

no_group_left : addr_in (codes "1:2:3:4:5:6:7::8") ≡ None
unfolding texts_on_literals
no_group_left = refl

nine_groups : addr_in (codes "1:2:3:4:5:6:7:8:9") ≡ None
unfolding texts_on_literals
nine_groups = refl

five_digits : addr_in (codes "12345::") ≡ None
unfolding texts_on_literals
five_digits = refl

zone : addr_in (codes "fe80::1%1") ≡ None
unfolding texts_on_literals
zone = refl

open_end : addr_in (codes "1:2:3:4:5:6:7:") ≡ None
unfolding texts_on_literals
open_end = refl

ipv4_within : addr_in (codes "::1.2.3.4:5") ≡ None
unfolding texts_on_literals
ipv4_within = refl

nothing : addr_in (codes "") ≡ None
unfolding texts_on_literals
nothing = refl

-- an IPv4 text has no leading zero
dotted : addr_in (codes "192.0.2.1") ≡ Some (V4 0xC000_0201)
unfolding texts_on_literals
dotted = refl

all_ones : rewritten (codes "255.255.255.255") ≡ Some (codes "255.255.255.255")
unfolding texts_on_literals
all_ones = refl

leading_zero : addr_in (codes "192.0.02.1") ≡ None
unfolding texts_on_literals
leading_zero = refl

above_255 : addr_in (codes "192.0.2.256") ≡ None
unfolding texts_on_literals
above_255 = refl

three_numbers : addr_in (codes "192.0.2") ≡ None
unfolding texts_on_literals
three_numbers = refl

dot_behind : addr_in (codes "192.0.2.1.") ≡ None
unfolding texts_on_literals
dot_behind = refl

-- RFC 4291, 2.3: three texts of one prefix, and those that are none of it
prefix_whole : prefix_in (codes "2001:0DB8:0000:CD30:0000:0000:0000:0000/60") ≡ Some (record { addr = V6 0x2001_0DB8_0000_CD30_0000_0000_0000_0000; len = 60 })
unfolding texts_on_literals
prefix_whole = refl

prefix_front : prefix_in (codes "2001:0DB8::CD30:0:0:0:0/60") ≡ Some (record { addr = V6 0x2001_0DB8_0000_CD30_0000_0000_0000_0000; len = 60 })
unfolding texts_on_literals
prefix_front = refl

prefix_back : prefix_in (codes "2001:0DB8:0:CD30::/60") ≡ Some (record { addr = V6 0x2001_0DB8_0000_CD30_0000_0000_0000_0000; len = 60 })
unfolding texts_on_literals
prefix_back = refl

prefix_short : prefix_in (codes "2001:0DB8:0:CD3/60") ≡ None
unfolding texts_on_literals
prefix_short = refl

prefix_other : prefix_in (codes "2001:0DB8::CD30/60") ≡ Some (record { addr = V6 0x2001_0DB8_0000_0000_0000_0000_0000_0000; len = 60 })
unfolding texts_on_literals
prefix_other = refl

prefix_another : prefix_in (codes "2001:0DB8::CD3/60") ≡ Some (record { addr = V6 0x2001_0DB8_0000_0000_0000_0000_0000_0000; len = 60 })
unfolding texts_on_literals
prefix_another = refl

-- host bits are cleared
host_bits : prefix_in (codes "192.0.2.130/25") ≡ Some (record { addr = V4 0xC000_0280; len = 25 })
unfolding texts_on_literals
host_bits = refl

no_bits : prefix_in (codes "192.0.2.130/0") ≡ Some (record { addr = V4 0; len = 0 })
unfolding texts_on_literals
no_bits = refl

all_bits : prefix_in (codes "192.0.2.130/32") ≡ Some (record { addr = V4 0xC000_0282; len = 32 })
unfolding texts_on_literals
all_bits = refl

all_bits_v6 : prefix_in (codes "::1/128") ≡ Some (record { addr = V6 1; len = 128 })
unfolding texts_on_literals
all_bits_v6 = refl

prefix_written : prefix_rewritten (codes "192.0.2.130/24") ≡ Some (codes "192.0.2.0/24")
unfolding texts_on_literals
prefix_written = refl

-- what no prefix has
length_33 : prefix_in (codes "192.0.2.0/33") ≡ None
unfolding texts_on_literals
length_33 = refl

length_129 : prefix_in (codes "::/129") ≡ None
unfolding texts_on_literals
length_129 = refl

length_08 : prefix_in (codes "10.0.0.0/08") ≡ None
unfolding texts_on_literals
length_08 = refl

no_length : prefix_in (codes "10.0.0.0/") ≡ None
unfolding texts_on_literals
no_length = refl

no_slash : prefix_in (codes "10.0.0.0") ≡ None
unfolding texts_on_literals
no_slash = refl

two_slashes : prefix_in (codes "10.0.0.0/8/8") ≡ None
unfolding texts_on_literals
two_slashes = refl

-- the last address of a prefix, and the one behind it
holds_last : prefix_holds (record { addr = V4 0xC000_0200; len = 24 }) (V4 0xC000_02FF) ≡ true
unfolding texts_on_literals
holds_last = refl

holds_no_more : prefix_holds (record { addr = V4 0xC000_0200; len = 24 }) (V4 0xC000_0300) ≡ false
unfolding texts_on_literals
holds_no_more = refl

holds_all : prefix_holds (record { addr = V6 0; len = 0 }) (V6 0xFFFF_FFFF_FFFF_FFFF_FFFF_FFFF_FFFF_FFFF) ≡ true
unfolding texts_on_literals
holds_all = refl

holds_its_version : prefix_holds (record { addr = V6 0; len = 0 }) (V4 1) ≡ false
unfolding texts_on_literals
holds_its_version = refl

-- hardware addresses, of either case and written in lower case
mac_either_case : mac_in (codes "0a:00:27:Fe:bC:4D") ≡ Some (record { 0 = 0x0A ∷ 0x00 ∷ 0x27 ∷ 0xFE ∷ 0xBC ∷ 0x4D ∷ [] })
unfolding texts_on_literals
mac_either_case = refl

mac_written : mac_text (record { 0 = 0x0A ∷ 0x00 ∷ 0x27 ∷ 0xFE ∷ 0xBC ∷ 0x4D ∷ [] }) ≡ codes "0a:00:27:fe:bc:4d"
unfolding texts_on_literals
mac_written = refl

mac_dashes : mac_in (codes "0a-00-27-fe-bc-4d") ≡ None
unfolding texts_on_literals
mac_dashes = refl

mac_five : mac_in (codes "0a:00:27:fe:bc") ≡ None
unfolding texts_on_literals
mac_five = refl

mac_not_hex : mac_in (codes "0a:00:27:fe:bc:4g") ≡ None
unfolding texts_on_literals
mac_not_hex = refl

mac_long : mac_in (codes "0a:00:27:fe:bc:4d:") ≡ None
unfolding texts_on_literals
mac_long = refl

-- moments
first_moment : moment_in (codes "0") ≡ Some 0
unfolding texts_on_literals
first_moment = refl

last_moment : moment_in (codes "253402300799") ≡ Some 253402300799
unfolding texts_on_literals
last_moment = refl

behind_the_last : moment_in (codes "253402300800") ≡ None
unfolding texts_on_literals
behind_the_last = refl

two_zeros : moment_in (codes "00") ≡ None
unfolding texts_on_literals
two_zeros = refl

signed : moment_in (codes "+1") ≡ None
unfolding texts_on_literals
signed = refl

no_digit : moment_in (codes "") ≡ None
unfolding texts_on_literals
no_digit = refl

-- IPv4 stands before IPv6
v4_first : addr_cmp (V4 0xFFFF_FFFF) (V6 0) ≡ Less
unfolding texts_on_literals
v4_first = refl

by_number : addr_cmp (V6 2) (V6 1) ≡ Greater
unfolding texts_on_literals
by_number = refl
