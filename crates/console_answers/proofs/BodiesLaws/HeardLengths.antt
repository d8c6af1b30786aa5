-- The bodies of what was heard fit into the buffer.
use Rattle.std.proofs.Common.{◌≡◌, ℕ, ◌+◌, ◌-◌, ◌*◌, ◌/◌, ◌%◌, ◌^◌, ◌<◌, ◌≤◌, Bool, true, false, List, [], ◌∷◌, ◌++◌, length, take, drop, lit≤, lit<, arith, length-append, length-take, length-drop, refl, ◌∙◌}
use Rattle.std.specs.Prelude.{codes, decimal, flat_map, slice_index, if◌then◌else◌, nat_lt}
use Rattle.std.specs.Net.Text.{hex, leading_zero_digits, groups_text, longest_zero_run, hex_groups_text, ipv4_text, dotted_text}
use Rattle.std.specs.Char.{digit_char}
use Rattle.std.proofs.lemmas.Fmt.{length-decimal-le}
use Rattle.json.specs.Print.{quoted}
use Rattle.item_codec.specs.Word.{text_of}
use Rattle.mud_base.specs.declared.addr.Mac.{Mac}
use Rattle.mud_base.specs.declared.addr.Addr.{Addr}
use Rattle.mud_base.specs.declared.addr.Addr.TheVariants.{V4, V6}
use Rattle.mud_base.specs.Texts.{hex_pair, mac_text, octets_v4, addr_text}
use Rattle.console_answers.specs.Kept.{kept}
use Rattle.console_answers.proofs.KeptLemmas.{kept_short, short_quoted}
use Rattle.dhcp_lldp.specs.declared.heard.Heard.{Heard}
use Rattle.dhcp_lldp.specs.declared.heard.Heard.TheVariants.{Url, Lease, Nothing}
use Rattle.desk_model.specs.declared.reply.Outcome.{Outcome}
use Rattle.console_answers.specs.Bodies.Outcomes.{until_text, EndFits}
use Rattle.console_answers.specs.Bodies.Heards.{nothing_body, heard_url_body, lease_end, heard_lease_body, heard_body, HeardFits}
use Rattle.console_answers.proofs.BodiesLaws.Lengths.{short_quoted_word, short_until}
use Rattle.mud_base.proofs.Parts.{groups_v6, colon_pair}

-- ---- Addresses

short_pairs : (octets : List ℕ) → length (flat_map colon_pair octets) ≤ 3 * length octets
unfolding hex_pair
short_pairs [] = lit≤ tt
short_pairs (o ∷ octets) = omega (arith, short_pairs octets, length-append (colon_pair o) (flat_map colon_pair octets))

short_mac : (mac : Mac) → length mac.0 ≤ 6 → length (mac_text mac) ≤ 20
unfolding mac_text hex_pair
short_mac mac six = omega (arith, six, short_pairs (drop 1 mac.0), length-drop 1 mac.0, length-append (hex_pair (slice_index mac.0 0)) (flat_map colon_pair (drop 1 mac.0)))

short_octet : (n : ℕ) → n < 256 → length (decimal n) ≤ 20
short_octet n fits = length-decimal-le 20 n (lit< tt) (omega arith) (omega arith)

short_dotted : (a b c d : ℕ) → a < 256 → b < 256 → c < 256 → d < 256 → length (dotted_text a b c d) ≤ 83
short_dotted a b c d la lb lc ld =
    let da = decimal a in
    let db = da ++ codes "." ++ decimal b in
    let dc = db ++ codes "." ++ decimal c in
    omega (
      arith,
      short_octet a la,
      short_octet b lb,
      short_octet c lc,
      short_octet d ld,
      length-append da (codes "."),
      length-append (da ++ codes ".") (decimal b),
      length-append db (codes "."),
      length-append (db ++ codes ".") (decimal c),
      length-append dc (codes "."),
      length-append (dc ++ codes ".") (decimal d),
    )

short_v4 : (n : ℕ) → length (ipv4_text (octets_v4 n)) ≤ 83
unfolding octets_v4
short_v4 n = short_dotted (slice_index (octets_v4 n) 0) (slice_index (octets_v4 n) 1) (slice_index (octets_v4 n) 2) (slice_index (octets_v4 n) 3) (omega arith) (omega arith) (omega arith) (omega arith)

short_drop : (k a b c d : ℕ) → length (drop k (a ∷ b ∷ c ∷ d ∷ [])) ≤ 4
short_drop k a b c d = omega (arith, length-drop k (a ∷ b ∷ c ∷ d ∷ []))

short_hex : (n : ℕ) → length (hex n) ≤ 4
unfolding hex
short_hex n = short_drop (leading_zero_digits n) (digit_char (n / 0x1000)) (digit_char (n / 0x100 % 16)) (digit_char (n / 0x10 % 16)) (digit_char (n % 16))

short_rest : (groups : List ℕ) → length (flat_map (λ t. codes ":" ++ hex t) groups) ≤ 5 * length groups
short_rest [] = lit≤ tt
short_rest (g ∷ groups) = omega (arith, short_rest groups, short_hex g, length-append (codes ":" ++ hex g) (flat_map (λ t. codes ":" ++ hex t) groups))

short_groups : (groups : List ℕ) → length (groups_text groups) ≤ 5 * length groups
short_groups [] = lit≤ tt
short_groups (g ∷ groups) = omega (arith, short_rest groups, short_hex g, length-append (hex g) (flat_map (λ t. codes ":" ++ hex t) groups))

short_compressed_by : (is_run : Bool) (groups : List ℕ) (front behind : ℕ) → length (if is_run then groups_text (take front groups) ++ codes "::" ++ groups_text (drop behind groups) else groups_text groups) ≤ 10 * length groups + 2
short_compressed_by true groups front behind =
    omega (
      arith,
      short_groups (take front groups),
      short_groups (drop behind groups),
      length-take front groups,
      length-drop behind groups,
      length-append (groups_text (take front groups)) (codes "::"),
      length-append (groups_text (take front groups) ++ codes "::") (groups_text (drop behind groups)),
    )
short_compressed_by false groups front behind = omega (arith, short_groups groups)

short_v6 : (groups : List ℕ) → length (hex_groups_text groups) ≤ 10 * length groups + 2
unfolding hex_groups_text
short_v6 groups =
    let run = longest_zero_run groups in
    short_compressed_by (nat_lt 1 run.1) groups run.0 (run.0 + run.1)

eight_groups : (n : ℕ) → length (groups_v6 n) ≡ 8
eight_groups n = refl

short_addr : (a : Addr) → length (addr_text a) ≤ 83
unfolding addr_text
short_addr (V4 n) = short_v4 n
short_addr (V6 n) = omega (arith, short_v6 (groups_v6 n), eight_groups n)

-- ---- Bodies

short_heard_url : (mac url : List ℕ) (o : Outcome) → length mac ≤ 100 → length url ≤ 256 → length (heard_url_body mac url o) ≤ 4096
unfolding heard_url_body
short_heard_url mac url o lm lu =
    let a = codes "{\"heard\":\"url\",\"mac\":" in
    let b = a ++ quoted mac in
    let c = b ++ codes ",\"result\":" in
    let d = c ++ quoted (text_of o.word) in
    let e = d ++ codes ",\"url\":" in
    omega (
      arith,
      lm,
      lu,
      short_quoted mac,
      short_quoted url,
      short_quoted_word o.word,
      length-append a (quoted mac),
      length-append b (codes ",\"result\":"),
      length-append c (quoted (text_of o.word)),
      length-append d (codes ",\"url\":"),
      length-append e (quoted url),
      length-append (e ++ quoted url) (codes "}"),
    )

short_lease_end : (o : Outcome) → EndFits o.until → length (lease_end o) ≤ 200
unfolding lease_end
short_lease_end o fits =
    let a = codes ",\"result\":" in
    let b = a ++ quoted (text_of o.word) in
    let c = b ++ codes ",\"until\":" in
    omega (
      arith,
      short_quoted_word o.word,
      short_until o.until fits,
      length-append a (quoted (text_of o.word)),
      length-append b (codes ",\"until\":"),
      length-append c (until_text o.until),
      length-append (c ++ until_text o.until) (codes "}"),
    )

short_heard_lease : (address mac : List ℕ) (o : Outcome) → length address ≤ 100 → length mac ≤ 100 → EndFits o.until → length (heard_lease_body address mac o) ≤ 4096
unfolding heard_lease_body
short_heard_lease address mac o la lm fits =
    let a = codes "{\"address\":" in
    let b = a ++ quoted address in
    let c = b ++ codes ",\"heard\":\"lease\",\"mac\":" in
    omega (
      arith,
      la,
      lm,
      short_quoted mac,
      short_quoted address,
      short_lease_end o fits,
      length-append a (quoted address),
      length-append b (codes ",\"heard\":\"lease\",\"mac\":"),
      length-append c (quoted mac),
      length-append (c ++ quoted mac) (lease_end o),
    )

heard_fits : (heard : Heard) (o : Outcome) → HeardFits heard → EndFits o.until → length (heard_body heard o) ≤ 4096
unfolding heard_body nothing_body
heard_fits (Url mac url) o fits ends = short_heard_url (mac_text mac) url o (omega (arith, short_mac mac fits.0)) fits.1
heard_fits (Lease mac address seconds) o fits ends = short_heard_lease (addr_text address) (mac_text mac) o (omega (arith, short_addr address)) (omega (arith, short_mac mac fits)) ends
heard_fits Nothing o fits ends = lit≤ tt

pub heard_kept : (heard : Heard) (o : Outcome) → HeardFits heard → EndFits o.until → kept ([] ++ heard_body heard o) ≡ heard_body heard o
heard_kept heard o fits ends = kept_short (heard_body heard o) (heard_fits heard o fits ends)
