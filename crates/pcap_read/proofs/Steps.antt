-- What the octets that are held make of the packets to come.
use Rattle.std.proofs.Common.{◌≡◌, ◌⊎◌, inl, inr, ℕ, zero, suc, ◌+◌, ◌<◌, ◌≤◌, ltb, leb, Bool, true, false, cond, List, [], ◌∷◌, ◌++◌, length, take, drop, Ok, Err, refl, sym, ap, ap₂, ◌∙◌, arith, length-append, length-drop, le-ltb, lt-ltb, ltb-true, ltb-false, le-leb, leb-true, IfSome}
use borrow.Author.Tests.{lt-leb}
use Rattle.std.proofs.lemmas.List.{take-append-le, drop-append-le, drop-drop}
use Rattle.mud_base.specs.declared.number.ByteOrder.{ByteOrder}
use Rattle.pcap_read.specs.declared.fault.CapFault.{CapFault}
use Rattle.pcap_read.specs.declared.fault.CapFault.TheVariants as faults
use Rattle.pcap_read.specs.Fault.{is_cut}
use Rattle.read_buffer.specs.Packets.{Packet, whole, broken, with_packet}
use Rattle.pcap_read.specs.Packets.{Packets, captured_len, packets_from, header_of, packets_of}
use Rattle.pcap_read.specs.Parts.{body_from, is_decided}
use Rattle.std.specs.Prelude.{IsTrue}
use Rattle.std.proofs.lemmas.Bool.Decides.{nat_tests}
use Rattle.std.proofs.lemmas.Bool.{cases_Bool}
use Rattle.pcap_read.proofs.Parts.{behind_header, seconds_of}

-- The header

pub header_short : (octets : List ℕ) → length octets < 24 → packets_of octets ≡ broken (faults.Cut 0)
unfolding packets_of
header_short octets short = rw (lt-ltb (length octets) 24 short) refl

header_long : (held more : List ℕ) → 24 ≤ length held → packets_of (held ++ more) ≡ behind_header (header_of (take 24 held)) (drop 24 held ++ more)
unfolding packets_of
header_long held more long =
    rw (le-ltb (length (held ++ more)) 24 (omega (arith, length-append held more)), take-append-le 24 held more long, drop-append-le 24 held more long) refl

pub header_read : (held more : List ℕ) (order : ByteOrder) → 24 ≤ length held → Ok order ≡ header_of (take 24 held) → packets_of (held ++ more) ≡ packets_from order 0 0 24 (drop 24 held ++ more)
header_read held more order long is = header_long held more long ∙ ap (λ r. behind_header r (drop 24 held ++ more)) (sym is)

pub header_refused : (held more : List ℕ) (fault : CapFault) → 24 ≤ length held → Err fault ≡ header_of (take 24 held) → packets_of (held ++ more) ≡ broken fault
header_refused held more fault long is = header_long held more long ∙ ap (λ r. behind_header r (drop 24 held ++ more)) (sym is)

-- The rest of a packet

skipped-from : (order : ByteOrder) (skipped count offset : ℕ) (octets : List ℕ) → packets_from order skipped count offset octets ≡ packets_from order 0 count (offset + skipped) (drop skipped octets)
unfolding packets_from
skipped-from order zero count offset octets = ap (λ n. packets_from order 0 count n octets) (omega arith)
skipped-from order (suc skipped) count offset [] = refl
skipped-from order (suc skipped) count offset (octet ∷ behind) =
    skipped-from order skipped count (offset + 1) behind ∙ ap (λ n. packets_from order 0 count n (drop skipped behind)) (omega arith)

-- The head of a packet

pub head_none : (order : ByteOrder) (count offset : ℕ) → packets_from order 0 count offset [] ≡ whole
unfolding packets_from
head_none order count offset = refl

pub head_many : (order : ByteOrder) (count offset : ℕ) (octets : List ℕ) → 0 < length octets → 100000000 ≤ count → packets_from order 0 count offset octets ≡ broken faults.Many
unfolding packets_from
head_many order count offset [] some many = absurd (omega arith)
head_many order count offset (octet ∷ octets) some many = rw (le-leb 100000000 count many) refl

pub head_short : (order : ByteOrder) (count offset : ℕ) (octets : List ℕ) → 0 < length octets → length octets < 16 → count < 100000000 → packets_from order 0 count offset octets ≡ broken (faults.Cut offset)
unfolding packets_from
head_short order count offset [] some short few = absurd (omega arith)
head_short order count offset (octet ∷ octets) some short few =
    rw (lt-leb 100000000 count few, lt-ltb (length (octet ∷ octets)) 16 short) refl

pub head_long : (order : ByteOrder) (count offset : ℕ) (octets : List ℕ) → 16 ≤ length octets → count < 100000000 → 262144 < captured_len order (take 16 octets) → packets_from order 0 count offset octets ≡ broken (faults.Long offset)
unfolding packets_from
head_long order count offset [] enough few long = absurd (omega arith)
head_long order count offset (octet ∷ octets) enough few long =
    rw (lt-leb 100000000 count few, le-ltb (length (octet ∷ octets)) 16 enough, lt-ltb 262144 (captured_len order (take 16 (octet ∷ octets))) long) refl

same_test : (n m len : ℕ) → n ≡ 16 + m → (ltb m len ≡ true) ⊎ (ltb m len ≡ false) → ltb n (16 + len) ≡ ltb m len
same_test n m len is (inl below) = let short = ltb-true m len below in lt-ltb n (16 + len) (omega arith) ∙ sym below
same_test n m len is (inr beyond) = let long = ltb-false m len beyond in le-ltb n (16 + len) (omega arith) ∙ sym beyond

abbrev choice : Bool → ℕ → Packet → Packets → Packets
choice short offset first later = cond short (broken (faults.Cut offset)) (with_packet first later)

pub head_whole : (order : ByteOrder) (count offset : ℕ) (octets : List ℕ) → 16 ≤ length octets → count < 100000000 → captured_len order (take 16 octets) ≤ 262144
    → packets_from order 0 count offset octets ≡ body_from order count offset (seconds_of order (take 16 octets)) (captured_len order (take 16 octets)) (drop 16 octets)
unfolding packets_from body_from
head_whole order count offset [] enough few fits = absurd (omega arith)
head_whole order count offset (octet ∷ octets) enough few fits =
    let all = octet ∷ octets in
    let len = captured_len order (take 16 all) in
    let body = drop 16 all in
    let size : length all ≡ 16 + length body = omega (arith, length-drop 16 all) in
    let test = same_test (length all) (length body) len size (cases_Bool (ltb (length body) len)) in
    let at : offset + 1 + (15 + len) ≡ offset + 16 + len = omega arith in
    let front : 15 + len ≡ 15 + len = refl in
    let later : packets_from order (15 + len) (count + 1) (offset + 1) octets ≡ packets_from order 0 (count + 1) (offset + 16 + len) (drop len body) =
    skipped-from order (15 + len) (count + 1) (offset + 1) octets
    ∙ ap₂ (λ (n : ℕ) (rest : List ℕ). packets_from order 0 (count + 1) n rest) at (sym (drop-drop len 15 octets)) in
    rw (lt-leb 100000000 count few, le-ltb (length all) 16 enough, le-ltb 262144 len fits)
    (ap₂ (λ (short : Bool) (packets : Packets). choice short offset (record { number = count + 1; offset = offset; seconds = seconds_of order (take 16 all); octets = take len body }) packets) test later)

-- where a head isn't whole, no packet is
pub head_lacks : (order : ByteOrder) (count offset : ℕ) (octets : List ℕ) → length octets < 16 → (packets_from order 0 count offset octets).all ≡ []
unfolding packets_from
head_lacks order count offset [] short = refl
head_lacks order count offset (octet ∷ octets) short =
    elim (cases_Bool (leb 100000000 count)) [
      | inl many ↦ rw many refl
      | inr few ↦ rw (few, lt-ltb (length (octet ∷ octets)) 16 short) refl
    ]

-- octets that decide nothing are too few
pub head_waits : (order : ByteOrder) (count offset : ℕ) (octets : List ℕ) → length octets < 16 → (100000000 ≤ count → length octets < 1) → IfSome (packets_from order 0 count offset octets).fault (λ found. IsTrue (is_cut found))
unfolding packets_from
head_waits order count offset [] short beyond = tt
head_waits order count offset (octet ∷ octets) short beyond =
    elim (cases_Bool (leb 100000000 count)) [
      | inl many ↦ absurd (let none = beyond (leb-true 100000000 count many) in omega arith)
      | inr few ↦ rw (few, lt-ltb (length (octet ∷ octets)) 16 short) refl
    ]

-- Behind a head

pub body_whole : (order : ByteOrder) (count offset seconds len : ℕ) (held more : List ℕ) → len ≤ length held
    → body_from order count offset seconds len (held ++ more) ≡ with_packet (record { number = count + 1; offset = offset; seconds = seconds; octets = take len held }) (packets_from order 0 (count + 1) (offset + 16 + len) (drop len held ++ more))
unfolding body_from
body_whole order count offset seconds len held more enough =
    rw (le-ltb (length (held ++ more)) len (omega (arith, length-append held more)), take-append-le len held more enough, drop-append-le len held more enough) refl

pub body_short : (order : ByteOrder) (count offset seconds len : ℕ) (octets : List ℕ) → length octets < len → body_from order count offset seconds len octets ≡ broken (faults.Cut offset)
unfolding body_from
body_short order count offset seconds len octets short = rw (lt-ltb (length octets) len short) refl

-- Octets that tell what comes next

decided_enough-at : (order : ByteOrder) (count : ℕ) (held : List ℕ) → IsTrue (is_decided order count held) → ((count < 100000000) × (16 ≤ length held)) ⊎ ((100000000 ≤ count) × (1 ≤ length held))
unfolding is_decided
decided_enough-at order count held decided = grind (arith, nat_tests)

pub decided_enough : (order : ByteOrder) (count : ℕ) (held : List ℕ) (wanted : ℕ) → (count < 100000000 → wanted ≡ 16) → (100000000 ≤ count → wanted ≡ 1) → IsTrue (is_decided order count held) → wanted ≤ length held
decided_enough order count held wanted few many decided =
    elim (decided_enough-at order count held decided) [
      | inl below ↦ let e = few below.0 in omega arith
      | inr beyond ↦ let e = many beyond.0 in omega arith
    ]

pub decided_whole : (order : ByteOrder) (count : ℕ) (held : List ℕ) → count < 100000000 → 16 ≤ length held → captured_len order (take 16 held) ≤ 262144 → IsTrue (is_decided order count held) → captured_len order (take 16 held) ≤ length (drop 16 held)
unfolding is_decided
decided_whole order count held few enough fits decided = grind (arith, nat_tests)
