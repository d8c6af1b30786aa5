-- Where reading leaves off: with a fault, or with what stands behind the header, a head or a packet.
use Rattle.std.proofs.Common.{◌≡◌, ℕ, ◌<◌, ◌≤◌, List, [], ◌++◌, length, take, drop, Some, Ok, Err, refl, sym, ap, ap₂, subst, ◌∙◌, arith, length-append, append-nil}
use Rattle.std.proofs.lemmas.List.{take-append-le, drop-append-le}
use Rattle.mud_world.specs.Door.{DoorState}
use Rattle.mud_base.specs.declared.number.ByteOrder.{ByteOrder}
use Rattle.pcap_read.specs.declared.fault.CapFault.{CapFault}
use Rattle.pcap_read.specs.declared.fault.CapFault.TheVariants as faults
use Rattle.pcap_read.specs.declared.head.Head.{Head}
use Rattle.pcap_read.specs.declared.stage.Cursor.{Cursor}
use Rattle.read_buffer.specs.Packets.{Packet, broken}
use Rattle.pcap_read.specs.Packets.{Packets, captured_len, packets_from, header_of, packets_of}
use Rattle.std.specs.Prelude.{IsTrue}
use Rattle.pcap_read.specs.Parts.{is_decided, body_from, packets_at, behind_head, behind_packet}
use Rattle.read_buffer.specs.Reading.{Fetched, Follows, behind}
use Rattle.pcap_read.specs.Fault.{is_cut}
use Rattle.pcap_read.specs.Reading.{EndsIn}
use Rattle.read_buffer.proofs.Readings.{follows, follows_more, ends, ends_more, fails, AreOnlyCut}
use Rattle.pcap_read.proofs.Steps.{header_short, header_read, header_refused, head_many, head_short, head_long, head_whole, head_lacks, head_waits, body_whole, body_short, decided_whole}
use Rattle.pcap_read.proofs.Parts.{seconds_of}

all_of : Packets → List Packet
all_of packets = packets.all

module _ (h k : List ℕ) (s t : DoorState) (f : Fetched h k s t) where
  -- The header

  pub header_failed : length k < 24 → EndsIn faults.ReadFault (behind packets_of h) s t
  unfolding all_of
  header_failed short =
      let here = header_short k short in
      fails faults.ReadFault packets_of h k s t f (ap all_of here) refl (subst (AreOnlyCut is_cut) (sym here) refl)

  pub header_cut : length k < 24 → t.left ≡ [] → EndsIn (faults.Cut 0) (behind packets_of h) s t
  unfolding all_of
  header_cut short none =
      ends (faults.Cut 0) packets_of h k s t f (ap all_of (header_short k short))
      (ap (λ (rest : List ℕ). packets_of (k ++ rest)) none ∙ ap packets_of (append-nil k) ∙ header_short k short)

  pub header_ends : (fault : CapFault) (header : List ℕ) → 24 ≤ length k → header ≡ take 24 k → Err fault ≡ header_of header → EndsIn fault (behind packets_of h) s t
  unfolding all_of
  header_ends fault header long front is =
      let here : Err fault ≡ header_of (take 24 k) = is ∙ ap header_of front in
      ends fault packets_of h k s t f
      (ap all_of (ap packets_of (sym (append-nil k)) ∙ header_refused k [] fault long here))
      (header_refused k t.left fault long here)

  pub header_follows : (order : ByteOrder) (header m : List ℕ) → 24 ≤ length k → header ≡ take 24 k → Ok order ≡ header_of header → m ≡ drop 24 k
      → Follows (behind packets_of h) (behind (packets_from order 0 0 24) m) s t
  header_follows order header m long front is rest =
      follows packets_of (behind (packets_from order 0 0 24) m) h k s t f
      (λ more. header_read k more order long (is ∙ ap header_of front) ∙ ap (λ (octets : List ℕ). packets_from order 0 0 24 (octets ++ more)) (sym rest))

  -- The head of a packet

  pub head_failed : (c : Cursor) → length k < 16 → (100000000 ≤ c.count → length k < 1) → EndsIn faults.ReadFault (behind (packets_at c) h) s t
  head_failed c short beyond = fails faults.ReadFault (packets_at c) h k s t f (head_lacks c.order c.count c.offset k short) refl (head_waits c.order c.count c.offset k short beyond)

  pub head_ends_many : (c : Cursor) → 0 < length k → 100000000 ≤ c.count → EndsIn faults.Many (behind (packets_at c) h) s t
  unfolding all_of
  head_ends_many c some many =
      ends faults.Many (packets_at c) h k s t f (ap all_of (head_many c.order c.count c.offset k some many))
      (head_many c.order c.count c.offset (k ++ t.left) (omega (arith, length-append k t.left)) many)

  pub head_ends_cut : (c : Cursor) → 0 < length k → length k < 16 → c.count < 100000000 → t.left ≡ [] → EndsIn (faults.Cut c.offset) (behind (packets_at c) h) s t
  head_ends_cut c some short few none =
      let here = head_short c.order c.count c.offset k some short few in
      ends (faults.Cut c.offset) (packets_at c) h k s t f (head_lacks c.order c.count c.offset k short)
      (ap (λ (rest : List ℕ). packets_at c (k ++ rest)) none ∙ ap (packets_at c) (append-nil k) ∙ here)

  long_behind : (c : Cursor) (more : List ℕ) → 16 ≤ length k → c.count < 100000000 → 262144 < captured_len c.order (take 16 k) → packets_at c (k ++ more) ≡ broken (faults.Long c.offset)
  long_behind c more enough few long =
      head_long c.order c.count c.offset (k ++ more) (omega (arith, length-append k more)) few (rw (take-append-le 16 k more enough) long)

  pub head_ends_long : (c : Cursor) (head : List ℕ) (len : ℕ) → 16 ≤ length k → c.count < 100000000 → head ≡ take 16 k → len ≡ captured_len c.order head → 262144 < len
      → EndsIn (faults.Long c.offset) (behind (packets_at c) h) s t
  unfolding all_of
  head_ends_long c head len enough few front is long =
      let same : len ≡ captured_len c.order (take 16 k) = is ∙ ap (captured_len c.order) front in
      let beyond : 262144 < captured_len c.order (take 16 k) = omega arith in
      ends (faults.Long c.offset) (packets_at c) h k s t f
      (ap all_of (ap (packets_at c) (sym (append-nil k)) ∙ long_behind c [] enough few beyond))
      (long_behind c t.left enough few beyond)

  whole_behind : (c : Cursor) (more : List ℕ) → 16 ≤ length k → c.count < 100000000 → captured_len c.order (take 16 k) ≤ 262144
      → packets_at c (k ++ more) ≡ body_from c.order c.count c.offset (seconds_of c.order (take 16 k)) (captured_len c.order (take 16 k)) (drop 16 k ++ more)
  whole_behind c more enough few fits =
      let front = take-append-le 16 k more enough in
      head_whole c.order c.count c.offset (k ++ more) (omega (arith, length-append k more)) few (rw front fits)
      ∙ rw (front, drop-append-le 16 k more enough) refl

  pub head_follows : (c : Cursor) (head m : List ℕ) (found : Head) → 16 ≤ length k → c.count < 100000000 → head ≡ take 16 k
      → found.seconds ≡ seconds_of c.order head → found.len ≡ captured_len c.order head → found.len ≤ 262144 → m ≡ drop 16 k
      → Follows (behind (packets_at c) h) (behind (behind_head c (Some found)) m) s t
  head_follows c head m found enough few front seconds len fits rest =
      let said = seconds ∙ ap (seconds_of c.order) front in
      let counted : found.len ≡ captured_len c.order (take 16 k) = len ∙ ap (captured_len c.order) front in
      let within : captured_len c.order (take 16 k) ≤ 262144 = omega arith in
      follows (packets_at c) (behind (behind_head c (Some found)) m) h k s t f
      (λ more. whole_behind c more enough few within
      ∙ ap₂ (λ (n len : ℕ). body_from c.order c.count c.offset n len (drop 16 k ++ more)) (sym said) (sym counted)
      ∙ ap (λ (octets : List ℕ). body_from c.order c.count c.offset found.seconds found.len (octets ++ more)) (sym rest))

-- Behind a head

module _ (c : Cursor) (head : Head) (g : List ℕ → Packets) (h k : List ℕ) (s t u : DoorState)
    (before : Follows g (behind (behind_head c (Some head)) h) s t) (f : Fetched h k t u) where
  abbrev body : List ℕ → Packets
  body = body_from c.order c.count c.offset head.seconds head.len

  pub body_failed : length k < head.len → EndsIn faults.ReadFault g s u
  unfolding all_of
  body_failed short =
      let here = body_short c.order c.count c.offset head.seconds head.len k short in
      ends_more faults.ReadFault g (behind body h) s t u before (fails faults.ReadFault body h k t u f (ap all_of here) refl (subst (AreOnlyCut is_cut) (sym here) refl))

  pub body_cut : length k < head.len → u.left ≡ [] → EndsIn (faults.Cut c.offset) g s u
  unfolding all_of
  body_cut short none =
      let here = body_short c.order c.count c.offset head.seconds head.len k short in
      ends_more (faults.Cut c.offset) g (behind body h) s t u before
      (ends (faults.Cut c.offset) body h k t u f (ap all_of here)
      (ap (λ (rest : List ℕ). body (k ++ rest)) none ∙ ap body (append-nil k) ∙ here))

  pub body_follows : (given rest : List ℕ) → head.len ≤ length k → given ≡ take head.len k → rest ≡ drop head.len k
      → Follows g (behind (behind_packet c (Some head) given) rest) s u
  body_follows given rest enough front back =
      follows_more g (behind body h) (behind (behind_packet c (Some head) given) rest) s t u before
      (follows body (behind (behind_packet c (Some head) given) rest) h k t u f
      (λ more. body_whole c.order c.count c.offset head.seconds head.len k more enough
      ∙ ap₂ (λ (octets later : List ℕ). behind_packet c (Some head) octets (later ++ more)) (sym front) (sym back)))

-- where the octets held tell what comes next, no octet is wanted behind the head
pub ready_head : (c : Cursor) (h k head m : List ℕ) (len : ℕ) → k ≡ h → c.count < 100000000 → 16 ≤ length k → head ≡ take 16 k → len ≡ captured_len c.order head → len ≤ 262144 → m ≡ drop 16 k
    → IsTrue (is_decided c.order c.count h) → len ≤ length m
ready_head c h k head m len same few enough front counted fits rest decided =
    let here : len ≡ captured_len c.order (take 16 k) = counted ∙ ap (captured_len c.order) front in
    let within : captured_len c.order (take 16 k) ≤ 262144 = omega arith in
    let told : IsTrue (is_decided c.order c.count k) = rw same decided in
    let whole = decided_whole c.order c.count k few enough within told in
    let size : length m ≡ length (drop 16 k) = ap (λ (octets : List ℕ). length octets) rest in
    omega arith
