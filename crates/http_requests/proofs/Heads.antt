-- Heads at the front of octets: there is at most one, and it stays whatever follows.
use Rattle.std.proofs.Common.{◌≡◌, ℕ, ◌<◌, Bool, List, ◌++◌, length, take, drop, refl, sym, ap, ◌∙◌, arith, length-append, take_at, drop_at}
use Rattle.httparse.specs.Grammar.{RequestHead, print_request}
use Rattle.httparse.proofs.GrammarLemmas.{request_unique, ReadsRequest-append}
use Rattle.http_requests.specs.declared.fault.FramingFault.{FramingFault}
use Rattle.http_requests.specs.declared.fault.RequestFault.{RequestFault}
use Rattle.http_requests.specs.Head.{IsHead}

-- the octets of a head
pub head_octets : (octets : List ℕ) (head : RequestHead) (rest : List ℕ) → IsHead octets head rest → octets ≡ print_request head ++ rest
head_octets octets head rest is = is.reads.1

pub head_unique : (octets : List ℕ) (h k : RequestHead) (r q : List ℕ) → IsHead octets h r → IsHead octets k q → (h ≡ k) × (r ≡ q)
head_unique octets h k r q x y = request_unique octets h k r q x.reads y.reads

pub head_append : (octets : List ℕ) (head : RequestHead) (rest later : List ℕ) → IsHead octets head rest → IsHead (octets ++ later) head (rest ++ later)
head_append octets head rest later is = record {
  reads = ReadsRequest-append octets head rest later is.reads;
  fields = is.fields;
  size = is.size;
}

-- a head has octets
pub head_some : (octets : List ℕ) (head : RequestHead) (rest : List ℕ) → IsHead octets head rest → 0 < length octets
unfolding print_request
head_some octets head rest is =
    let method : 0 < length head.method = is.reads.0.method.0 in
    rw (head_octets octets head rest is) (simp length-append (omega arith))

-- two cuts of one list after as many
pub same_cut : (a b x y : List ℕ) → length a ≡ length b → a ++ x ≡ b ++ y → (a ≡ b) × (x ≡ y)
same_cut a b x y size same = (
  sym (take_at a x (length b) size) ∙ ap (take (length b)) same ∙ take_at b y (length b) refl,
  sym (drop_at a x (length b) size) ∙ ap (drop (length b)) same ∙ drop_at b y (length b) refl,
)

-- a fault, from its parts
abbrev pub fault_by : FramingFault → Bool → RequestFault
fault_by framing is_head = record { framing = framing; is_head = is_head }
