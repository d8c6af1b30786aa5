-- Heads of requests at the front of octets. A head is what `httparse` reads as one (RFC 9112, sections 2 to 5), with at most
-- 64 fields and 8,192 octets.
use Rattle.std.specs.Prelude.{ℕ, ◌≤◌, List, ◌++◌, length}
use Rattle.httparse.specs.Grammar.{RequestHead, print_request, ReadsRequest}

-- The octets are that head, and then the rest.
pub record IsHead (octets : List ℕ) (head : RequestHead) (rest : List ℕ) : Type 0 where
  pub reads : ReadsRequest octets head rest
  pub fields : length head.fields ≤ 64
  pub size : length (print_request head) ≤ 8192

-- No front of the octets is a head.
pub record HasNoHead (octets : List ℕ) : Type 0 where
  pub none : (head : RequestHead) (rest : List ℕ) → ¬ (IsHead octets head rest)

-- Nor is one, whatever octets follow.
pub record NeverHasHead (octets : List ℕ) : Type 0 where
  pub never : (later : List ℕ) → HasNoHead (octets ++ later)
