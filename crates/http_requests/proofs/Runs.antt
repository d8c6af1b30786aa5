-- Requests at the front of octets, one after the other.
use Rattle.std.proofs.Common.{◌≡◌, ℕ, ◌-◌, List, [], ◌∷◌, ◌++◌, length, None, arith, refl, inr, sym, ap, ◌∙◌, subst, append_assoc}
use Rattle.http_requests.specs.declared.fault.MomentFrom.{MomentFrom}
use Rattle.http_requests.specs.Head.{IsHead}
use Rattle.http_requests.specs.Requests.{Request, Begins, Ending, AreRequests, GoOn, stop_after}
use Rattle.http_requests.proofs.Heads.{head_append}

-- a whole request stays, whatever follows
pub begins_append : (from : MomentFrom) (octets : List ℕ) (r : Request) (after later : List ℕ) → Begins from octets r after → Begins from (octets ++ later) r (after ++ later)
begins_append from octets r after later b = record {
  head = subst (λ rest. IsHead (octets ++ later) r.head rest) (append_assoc r.body after later) (head_append octets r.head (r.body ++ after) later b.head);
  taken = b.taken;
  body = b.body;
}

-- Requests that go on, and then the requests of what comes after them.
pub joined : (from : MomentFrom) (most : ℕ) (octets : List ℕ) (requests : List Request) (left : ℕ) (after : List ℕ) (more : List Request) (end : Ending)
    → GoOn from most octets requests left after → AreRequests from left after more end → AreRequests from most octets (requests ++ more) end
joined from most octets [] left after more end g a =
    subst (λ n. AreRequests from n octets more end) (sym g.0) (subst (λ o. AreRequests from left o more end) (sym g.1) a)
joined from most octets (r ∷ requests) left after more end g a =
    (g.0, g.1, inr (g.2, joined from (most - 1) g.0 requests left after more end g.3 a))

-- Octets that come later come behind what follows the requests.
pub goes_append : (from : MomentFrom) (most : ℕ) (octets : List ℕ) (requests : List Request) (left : ℕ) (after later : List ℕ)
    → GoOn from most octets requests left after → GoOn from most (octets ++ later) requests left (after ++ later)
goes_append from most octets [] left after later g = (g.0, ap (λ o. o ++ later) g.1)
goes_append from most octets (r ∷ requests) left after later g =
    (g.0 ++ later, begins_append from octets r g.0 later g.1, g.2, goes_append from (most - 1) g.0 requests left after later g.3)

-- One request more.
pub goes_on : (from : MomentFrom) (most : ℕ) (octets : List ℕ) (requests : List Request) (left : ℕ) (mid : List ℕ) (r : Request) (after : List ℕ)
    → GoOn from most octets requests left mid → Begins from mid r after → stop_after left r ≡ None → GoOn from most octets (requests ++ r ∷ []) (left - 1) after
goes_on from most octets [] left mid r after g b s =
    (after, subst (λ o. Begins from o r after) (sym g.1) b, ap (λ n. stop_after n r) g.0 ∙ s, (ap (λ n. n - 1) g.0, refl))
goes_on from most octets (q ∷ requests) left mid r after g b s =
    (g.0, g.1, g.2, goes_on from (most - 1) g.0 requests left mid r after g.3 b s)

-- How many more requests are answered.
pub goes_count : (from : MomentFrom) (most : ℕ) (octets : List ℕ) (requests : List Request) (left : ℕ) (after : List ℕ) → GoOn from most octets requests left after → left ≡ most - length requests
goes_count from most octets [] left after g = omega (arith, g.0)
goes_count from most octets (r ∷ requests) left after g =
    omega (arith, goes_count from (most - 1) g.0 requests left after g.3)
