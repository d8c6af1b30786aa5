-- When a connection goes on.
use Rattle.std.proofs.Common.{◌≡◌, ◌≢◌, ℕ, ◌-◌, ◌<◌, Bool, true, false, [], None, refl, subst, arith}
use Rattle.httparse.specs.Grammar.{crlf}
use Rattle.http_requests.specs.Framing.{closes}
use Rattle.http_requests.specs.Requests.{Request, stop_after}

-- a request of that version without fields
bare : ℕ → Request
bare minor = record {
  head = record { blank = []; method = []; target = []; minor = minor; line_end = crlf; fields = []; last = crlf };
  body = [];
}

-- there is one that closes its connection, and one that doesn't
one_that : (b : Bool) → (r : Request) × (b ≡ closes r.head)
unfolding bare closes
one_that true = (bare 0, refl)
one_that false = (bare 1, refl)

last_stops : (r : Request) → stop_after 1 r ≡ None → ⊥
unfolding stop_after
last_stops r e = cc

-- where it goes on, more requests are answered
pub more_left : (more : ℕ) (b : Bool) → 0 < more → ((r : Request) → b ≡ closes r.head → stop_after more r ≡ None) → 0 < more - 1
more_left more b some goes_on =
    let one = one_that b in
    let other : more ≢ 1 = λ last. last_stops one.0 (subst (λ n. stop_after n one.0 ≡ None) last (goes_on one.0 one.1)) in
    omega arith
