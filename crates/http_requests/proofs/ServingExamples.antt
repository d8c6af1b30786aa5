-- Runs of requests that are written out.
use Rattle.std.proofs.Common.{◌≡◌, ℕ, ◌+◌, true, false, List, [], ◌∷◌, ◌++◌, refl}
use Rattle.std.specs.Prelude.{codes}
use Rattle.http_requests.specs.declared.fault.MomentFrom.TheVariants.{Clock}
use Rattle.http_requests.specs.Requests.{Request, most_requests}
use Rattle.http_requests.proofs.OnLiterals.{requests_on_literals}
use Rattle.http_requests.proofs.Examples.{field, head_of, length_of}
use Rattle.http_requests.specs.Asked.{Asked}
use Rattle.http_requests.specs.Runs.{Runs}

-- each request is answered `ok`, or `bye` where the connection ends, and is counted
abbrev counts : ℕ → Asked → List ℕ → ℕ → Type 0
counts s what answer t = (answer ≡ elim what.is_last [ true ↦ codes "bye" | false ↦ codes "ok" ]) × (t ≡ s + 1)

-- a request whose client waits for leave to send its body, and one that closes the connection
abbrev put : Request
put = record { head = head_of (codes "PUT") (codes "/locals") 1 (field (codes "Expect") (codes " 100-continue") ∷ length_of (codes " 2") ∷ []); body = codes "{}" }

abbrev get : Request
get = record { head = head_of (codes "GET") (codes "/things") 0 []; body = [] }

-- The leave stands before the answer of its request.
two_run : Runs counts Clock most_requests 0 2 (put ∷ get ∷ []) (codes "HTTP/1.1 100 Continue" ++ 13 ∷ 10 ∷ 13 ∷ 10 ∷ codes "okbye")
unfolding requests_on_literals
two_run = (1, codes "ok", codes "bye", (refl, refl), refl, (2, codes "bye", [], (refl, refl), refl, (refl, refl)))
