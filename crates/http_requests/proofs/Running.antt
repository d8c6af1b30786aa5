-- Runs of requests, one request after the other.
use Rattle.std.proofs.Common.{◌≡◌, ℕ, ◌+◌, ◌-◌, ◌<◌, List, [], ◌∷◌, ◌++◌, length, drop, refl, sym, ap, ◌∙◌, subst, arith, append_assoc, append-nil, length-append, drop_at}
use Rattle.httparse.specs.Grammar.{print_request}
use Rattle.http_requests.specs.declared.fault.MomentFrom.{MomentFrom}
use Rattle.http_requests.specs.declared.shape.RequestShape.{RequestShape}
use Rattle.http_requests.specs.Framing.{leave_of}
use Rattle.http_requests.specs.Requests.{Request, Begins, most_requests}
use Rattle.http_requests.specs.Shapes.{IsShape}
use Rattle.http_requests.proofs.Heads.{head_octets}
use Rattle.http_requests.specs.Asked.{Asked, CarriedOut, asked}
use Rattle.http_requests.specs.Runs.{Runs, Leads, IsLeftBy}

-- what is behind a request of this shape
pub behind_is : (from : MomentFrom) (shape : RequestShape) (octets : List ℕ) (r : Request) (behind : List ℕ) → Begins from octets r behind → IsShape from shape r.head
    → drop (shape.head_len + shape.body_len) octets ≡ behind
behind_is from shape octets r behind begins is =
    ap (drop (shape.head_len + shape.body_len)) (head_octets octets r.head (r.body ++ behind) begins.head ∙ sym (append_assoc (print_request r.head) r.body behind))
    ∙ drop_at (print_request r.head ++ r.body) behind (shape.head_len + shape.body_len)
    (omega (arith, length-append (print_request r.head) r.body, is.head_len, is.body_len, begins.body))

module _ {S : Type 0} (may : S → Asked → List ℕ → S → Type 0) (from : MomentFrom) where
  -- one request more
  pub runs_next : (most more : ℕ) (s mid next : S) (requests : List Request) (octets : List ℕ) (r : Request) (answer : List ℕ) → Runs may from most s mid requests octets
      → length requests + more ≡ most → may mid (asked from more r) answer next
      → Runs may from most s next (requests ++ r ∷ []) (octets ++ (leave_of r.head ++ answer))
  runs_next most more s mid next [] octets r answer run count is =
      let same : more ≡ most = omega (arith, count) in (
        next,
        answer,
        [],
        subst (λ n. may s (asked from n r) answer next) same (subst (λ at. may at (asked from more r) answer next) (sym run.0) is),
        ap (λ o. o ++ (leave_of r.head ++ answer)) run.1 ∙ sym (append-nil (leave_of r.head ++ answer)),
        (refl, refl),
      )
  runs_next most more s mid next (q ∷ requests) octets r answer run count is = (
    run.0,
    run.1,
    run.2 ++ (leave_of r.head ++ answer),
    run.3,
    ap (λ o. o ++ (leave_of r.head ++ answer)) run.4 ∙ append_assoc (leave_of q.head ++ run.1) run.2 (leave_of r.head ++ answer),
    runs_next (most - 1) more run.0 mid next requests run.2 r answer run.5 (omega (arith, count)) is,
  )

  -- The requests were carried out from the state on, so many more are answered, and what is kept is the state behind them.
  pub record Ran (keeps : S → Type 0) (more : ℕ) (s : S) (requests : List Request) (answers : List ℕ) : Type 0 where
    pub count : length requests + more ≡ most_requests
    pub next : S
    pub kept : keeps next
    pub run : Runs may from most_requests s next requests answers

  -- one request more was carried out
  pub ran_more : (keeps keeps' : S → Type 0) (more : ℕ) (s : S) (r : Request) (answer : List ℕ) → 0 < more
      → ((at : S) → keeps at → CarriedOut may keeps' at (asked from more r) answer) → (requests : List Request) (answers : List ℕ)
      → Ran keeps more s requests answers → Ran keeps' (more - 1) s (requests ++ r ∷ []) (answers ++ (leave_of r.head ++ answer))
  ran_more keeps keeps' more s r answer some carried requests answers ran =
      let out = carried ran.next ran.kept in
      record {
        count = omega (arith, ran.count, length-append requests (r ∷ []));
        next = out.next;
        kept = out.kept;
        run = runs_next most_requests more s ran.next out.next requests answers r answer ran.run ran.count out.is_allowed;
      }

  -- the same state is still kept
  pub ran_kept : (keeps keeps' : S → Type 0) (more : ℕ) (s : S) → ((at : S) → keeps at → keeps' at) → (requests : List Request) (answers : List ℕ)
      → Ran keeps more s requests answers → Ran keeps' more s requests answers
  ran_kept keeps keeps' more s still requests answers ran = record {
    count = ran.count;
    next = ran.next;
    kept = still ran.next ran.kept;
    run = ran.run;
  }

-- ---- What requests leave

module _ {S : Type 0} (may : S → Asked → List ℕ → S → Type 0) where
  leads_append : (s t u : S) (all more : List Asked) → Leads may s t all → Leads may t u more → Leads may s u (all ++ more)
  leads_append s t u [] more same leads = subst (λ at. Leads may at u more) (sym same) leads
  leads_append s t u (what ∷ all) more are leads = (are.0, are.1, are.2, leads_append are.0 t u all more are.3 leads)

  -- more requests were carried out
  pub left_further : (keeps keeps' : S → Type 0) (s : S) → IsLeftBy may keeps s → ((at : S) → keeps at → IsLeftBy may keeps' at) → IsLeftBy may keeps' s
  left_further keeps keeps' s p then =
      let q = then p.next p.kept in
      record { all = p.all ++ q.all; next = q.next; kept = q.kept; leads = leads_append s p.next q.next p.all q.all p.leads q.leads }

  -- one request more was carried out
  pub left_more : (keeps keeps' : S → Type 0) (s : S) (what : Asked) (answer : List ℕ) → IsLeftBy may keeps s → ((at : S) → keeps at → CarriedOut may keeps' at what answer) → IsLeftBy may keeps' s
  left_more keeps keeps' s what answer p carried =
      left_further keeps keeps' s p (λ at kept. let out = carried at kept in record { all = what ∷ []; next = out.next; kept = out.kept; leads = (out.next, answer, out.is_allowed, refl) })

  -- the same state is still kept
  pub left_kept : (keeps keeps' : S → Type 0) (s : S) → IsLeftBy may keeps s → ((at : S) → keeps at → keeps' at) → IsLeftBy may keeps' s
  left_kept keeps keeps' s p still = record { all = p.all; next = p.next; kept = still p.next p.kept; leads = p.leads }
