-- One request more.
use Rattle.std.proofs.Common.{◌≡◌, ℕ, ◌+◌, ◌-◌, Bool, true, false, List, Option, Some, None, refl, sym, ap, ◌∙◌, subst, arith}
use Rattle.mud_world.specs.Causes.{Counts}
use Rattle.mud_world.specs.Clock.{next_moment, later_moments}
use Rattle.desk_model.specs.Sessions.{Session}
use Rattle.mud_desk.specs.DeskState.{DeskState, session_of}
use Rattle.console_answers.specs.declared.status.Status.{Status}
use Rattle.http_requests.specs.declared.fault.MomentFrom.{MomentFrom}
use Rattle.http_requests.specs.Framing.{moment_of}
use Rattle.http_requests.specs.Requests.{Request}
use Rattle.http_requests.specs.Asked.{Asked, asked_by}
use Rattle.http_requests.specs.Visits.{CountsOf}
use Rattle.console.specs.Replies.{is_unavailable}
use Rattle.console.specs.Answers.{AllowedAnswer}
use Rattle.console.specs.States.{ConsoleState, begun, counted, TakesMoment, ConsoleStep, IsAt}

-- the moments that are left behind a request
after : Option ℕ → List ℕ → List ℕ
after None moments = later_moments moments
after (Some own) moments = moments

took : (tells : Type 0) (own : Option ℕ) (given : ℕ) (ms ms' left : List ℕ) → TakesMoment tells own given ms ms' → (tells → ms ≡ left) → TakesMoment tells own given left (after own left)
unfolding after
took tells None given ms ms' left p same = record { moment = λ t. ((p.moment t).0 ∙ ap next_moment (same t), refl) }
took tells (Some own) given ms ms' left p same = record { moment = (p.moment.0, refl) }

left_then : (tells : Type 0) (own : Option ℕ) (given : ℕ) (ms ms' left : List ℕ) → TakesMoment tells own given ms ms' → (tells → ms ≡ left) → tells → ms' ≡ after own left
unfolding after
left_then tells None given ms ms' left p same t = (p.moment t).1 ∙ ap later_moments (same t)
left_then tells (Some own) given ms ms' left p same t = p.moment.1 ∙ same t

counts_next : (failed : Bool) (count a b c : ℕ) → CountsOf count a b → Counts failed b c → CountsOf (counted failed count) a c
counts_next true count a b c p q = record {
  later = omega (arith, p.later, q.later);
  rose = let rose = q.rose refl in omega (arith, p.rose, p.later);
  steady = λ none. absurd (omega arith);
}
counts_next false count a b c p q =
    let same = q.steady refl in
    record {
      later = omega (arith, p.later, same);
      rose = omega (arith, p.rose, same);
      steady = λ none. same ∙ p.steady none;
    }

pub counts_none : (a : ℕ) → CountsOf 0 a a
counts_none a = record { later = omega arith; rose = omega arith; steady = λ none. refl }

still : (risen before now next : ℕ) → now ≡ before + risen → next ≡ now → next - before ≡ risen
still risen before now next is same = omega (arith, is, same)

-- the first state
pub at_first : (tells : Type 0) (desk : DeskState) (moments : List ℕ) (faults : ℕ) → IsAt tells desk moments faults faults (begun (session_of desk) moments)
at_first tells desk moments faults = record { session = refl; clock = λ t. refl; paid = counts_none faults; risen = omega arith }

-- What was carried out, and the state behind it.
pub record Carried (tells : Type 0) (desk : DeskState) (moments : List ℕ) (before now : ℕ) (s : ConsoleState) (what : Asked) (octets : List ℕ) : Type 0 where
  pub next : ConsoleState
  pub may : ConsoleStep tells s what octets next
  pub at : IsAt tells desk moments before now next

module _ (tells : Type 0) (desk desk' : DeskState) (ms ms' : List ℕ) (before now now' : ℕ) (status : Status) (given : ℕ) (octets : List ℕ) (from : MomentFrom) (request : Request) (is_last : Bool) (own : Option ℕ)
    (takes : TakesMoment tells own given ms ms') (is : own ≡ moment_of from request.head) (cause : Counts (is_unavailable status) now now')
    (may : AllowedAnswer (session_of desk) given request is_last status octets (session_of desk')) where
  pub carried : (s : ConsoleState) → IsAt tells desk ms before now s → Carried tells desk' ms' before now' s (asked_by from is_last request) octets
  carried s at =
      let next : ConsoleState = record { session = session_of desk'; moments = after own s.moments; unavailable = counted (is_unavailable status) s.unavailable; risen = now' - before } in
      record {
        next = next;
        may = record {
          given = given;
          status = status;
          moment = subst (λ (o : Option ℕ). TakesMoment tells o given s.moments (after own s.moments)) is (took tells own given ms ms' s.moments takes at.clock);
          may = subst (λ (session : Session). AllowedAnswer session given request is_last status octets (session_of desk')) (sym at.session) may;
          count = refl;
          rises = omega (arith, at.risen, cause.later);
          steady = λ other. still s.risen before now now' at.risen (cause.steady other);
        };
        at = record {
          session = refl;
          clock = left_then tells own given ms ms' s.moments takes at.clock;
          paid = counts_next (is_unavailable status) s.unavailable before now now' at.paid cause;
          risen = omega (arith, at.risen, cause.later);
        };
      }
