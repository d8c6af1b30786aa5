-- What requests make of a state beside a value that stays.
use Rattle.std.proofs.Common.{◌≡◌, ℕ, Bool, ◌-◌, List, [], ◌∷◌, inl, inr, sym, ap, ◌∙◌, subst}
use Rattle.mud_world.specs.Door.{DoorState}
use Rattle.mud_world.specs.View.{DoorView}
use Rattle.http_requests.specs.declared.fault.RequestFault.{RequestFault}
use Rattle.http_requests.specs.declared.fault.MomentFrom.{MomentFrom}
use Rattle.http_requests.specs.Requests.{Request, Ending, most_requests}
use Rattle.http_requests.specs.Serving.{Served}
use Rattle.http_requests.proofs.Serving.{exchanged_as}
use Rattle.http_requests.specs.declared.end.ConnectionEnd.{ConnectionEnd}
use Rattle.http_requests.specs.declared.end.ConnectionEnd.TheVariants.{Ended, Closed, Broken, Spent, ReadFailed, WriteFailed}
use Rattle.http_requests.specs.Asked.{Asked}
use Rattle.http_requests.specs.Ends.{ServedBy, IsServed}
use Rattle.http_requests.specs.Runs.{Runs, Leads, IsLeftBy}
use Rattle.http_requests.specs.Visits.{Visit, alone, AreServed, ServedInTurn}
use Rattle.console.specs.Beside.{StepBeside}

module _ {S X : Type 0} (may : S → Asked → List ℕ → S → Type 0) where
  -- the value stays, and this holds of the state beside it
  pub record Reaches (P : S → Type 0) (x : X) (t : S × X) : Type 0 where
    pub is : t.1 ≡ x
    pub holds : P t.0

  runs_of : (from : MomentFrom) (more : ℕ) (s : S) (x : X) (t : S × X) (requests : List Request) (octets : List ℕ) → Runs (StepBeside may) from more (s, x) t requests octets
      → Reaches (λ n. Runs may from more s n requests octets) x t
  runs_of from more s x t [] octets run = record { is = sym (ap (λ (p : S × X). p.1) run.0); holds = (ap (λ (p : S × X). p.0) run.0, run.1) }
  runs_of from more s x t (r ∷ requests) octets run =
      let one = run.3 in
      let later = runs_of from (more - 1) run.0.0 run.0.1 t requests run.2 run.5 in
      record { is = later.is ∙ one.same; holds = (run.0.0, run.1, run.2, one.may_be, run.4, later.holds) }

  leads_of : (s : S) (x : X) (t : S × X) (all : List Asked) → Leads (StepBeside may) (s, x) t all → Reaches (λ n. Leads may s n all) x t
  leads_of s x t [] same = record { is = sym (ap (λ (p : S × X). p.1) same); holds = ap (λ (p : S × X). p.0) same }
  leads_of s x t (what ∷ all) leads =
      let one = leads.2 in
      let later = leads_of leads.0.0 leads.0.1 t all leads.3 in
      record { is = later.is ∙ one.same; holds = (leads.0.0, leads.1, one.may_be, later.holds) }

  -- what holds beside each state that is kept
  pub beside : (keeps : S × X → Type 0) (s : S) (x : X) → IsLeftBy (StepBeside may) keeps (s, x) → (Q : X → Type 0) → ((n : S × X) → keeps n → Q n.1) → Q x
  beside keeps s x p Q then = subst Q (leads_of s x p.next p.all p.leads).is (then p.next p.kept)

  -- what is kept beside the value
  kept_by : (keeps : S × X → Type 0) (x : X) (t : S × X) → t.1 ≡ x → keeps t → keeps (t.0, x)
  kept_by keeps x t is kept = subst (λ (y : X). keeps (t.0, y)) is kept

  pub left_of : (keeps : S × X → Type 0) (keeps' : S → Type 0) (s : S) (x : X) → ((n : S) → keeps (n, x) → keeps' n) → IsLeftBy (StepBeside may) keeps (s, x) → IsLeftBy may keeps' s
  left_of keeps keeps' s x then p =
      let on = leads_of s x p.next p.all p.leads in
      record { all = p.all; next = p.next.0; kept = then p.next.0 (kept_by keeps x p.next on.is p.kept); leads = on.holds }

  module _ (refusal : RequestFault → List ℕ) (from : MomentFrom) where
    served_of : (s : S) (x : X) (t : S × X) (end : Ending) (last : List ℕ) (old new : DoorState) → Served (Runs (StepBeside may) from most_requests (s, x) t) from end last old new
        → Reaches (λ n. Served (Runs may from most_requests s n) from end last old new) x t
    served_of s x t end last old new p =
        let on = runs_of from most_requests s x t p.done.requests p.done.answers p.done.run in
        record {
          is = on.is;
          holds = record { done = exchanged_as _ _ _ old new p.done on.holds; reads = p.reads };
        }

    by_end : (s : S) (x : X) (t : S × X) (end : ConnectionEnd) (old new : DoorState) → ServedBy (StepBeside may) refusal from end (s, x) t old new
        → Reaches (λ n. ServedBy may refusal from end s n old new) x t
    by_end s x t Ended old new p = let on = served_of s x t _ _ old new p in record { is = on.is; holds = on.holds }
    by_end s x t Closed old new p = let on = served_of s x t _ _ old new p in record { is = on.is; holds = on.holds }
    by_end s x t Spent old new p = let on = served_of s x t _ _ old new p in record { is = on.is; holds = on.holds }
    by_end s x t Broken old new p =
        let on = served_of s x t _ _ old new p.served in
        record { is = on.is; holds = record { fault = p.fault; pending = p.pending; served = on.holds } }
    by_end s x t ReadFailed old new p =
        let on = runs_of from most_requests s x t p.done.requests p.done.answers p.done.run in
        record {
          is = on.is;
          holds = record {
            pending = p.pending;
            done = exchanged_as _ _ _ old new p.done on.holds;
            more = p.more;
            rest = p.rest;
            goes_on = p.goes_on;
            awaits = p.awaits;
          };
        }
    by_end s x t WriteFailed old new (inl p) =
        let on = runs_of from most_requests s x t p.done.requests p.done.answers p.done.run in
        record {
          is = on.is;
          holds = inl (record {
            piece = p.piece;
            count = p.count;
            part = p.part;
            done = exchanged_as _ _ _ old new p.done on.holds;
            more = p.more;
            rest = p.rest;
            goes_on = p.goes_on;
            next = p.next;
          });
        }
    by_end s x t WriteFailed old new (inr p) =
        let before = runs_of from most_requests s x p.done.run.0 p.done.requests p.done.answers p.done.run.1 in
        let on = runs_of from most_requests s x t _ _ p.ran in
        record {
          is = on.is;
          holds = inr (record {
            text = p.text;
            count = p.count;
            part = p.part;
            done = exchanged_as _ _ _ old new p.done (p.done.run.0.0, before.holds);
            more = p.more;
            rest = p.rest;
            goes_on = p.goes_on;
            request = p.request;
            behind = p.behind;
            next = p.next;
            ran = on.holds;
          });
        }

    pub is_served_of : (keeps : S × X → Type 0) (keeps' : S → Type 0) (s : S) (x : X) (end : ConnectionEnd) (old new : DoorView) → ((n : S) → keeps (n, x) → keeps' n)
        → IsServed (StepBeside may) refusal from keeps end (s, x) old new → IsServed may refusal from keeps' end s old new
    is_served_of keeps keeps' s x end old new then p =
        let on = by_end s x p.next end old.state new.state p.served in
        record { next = p.next.0; kept = then p.next.0 (kept_by keeps x p.next on.is p.kept); served = on.holds }

    visits_of : (s : S) (x : X) (t : S × X) (visits : List Visit) → AreServed (StepBeside may) refusal from (s, x) t visits → Reaches (λ n. AreServed may refusal from s n visits) x t
    visits_of s x t [] same = record { is = sym (ap (λ (p : S × X). p.1) same); holds = ap (λ (p : S × X). p.0) same }
    visits_of s x t (v ∷ visits) p =
        let one = by_end s x p.0 v.end (alone v.before) (alone v.after) p.1 in
        let later = visits_of p.0.0 p.0.1 t visits p.2 in
        record { is = later.is ∙ one.is; holds = (p.0.0, one.holds, later.holds) }

    pub in_turn_of : (keeps : S × X → Type 0) (keeps' : S → Type 0) (s : S) (x : X) (failed : Bool) (count : ℕ) (old new : DoorView) → ((n : S) → keeps (n, x) → keeps' n)
        → ServedInTurn (StepBeside may) refusal from keeps failed count (s, x) old new → ServedInTurn may refusal from keeps' failed count s old new
    in_turn_of keeps keeps' s x failed count old new then p =
        let v = p.visited in
        let on = visits_of s x v.next p.visits v.served in
        record {
          visits = p.visits;
          visited = record { next = v.next.0; kept = then v.next.0 (kept_by keeps x v.next on.is v.kept); served = on.holds; came = v.came; past = v.past; bound = v.bound };
          enough = p.enough;
          reads = p.reads;
          writes = p.writes;
        }
