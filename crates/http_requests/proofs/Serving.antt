-- Serving a connection, step by step and at each end. Each lemma is for one place of the loop that serves it.
use Rattle.std.proofs.Common.{◌≡◌, ℕ, ◌+◌, ◌-◌, List, [], ◌∷◌, ◌++◌, length, take, Some, None, refl, inl, inr, sym, ap, ap₂, ◌∙◌, subst, arith, append_assoc, append-nil, length-append}
use Rattle.std.proofs.Math.Seq.{take-append-add}
use Rattle.mud_world.specs.Door.{DoorState, put_out, with_left}
use Rattle.mud_world.specs.Whole.{WrotePart}
use Rattle.mud_world.proofs.Doors.{put_out_twice}
use Rattle.http_requests.specs.declared.fault.RequestFault.{RequestFault}
use Rattle.http_requests.specs.declared.fault.MomentFrom.{MomentFrom}
use Rattle.http_requests.specs.declared.shape.RequestShape.{RequestShape}
use Rattle.http_requests.specs.Framing.{leave_of}
use Rattle.http_requests.specs.Requests.{Request, Begins, Ending, ended, broken, GoOn, stop_after, most_requests}
use Rattle.http_requests.specs.Steps.{Came, CameWhole, CameEnd, CameFault, ReadFailed, LeaveFailed}
use Rattle.http_requests.specs.Serving.{Exchanged, Served, ServedFault, ServedTaken, FailedPiece, FailedAnswer}
use Rattle.http_requests.proofs.Heads.{head_append}
use Rattle.http_requests.proofs.Runs.{begins_append, joined, goes_append, goes_on}
use Rattle.http_requests.proofs.Coming.{came_written}

-- the requests and answers of a run
abbrev Run : Type 1
Run = List Request → List ℕ → Type 0

-- What was taken of the connection is requests that were answered, and then the buffer. So many more requests are answered.
pub record SoFar (A : List Request → List ℕ → Type 0) (from : MomentFrom) (more : ℕ) (pending : List ℕ) (old new : DoorState) (buffer : List ℕ) : Type 0 where
  pub done : Exchanged A pending old new
  pub goes_on : GoOn from most_requests done.taken done.requests more buffer

-- the same exchange, where something else is so of what was answered
abbrev pub exchanged_as : (A B : Run) (last : List ℕ) (s t : DoorState) → (x : Exchanged A last s t) → B x.requests x.answers → Exchanged B last s t
exchanged_as A B last s t x run = record { requests = x.requests; answers = x.answers; run = run; taken = x.taken; took = x.took; state = x.state }

-- the same, where what was written behind the answers is said otherwise
abbrev written_as : (A : Run) (last also : List ℕ) (s t : DoorState) → last ≡ also → Exchanged A last s t → Exchanged A also s t
written_as A last also s t is x = record {
  requests = x.requests;
  answers = x.answers;
  run = x.run;
  taken = x.taken;
  took = x.took;
  state = x.state ∙ ap (λ o. put_out (x.answers ++ o) (with_left t.left s)) is;
}

-- one request more was answered, by what was written behind the answers
abbrev one_more : (A B : Run) (p : List ℕ) (r : Request) (s t : DoorState) → Exchanged A p s t
    → ((requests : List Request) (answers : List ℕ) → A requests answers → B (requests ++ r ∷ []) (answers ++ p)) → Exchanged B [] s t
one_more A B p r s t x step = record {
  requests = x.requests ++ r ∷ [];
  answers = x.answers ++ p;
  run = step x.requests x.answers x.run;
  taken = x.taken;
  took = x.took;
  state = x.state ∙ ap (λ o. put_out o (with_left t.left s)) (sym (append-nil (x.answers ++ p)));
}

-- no request more was
abbrev no_more : (A : Run) (last : List ℕ) (s t : DoorState) → Exchanged A last s t → Exchanged A last s t
no_more A last s t x = record {
  requests = x.requests ++ [];
  answers = x.answers;
  run = subst (λ requests. A requests x.answers) (sym (append-nil x.requests)) x.run;
  taken = x.taken;
  took = x.took;
  state = x.state;
}

-- ---- Steps

-- octets came, and others were written
pub so_far_came : (A : Run) (from : MomentFrom) (more : ℕ) (p w b c : List ℕ) (s t u : DoorState) → SoFar A from more p s t b → Came b c t u w → SoFar A from more (p ++ w) s u c
so_far_came A from more p w b c s t u f came =
    let d = f.done in
    record {
      done = record {
        requests = d.requests;
        answers = d.answers;
        run = d.run;
        taken = d.taken ++ came.taken;
        took = d.took ∙ ap (λ o. d.taken ++ o) came.left ∙ sym (append_assoc d.taken came.taken u.left);
        state = came.rest ∙ ap (λ v. put_out w (with_left u.left v)) d.state ∙ put_out_twice (d.answers ++ p) w (with_left u.left s)
            ∙ ap (λ o. put_out o (with_left u.left s)) (append_assoc d.answers p w);
      };
      goes_on = subst (λ o. GoOn from most_requests (d.taken ++ came.taken) d.requests more o) (sym came.held)
          (goes_append from most_requests d.taken d.requests more b came.taken f.goes_on);
    }

-- octets were written
pub so_far_said : (A : Run) (from : MomentFrom) (more : ℕ) (p w b : List ℕ) (s t u : DoorState) → SoFar A from more p s t b → u ≡ put_out w t → SoFar A from more (p ++ w) s u b
so_far_said A from more p w b s t u f said = so_far_came A from more p w b b s t u f (came_written b w t u said)

-- the next whole request came
pub so_far_whole : (A : Run) (from : MomentFrom) (more : ℕ) (shape : RequestShape) (b c : List ℕ) (s t u : DoorState) → SoFar A from more [] s t b → (w : CameWhole from shape b c t u) → SoFar A from more (leave_of w.request.head) s u c
so_far_whole A from more shape b c s t u f w = so_far_came A from more [] (leave_of w.request.head) b c s t u f w.came

-- The request at the front was answered, and the connection goes on. What was written since the answer before is its text.
pub so_far_answered : (A B : Run) (from : MomentFrom) (more : ℕ) (p b : List ℕ) (r : Request) (behind : List ℕ) (s t : DoorState) → SoFar A from more p s t b
    → Begins from b r behind → stop_after more r ≡ None
    → ((requests : List Request) (answers : List ℕ) → A requests answers → B (requests ++ r ∷ []) (answers ++ p))
    → SoFar B from (more - 1) [] s t behind
so_far_answered A B from more p b r behind s t f begins stop step = record {
  done = one_more A B p r s t f.done step;
  goes_on = goes_on from most_requests f.done.taken f.done.requests more b r behind f.goes_on begins stop;
}

-- the same run in other words
pub so_far_as : (A B : Run) (from : MomentFrom) (more : ℕ) (p b : List ℕ) (s t : DoorState) → ((requests : List Request) (answers : List ℕ) → A requests answers → B requests answers)
    → SoFar A from more p s t b → SoFar B from more p s t b
so_far_as A B from more p b s t map f = record { done = exchanged_as A B p s t f.done (map f.done.requests f.done.answers f.done.run); goes_on = f.goes_on }

-- ---- Ends

-- all octets of the connection, from what goes on
all_go_on : (from : MomentFrom) (taken left : List ℕ) (requests : List Request) (more : ℕ) (b octets : List ℕ) → octets ≡ taken ++ left → GoOn from most_requests taken requests more b → GoOn from most_requests octets requests more (b ++ left)
all_go_on from taken left requests more b octets same g =
    subst (λ o. GoOn from most_requests o requests more (b ++ left)) (sym same) (goes_append from most_requests taken requests more b left g)

-- no octets came any more
pub ended_at : (A : Run) (from : MomentFrom) (more : ℕ) (b c : List ℕ) (s t u : DoorState) → SoFar A from more [] s t b → CameEnd b c t u → Served A from ended [] s u
ended_at A from more b c s t u f end =
    let all = so_far_came A from more [] [] b c s t u f end.came in
    let d = all.done in
    let go = all_go_on from d.taken u.left d.requests more c s.left d.took all.goes_on in
    record {
      done = no_more A [] s u d;
      reads = joined from most_requests s.left d.requests more (c ++ u.left) [] ended go (ap₂ ◌++◌ end.none end.nothing_left);
    }

-- the request at the front was answered, and ended the connection
pub stopped_at : (A B : Run) (from : MomentFrom) (more : ℕ) (end : Ending) (p b : List ℕ) (r : Request) (behind : List ℕ) (s t : DoorState) → SoFar A from more p s t b
    → Begins from b r behind → stop_after more r ≡ Some end
    → ((requests : List Request) (answers : List ℕ) → A requests answers → B (requests ++ r ∷ []) (answers ++ p))
    → Served B from end [] s t
stopped_at A B from more end p b r behind s t f begins stop step =
    let d = f.done in
    let go = all_go_on from d.taken t.left d.requests more b s.left d.took f.goes_on in
    record {
      done = one_more A B p r s t d step;
      reads = joined from most_requests s.left d.requests more (b ++ t.left) (r ∷ []) end go
          (behind ++ t.left, begins_append from b r behind t.left begins, inl (stop, refl));
    }

-- a fault came, and was answered
pub broken_at : (A : Run) (from : MomentFrom) (more : ℕ) (refusal : RequestFault → List ℕ) (fault : RequestFault) (b c : List ℕ) (s t u v : DoorState) → SoFar A from more [] s t b
    → CameFault from fault b c t u → v ≡ put_out (refusal fault) u → ServedFault A from refusal s v
unfolding so_far_said so_far_came
broken_at A from more refusal fault b c s t u v f came said =
    let before = so_far_came A from more [] came.pending b c s t u f came.came in
    let all = so_far_said A from more came.pending (refusal fault) c s u v before said in
    let d = before.done in
    let go = all_go_on from d.taken u.left d.requests more c s.left d.took before.goes_on in
    record {
      fault = fault;
      pending = came.pending;
      served = record {
        done = no_more A (came.pending ++ refusal fault) s v all.done;
        reads = joined from most_requests s.left d.requests more (c ++ u.left) [] (broken fault came.pending) go came.is_fault;
      };
    }

-- ---- Failing calls

-- a read failed
pub read_failed_at : (A : Run) (from : MomentFrom) (more : ℕ) (b c : List ℕ) (s t u : DoorState) → SoFar A from more [] s t b → ReadFailed from b c t u → ServedTaken A from s u
read_failed_at A from more b c s t u f failed =
    let all = so_far_came A from more [] failed.pending b c s t u f failed.came in
    record { pending = failed.pending; done = all.done; more = more; rest = c; goes_on = all.goes_on; awaits = failed.awaits }

-- a write of the leave for a body failed
pub leave_failed_at : (A : Run) (from : MomentFrom) (more : ℕ) (refusal : RequestFault → List ℕ) (b c : List ℕ) (s t u : DoorState) → SoFar A from more [] s t b → LeaveFailed from b c t u → FailedPiece A from refusal s u
leave_failed_at A from more refusal b c s t u f failed =
    let all = so_far_came A from more [] (take failed.count (leave_of failed.head)) b c s t u f failed.came in
    record {
      piece = leave_of failed.head;
      count = failed.count;
      part = failed.part;
      done = all.done;
      more = more;
      rest = c ++ u.left;
      goes_on = all_go_on from all.done.taken u.left all.done.requests more c s.left all.done.took all.goes_on;
      next = record { piece_is = inl (failed.head, failed.behind ++ u.left, head_append c failed.head failed.behind u.left failed.is_head, failed.taken, refl) };
    }

-- octets, and a front of others
take_behind : (p w : List ℕ) (n : ℕ) → p ++ take n w ≡ take (length p + n) (p ++ w)
take_behind p w n = sym (take-append-add p w n)

-- a write of the answer to a fault failed
pub refusal_failed_at : (A : Run) (from : MomentFrom) (more : ℕ) (refusal : RequestFault → List ℕ) (fault : RequestFault) (b c : List ℕ) (s t u v : DoorState) → SoFar A from more [] s t b
    → CameFault from fault b c t u → WrotePart (refusal fault) u v → FailedPiece A from refusal s v
unfolding so_far_said so_far_came
refusal_failed_at A from more refusal fault b c s t u v f came wrote =
    let before = so_far_came A from more [] came.pending b c s t u f came.came in
    let all = so_far_said A from more came.pending (take wrote.count (refusal fault)) c s u v before wrote.wrote in
    record {
      piece = came.pending ++ refusal fault;
      count = length came.pending + wrote.count;
      part = omega (arith, wrote.part, length-append came.pending (refusal fault));
      done = written_as A _ _ s v (take_behind came.pending (refusal fault) wrote.count) all.done;
      more = more;
      rest = c ++ u.left;
      goes_on = all_go_on from before.done.taken u.left before.done.requests more c s.left before.done.took before.goes_on;
      next = record { piece_is = inr (fault, came.pending, came.is_fault, refl) };
    }

-- A write of the answer to the request at the front failed. `p` was written of its text before, and w was to follow.
pub answer_failed_at : (A B : Run) (from : MomentFrom) (more : ℕ) (p w b : List ℕ) (r : Request) (behind : List ℕ) (s t u : DoorState) → SoFar A from more p s t b
    → Begins from b r behind → WrotePart w t u
    → ((requests : List Request) (answers : List ℕ) → A requests answers → B (requests ++ r ∷ []) (answers ++ (p ++ w)))
    → FailedAnswer A B from s u
unfolding so_far_said so_far_came
answer_failed_at A B from more p w b r behind s t u f begins wrote step =
    let all = so_far_said A from more p (take wrote.count w) b s t u f wrote.wrote in
    record {
      text = p ++ w;
      count = length p + wrote.count;
      part = omega (arith, wrote.part, length-append p w);
      done = written_as A _ _ s u (take_behind p w wrote.count) all.done;
      more = more;
      rest = b ++ t.left;
      goes_on = all_go_on from f.done.taken t.left f.done.requests more b s.left f.done.took f.goes_on;
      request = r;
      behind = behind ++ t.left;
      next = begins_append from b r behind t.left begins;
      ran = step f.done.requests f.done.answers f.done.run;
    }
