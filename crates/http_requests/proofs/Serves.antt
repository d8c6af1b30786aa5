-- Serving a connection from a state on, at each place of the loop that serves it.
use Rattle.std.proofs.Common.{◌≡◌, ℕ, ◌+◌, ◌-◌, ◌<◌, List, [], ◌++◌, take, drop, Some, None, inl, inr, refl, sym, subst, ◌∙◌, arith}
use Rattle.mud_world.specs.Door.{DoorState, put_out}
use Rattle.mud_world.specs.View.{DoorView}
use Rattle.mud_world.specs.Whole.{WrotePart}
use Rattle.mud_world.proofs.Doors.{put_out_none}
use Rattle.http_requests.specs.declared.fault.RequestFault.{RequestFault}
use Rattle.http_requests.specs.declared.fault.MomentFrom.{MomentFrom}
use Rattle.http_requests.specs.declared.shape.RequestShape.{RequestShape}
use Rattle.http_requests.specs.Framing.{leave_of}
use Rattle.http_requests.specs.Requests.{Ending, ended, closed, spent, stop_after, most_requests}
use Rattle.http_requests.specs.Steps.{CameWhole, CameEnd, CameFault}
use Rattle.http_requests.specs.Steps as steps
use Rattle.http_requests.specs.Serving.{Served, FailedPiece}
use Rattle.http_requests.proofs.Serving.{SoFar}
use Rattle.http_requests.proofs.Serving as serving
use Rattle.http_requests.specs.declared.end.ConnectionEnd.TheVariants.{Ended, Closed, Broken, Spent, ReadFailed, WriteFailed}
use Rattle.http_requests.specs.Asked.{Asked, CarriedOut, asked}
use Rattle.http_requests.specs.Ends.{IsServed, Run, RunOn}
use Rattle.http_requests.proofs.Running.{Ran, ran_more, ran_kept, behind_is}

module _ {S : Type 0} (may : S → Asked → List ℕ → S → Type 0) (refusal : RequestFault → List ℕ) (from : MomentFrom) where
  -- what was done up to here, from a state that was kept at first
  pub record Progress (keeps : S → Type 0) (more : ℕ) (s : S) (old new : DoorState) (buffer : List ℕ) : Type 0 where
    pub so_far : SoFar (Ran may from keeps more s) from more [] old new buffer

  -- nothing was taken yet, and the buffer is empty
  pub none_yet : (keeps : S → Type 0) (s : S) (t : DoorState) (b : List ℕ) → keeps s → b ≡ [] → Progress keeps most_requests s t t b
  none_yet keeps s t b kept empty = record {
    so_far = record {
      done = record {
        requests = [];
        answers = [];
        run = record { count = omega arith; next = s; kept = kept; run = (refl, refl) };
        taken = [];
        took = refl;
        state = sym (put_out_none t);
      };
      goes_on = (refl, sym empty);
    };
  }

  -- the next request came
  with_whole : (keeps : S → Type 0) (more : ℕ) (s : S) (old t u : DoorState) (b c : List ℕ) (shape : RequestShape) → Progress keeps more s old t b → (w : CameWhole from shape b c t u)
      → SoFar (Ran may from keeps more s) from more (leave_of w.request.head) old u c
  with_whole keeps more s old t u b c shape p w = serving.so_far_whole (Ran may from keeps more s) from more shape b c old t u p.so_far w

  -- it was carried out and answered
  with_answer : (keeps : S → Type 0) (more : ℕ) (s : S) (old t u v : DoorState) (b c answer : List ℕ) (shape : RequestShape) → Progress keeps more s old t b → (w : CameWhole from shape b c t u)
      → v ≡ put_out answer u → SoFar (Ran may from keeps more s) from more (leave_of w.request.head ++ answer) old v c
  with_answer keeps more s old t u v b c answer shape p w said =
      serving.so_far_said (Ran may from keeps more s) from more (leave_of w.request.head) answer c old u v (with_whole keeps more s old t u b c shape p w) said

  -- and the connection goes on behind it
  pub progress_more : (keeps keeps' : S → Type 0) (more less : ℕ) (s : S) (old t u v : DoorState) (b c d answer : List ℕ) (shape : RequestShape) (count : ℕ) → Progress keeps more s old t b
      → (w : CameWhole from shape b c t u) → v ≡ put_out answer u → 0 < more
      → ((at : S) → keeps at → CarriedOut may keeps' at (asked from more w.request) answer) → stop_after more w.request ≡ None
      → count ≡ shape.head_len + shape.body_len → d ≡ drop count c → less ≡ more - 1 → Progress keeps' less s old v d
  progress_more keeps keeps' more less s old t u v b c d answer shape count p w said some carried stop size rest fewer =
      let behind : d ≡ w.behind = rest ∙ subst (λ n. drop n c ≡ w.behind) (sym size) (behind_is from shape c w.request w.behind w.begins w.is_shape) in
      subst (λ n. Progress keeps' n s old v d) (sym fewer)
      (subst (λ o. Progress keeps' (more - 1) s old v o) (sym behind)
      (record {
        so_far = serving.so_far_answered (Ran may from keeps more s) (Ran may from keeps' (more - 1) s) from more (leave_of w.request.head ++ answer) c w.request w.behind old v
            (with_answer keeps more s old t u v b c answer shape p w said) w.begins stop (ran_more may from keeps keeps' more s w.request answer some carried);
      }))

  -- ---- Ends

  -- the requests and how they ended, from the state to the one behind them
  served_as : (keeps : S → Type 0) (more : ℕ) (s : S) (end : Ending) (last : List ℕ) (old new : DoorState) → (x : Served (Ran may from keeps more s) from end last old new)
      → Served (Run may refusal from s x.done.run.next) from end last old new
  served_as keeps more s end last old new x = record { done = serving.exchanged_as (Ran may from keeps more s) (Run may refusal from s x.done.run.next) last old new x.done x.done.run.run; reads = x.reads }

  pub ended_here : (keeps : S → Type 0) (more : ℕ) (s : S) (old : DoorView) (t : DoorState) (u : DoorView) (b c : List ℕ) → Progress keeps more s old.state t b → CameEnd b c t u.state
      → IsServed may refusal from keeps Ended s old u
  ended_here keeps more s old t u b c p end =
      let x = serving.ended_at (Ran may from keeps more s) from more b c old.state t u.state p.so_far end in
      record { next = x.done.run.next; kept = x.done.run.kept; served = served_as keeps more s ended [] old.state u.state x }

  stopped : (keeps keeps' : S → Type 0) (more : ℕ) (s : S) (end : Ending) (old t u v : DoorState) (b c answer : List ℕ) (shape : RequestShape) → Progress keeps more s old t b
      → (w : CameWhole from shape b c t u) → v ≡ put_out answer u → 0 < more
      → ((at : S) → keeps at → CarriedOut may keeps' at (asked from more w.request) answer) → stop_after more w.request ≡ Some end
      → Served (Ran may from keeps' (more - 1) s) from end [] old v
  stopped keeps keeps' more s end old t u v b c answer shape p w said some carried stop =
      serving.stopped_at (Ran may from keeps more s) (Ran may from keeps' (more - 1) s) from more end (leave_of w.request.head ++ answer) c w.request w.behind old v
      (with_answer keeps more s old t u v b c answer shape p w said) w.begins stop (ran_more may from keeps keeps' more s w.request answer some carried)

  pub closed_here : (keeps keeps' : S → Type 0) (more : ℕ) (s : S) (old : DoorView) (t u : DoorState) (v : DoorView) (b c answer : List ℕ) (shape : RequestShape) → Progress keeps more s old.state t b
      → (w : CameWhole from shape b c t u) → v.state ≡ put_out answer u → 0 < more
      → ((at : S) → keeps at → CarriedOut may keeps' at (asked from more w.request) answer) → stop_after more w.request ≡ Some closed
      → IsServed may refusal from keeps' Closed s old v
  closed_here keeps keeps' more s old t u v b c answer shape p w said some carried stop =
      let x = stopped keeps keeps' more s closed old.state t u v.state b c answer shape p w said some carried stop in
      record { next = x.done.run.next; kept = x.done.run.kept; served = served_as keeps' (more - 1) s closed [] old.state v.state x }

  pub spent_here : (keeps keeps' : S → Type 0) (more : ℕ) (s : S) (old : DoorView) (t u : DoorState) (v : DoorView) (b c answer : List ℕ) (shape : RequestShape) → Progress keeps more s old.state t b
      → (w : CameWhole from shape b c t u) → v.state ≡ put_out answer u → 0 < more
      → ((at : S) → keeps at → CarriedOut may keeps' at (asked from more w.request) answer) → stop_after more w.request ≡ Some spent
      → IsServed may refusal from keeps' Spent s old v
  spent_here keeps keeps' more s old t u v b c answer shape p w said some carried stop =
      let x = stopped keeps keeps' more s spent old.state t u v.state b c answer shape p w said some carried stop in
      record { next = x.done.run.next; kept = x.done.run.kept; served = served_as keeps' (more - 1) s spent [] old.state v.state x }

  -- the same progress, where the same state is still kept
  still : (keeps keeps' : S → Type 0) (more : ℕ) (s : S) (old t : DoorState) (b : List ℕ) → Progress keeps more s old t b → ((at : S) → keeps at → keeps' at) → Progress keeps' more s old t b
  still keeps keeps' more s old t b p kept =
      record { so_far = serving.so_far_as (Ran may from keeps more s) (Ran may from keeps' more s) from more [] b old t (ran_kept may from keeps keeps' more s kept) p.so_far }

  pub broken_here : (keeps keeps' : S → Type 0) (more : ℕ) (s : S) (old : DoorView) (t u : DoorState) (v : DoorView) (b c : List ℕ) (fault : RequestFault) → Progress keeps more s old.state t b
      → CameFault from fault b c t u → ((at : S) → keeps at → keeps' at) → v.state ≡ put_out (refusal fault) u → IsServed may refusal from keeps' Broken s old v
  broken_here keeps keeps' more s old t u v b c fault p came kept said =
      let now = still keeps keeps' more s old.state t b p kept in
      let x = serving.broken_at (Ran may from keeps' more s) from more refusal fault b c old.state t u v.state now.so_far came said in
      record {
        next = x.served.done.run.next;
        kept = x.served.done.run.kept;
        served = record {
          fault = x.fault;
          pending = x.pending;
          served = served_as keeps' more s _ _ old.state v.state x.served;
        };
      }

  -- ---- Failing calls

  pub read_failed_here : (keeps : S → Type 0) (more : ℕ) (s : S) (old : DoorView) (t : DoorState) (u : DoorView) (b c : List ℕ) → Progress keeps more s old.state t b → steps.ReadFailed from b c t u.state
      → IsServed may refusal from keeps ReadFailed s old u
  read_failed_here keeps more s old t u b c p failed =
      let x = serving.read_failed_at (Ran may from keeps more s) from more b c old.state t u.state p.so_far failed in
      record {
        next = x.done.run.next;
        kept = x.done.run.kept;
        served = record {
          pending = x.pending;
          done = serving.exchanged_as (Ran may from keeps more s) (Run may refusal from s x.done.run.next) _ old.state u.state x.done x.done.run.run;
          more = x.more;
          rest = x.rest;
          goes_on = x.goes_on;
          awaits = x.awaits;
        };
      }

  -- a write failed behind the answers, and nothing more was carried out
  piece_failed : (keeps : S → Type 0) (more : ℕ) (s : S) (old new : DoorView) → FailedPiece (Ran may from keeps more s) from refusal old.state new.state → IsServed may refusal from keeps WriteFailed s old new
  piece_failed keeps more s old new x = record {
    next = x.done.run.next;
    kept = x.done.run.kept;
    served = inl (record {
      piece = x.piece;
      count = x.count;
      part = x.part;
      done = serving.exchanged_as (Ran may from keeps more s) (Run may refusal from s x.done.run.next) (take x.count x.piece) old.state new.state x.done x.done.run.run;
      more = x.more;
      rest = x.rest;
      goes_on = x.goes_on;
      next = x.next;
    });
  }

  pub leave_failed_here : (keeps : S → Type 0) (more : ℕ) (s : S) (old : DoorView) (t : DoorState) (u : DoorView) (b c : List ℕ) → Progress keeps more s old.state t b → steps.LeaveFailed from b c t u.state
      → IsServed may refusal from keeps WriteFailed s old u
  leave_failed_here keeps more s old t u b c p failed =
      piece_failed keeps more s old u (serving.leave_failed_at (Ran may from keeps more s) from more refusal b c old.state t u.state p.so_far failed)

  pub refusal_failed_here : (keeps keeps' : S → Type 0) (more : ℕ) (s : S) (old : DoorView) (t u : DoorState) (v : DoorView) (b c : List ℕ) (fault : RequestFault) → Progress keeps more s old.state t b
      → CameFault from fault b c t u → ((at : S) → keeps at → keeps' at) → WrotePart (refusal fault) u v.state → IsServed may refusal from keeps' WriteFailed s old v
  refusal_failed_here keeps keeps' more s old t u v b c fault p came kept wrote =
      let now = still keeps keeps' more s old.state t b p kept in
      piece_failed keeps' more s old v (serving.refusal_failed_at (Ran may from keeps' more s) from more refusal fault b c old.state t u v.state now.so_far came wrote)

  pub answer_failed_here : (keeps keeps' : S → Type 0) (more : ℕ) (s : S) (old : DoorView) (t u : DoorState) (v : DoorView) (b c answer : List ℕ) (shape : RequestShape) → Progress keeps more s old.state t b
      → (w : CameWhole from shape b c t u) → WrotePart answer u v.state → 0 < more
      → ((at : S) → keeps at → CarriedOut may keeps' at (asked from more w.request) answer) → IsServed may refusal from keeps' WriteFailed s old v
  answer_failed_here keeps keeps' more s old t u v b c answer shape p w wrote some carried =
      let x = serving.answer_failed_at (Ran may from keeps more s) (Ran may from keeps' (more - 1) s) from more (leave_of w.request.head) answer c w.request w.behind old.state u v.state
      (with_whole keeps more s old.state t u b c shape p w) w.begins wrote (ran_more may from keeps keeps' more s w.request answer some carried) in
      record {
        next = x.ran.next;
        kept = x.ran.kept;
        served = inr (record {
          text = x.text;
          count = x.count;
          part = x.part;
          done = serving.exchanged_as (Ran may from keeps more s) (RunOn may refusal from s) (take x.count x.text) old.state v.state x.done (x.done.run.next, x.done.run.run);
          more = x.more;
          rest = x.rest;
          goes_on = x.goes_on;
          request = x.request;
          behind = x.behind;
          next = x.next;
          ran = x.ran.run;
        });
      }
