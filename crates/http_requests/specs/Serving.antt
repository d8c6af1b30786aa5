-- What is done at a connection, whatever the answers are: `A requests answers` says that these requests, from the first one on,
-- were answered by these octets. A layer above puts its state into it.
use Rattle.std.specs.Prelude.{◌≡◌, ℕ, ◌<◌, ◌⊎◌, List, [], ◌∷◌, ◌++◌, length, take, None}
use Rattle.mud_world.specs.Door.{DoorState, put_out, with_left}
use Rattle.httparse.specs.Grammar.{RequestHead}
use Rattle.http_requests.specs.declared.fault.RequestFault.{RequestFault}
use Rattle.http_requests.specs.declared.fault.MomentFrom.{MomentFrom}
use Rattle.http_requests.specs.Head.{IsHead}
use Rattle.http_requests.specs.Framing.{refusal_of, leave_of}
use Rattle.http_requests.specs.Requests.{Request, Begins, IsFault, Ending, broken, AreRequests, GoOn, most_requests}
use Rattle.http_requests.specs.Shapes.{AwaitsMore}

-- Requests were taken of the connection and answered, and behind their answers `last` was written.
pub record Exchanged (A : List Request → List ℕ → Type 0) (last : List ℕ) (old new : DoorState) : Type 0 where
  pub requests : List Request
  pub answers : List ℕ
  pub run : A requests answers
  pub taken : List ℕ
  pub took : old.left ≡ taken ++ new.left
  pub state : new ≡ put_out (answers ++ last) (with_left new.left old)

-- The octets that were left of the connection are these requests, which were answered, and then `last` was written.
pub record Served (A : List Request → List ℕ → Type 0) (from : MomentFrom) (end : Ending) (last : List ℕ) (old new : DoorState) : Type 0 where
  pub done : Exchanged A last old new
  pub reads : AreRequests from most_requests old.left done.requests end

-- The connection ended with a fault, which was answered.
pub record ServedFault (A : List Request → List ℕ → Type 0) (from : MomentFrom) (refusal : RequestFault → List ℕ) (old new : DoorState) : Type 0 where
  pub fault : RequestFault
  pub pending : List ℕ
  pub served : Served A from (broken fault pending) (pending ++ refusal fault) old new

-- A read failed. All requests of the octets that were taken were answered, none of which ends the connection, and behind them
-- nothing is decided yet. Nothing else was written but the leave for the body whose head stands there.
pub record ServedTaken (A : List Request → List ℕ → Type 0) (from : MomentFrom) (old new : DoorState) : Type 0 where
  pub pending : List ℕ
  pub done : Exchanged A pending old new
  pub more : ℕ
  pub rest : List ℕ
  pub goes_on : GoOn from most_requests done.taken done.requests more rest
  pub awaits : AwaitsMore from rest pending

-- What is written next, where no further request is carried out: the leave for the body of the head that stands there, or the
-- answer to the fault.
pub record IsNextPiece (from : MomentFrom) (refusal : RequestFault → List ℕ) (octets piece : List ℕ) : Type 0 where
  pub piece_is : ((head : RequestHead) × (rest : List ℕ) × IsHead octets head rest × (refusal_of from head ≡ None) × (piece ≡ leave_of head))
      ⊎ ((fault : RequestFault) × (pending : List ℕ) × IsFault from octets fault pending × (piece ≡ pending ++ refusal fault))

-- A write failed, of what is written next behind the answers of the requests at the front.
pub record FailedPiece (A : List Request → List ℕ → Type 0) (from : MomentFrom) (refusal : RequestFault → List ℕ) (old new : DoorState) : Type 0 where
  pub piece : List ℕ
  pub count : ℕ
  pub part : count < length piece
  pub done : Exchanged A (take count piece) old new
  pub more : ℕ
  pub rest : List ℕ
  pub goes_on : GoOn from most_requests old.left done.requests more rest
  pub next : IsNextPiece from refusal rest piece

-- A write failed, of the text that answers one request more, which was carried out. A says what was answered before it, and B what
-- was carried out with it.
pub record FailedAnswer (A B : List Request → List ℕ → Type 0) (from : MomentFrom) (old new : DoorState) : Type 0 where
  pub text : List ℕ
  pub count : ℕ
  pub part : count < length text
  pub done : Exchanged A (take count text) old new
  pub more : ℕ
  pub rest : List ℕ
  pub goes_on : GoOn from most_requests old.left done.requests more rest
  pub request : Request
  pub behind : List ℕ
  pub next : Begins from rest request behind
  pub ran : B (done.requests ++ request ∷ []) (done.answers ++ text)
