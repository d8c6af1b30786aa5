-- What is done at a connection until its next whole request is there.
use Rattle.std.specs.Prelude.{◌≡◌, ℕ, ◌<◌, List, [], ◌++◌, length, take, None}
use Rattle.mud_world.specs.Door.{DoorState, put_out, with_left}
use Rattle.httparse.specs.Grammar.{RequestHead}
use Rattle.http_requests.specs.declared.fault.RequestFault.{RequestFault}
use Rattle.http_requests.specs.declared.fault.MomentFrom.{MomentFrom}
use Rattle.http_requests.specs.declared.shape.RequestShape.{RequestShape}
use Rattle.http_requests.specs.Head.{IsHead}
use Rattle.http_requests.specs.Framing.{refusal_of, leave_of}
use Rattle.http_requests.specs.Requests.{Request, Begins, IsFault}
use Rattle.http_requests.specs.Shapes.{IsShape, AwaitsMore}

-- Octets were taken of the connection and came behind those that were held, and these were written to it.
pub record Came (before after : List ℕ) (old new : DoorState) (written : List ℕ) : Type 0 where
  pub taken : List ℕ
  pub held : after ≡ before ++ taken
  pub left : old.left ≡ taken ++ new.left
  pub rest : new ≡ put_out written (with_left new.left old)

-- The next whole request is held. Leave was given for its body, where the client waits for that.
pub record CameWhole (from : MomentFrom) (shape : RequestShape) (before after : List ℕ) (old new : DoorState) : Type 0 where
  pub request : Request
  pub behind : List ℕ
  pub begins : Begins from after request behind
  pub is_shape : IsShape from shape request.head
  pub came : Came before after old new (leave_of request.head)

-- A whole request of this shape is held, and octets behind it.
pub record HoldsWhole (from : MomentFrom) (shape : RequestShape) (octets : List ℕ) : Type 0 where
  pub request : Request
  pub behind : List ℕ
  pub begins : Begins from octets request behind
  pub is_shape : IsShape from shape request.head

-- The connection ended between two requests.
pub record CameEnd (before after : List ℕ) (old new : DoorState) : Type 0 where
  pub none : after ≡ []
  pub nothing_left : new.left ≡ []
  pub came : Came before after old new []

-- What is held and what is left of the connection end with the fault.
pub record CameFault (from : MomentFrom) (fault : RequestFault) (before after : List ℕ) (old new : DoorState) : Type 0 where
  pub pending : List ℕ
  pub is_fault : IsFault from (after ++ new.left) fault pending
  pub came : Came before after old new pending

-- A read failed before the next request was whole, and before it was known that it can't be.
pub record ReadFailed (from : MomentFrom) (before after : List ℕ) (old new : DoorState) : Type 0 where
  pub pending : List ℕ
  pub awaits : AwaitsMore from after pending
  pub came : Came before after old new pending

-- A write of the leave for a body failed.
pub record LeaveFailed (from : MomentFrom) (before after : List ℕ) (old new : DoorState) : Type 0 where
  pub head : RequestHead
  pub behind : List ℕ
  pub is_head : IsHead after head behind
  pub taken : refusal_of from head ≡ None
  pub count : ℕ
  pub part : count < length (leave_of head)
  pub came : Came before after old new (take count (leave_of head))
