-- Answers as octets.
use Rattle.std.specs.Prelude.{◌≡◌, ℕ, Bool, true, List, None}
use Rattle.http_requests.specs.Requests.{Request}
use Rattle.http_requests.specs.declared.fault.FramingFault.{FramingFault}
use Rattle.http_requests.specs.declared.fault.FramingFault.TheVariants.{Head, Coding, Length, Long, NoLength, Moment, Cut}
use Rattle.http_requests.specs.declared.fault.RequestFault.{RequestFault}
use Rattle.http_requests.specs.Framing.{is_head, rule_of}
use Rattle.console_answers.specs.declared.status.Status.{Status}
use Rattle.console_answers.specs.declared.status.Status.TheVariants.{BadRequest, LengthRequired, NoStorage, TooLarge, NotImplemented}
use Rattle.console_answers.specs.Heads.{answer_of}
use Rattle.console_answers.specs.Bodies.Outcomes.{rule_body}
use Rattle.desk_model.specs.Sessions.{Session}
use Rattle.console.specs.Replies.{Reply}
use Rattle.console.specs.Requests.{AllowedResponse, NeedsMemory}

-- the octets of a reply to a request by this method, behind which the connection may end: the head alone where it is HEAD
unfoldable pub octets_of : List ℕ → Bool → Reply → List ℕ
octets_of method closes reply = answer_of reply.status reply.allow closes (is_head method) reply.body

-- What may be answered to a request that is given this moment, behind which the connection may end: the status, the octets,
-- and the session after it. It is 507 only where memory may be wanted.
pub record AllowedAnswer (session : Session) (given : ℕ) (request : Request) (closes : Bool) (status : Status) (octets : List ℕ) (after : Session) : Type 0 where
  pub reply : Reply
  pub may : AllowedResponse session given request reply after
  pub status_is : status ≡ reply.status
  pub octets_are : octets ≡ octets_of request.head.method closes reply
  pub wanted : status ≡ NoStorage → NeedsMemory session given request

-- ---- Faults that end a connection

-- (RFC 9110, 15.5 and 15.6)
unfoldable pub fault_status : FramingFault → Status
fault_status Head = BadRequest
fault_status Coding = NotImplemented
fault_status Length = BadRequest
fault_status Long = TooLarge
fault_status NoLength = LengthRequired
fault_status Moment = BadRequest
fault_status Cut = BadRequest

-- the octets of the answer, which names the rule that is broken: the head alone where the method is HEAD (RFC 9110, 9.3.2);
-- the connection ends behind it
unfoldable pub fault_answer : RequestFault → List ℕ
fault_answer fault = answer_of (fault_status fault.framing) None true fault.is_head (rule_body (rule_of fault.framing))
