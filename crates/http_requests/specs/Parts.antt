-- The parts of a whole request, as they are lent.
use Rattle.std.specs.Prelude.{◌≡◌}
use Rattle.http_requests.specs.declared.fault.MomentFrom.{MomentFrom}
use Rattle.http_requests.specs.declared.parts.RequestParts.{RequestParts}
use Rattle.http_requests.specs.Framing.{closes, moment_of}
use Rattle.http_requests.specs.Requests.{Request, path_of}

-- The parts are those of the request.
pub record AreParts (from : MomentFrom) (request : Request) (parts : RequestParts) : Type 0 where
  pub method : parts.method.now ≡ request.head.method
  pub path : parts.path.now ≡ path_of request.head
  pub body : parts.body.now ≡ request.body
  pub closes : parts.closes ≡ closes request.head
  pub moment : parts.moment ≡ moment_of from request.head
