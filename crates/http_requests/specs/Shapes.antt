-- Where the parts of a request stand among octets.
use Rattle.std.specs.Prelude.{◌≡◌, ℕ, ◌<◌, ◌⊎◌, List, [], ◌++◌, length, drop, map, None}
use Rattle.httparse.specs.declared.spans.HeaderSpan.{HeaderSpan}
use Rattle.httparse.specs.declared.spans.RequestSpans.{RequestSpans}
use Rattle.httparse.specs.Grammar.{RequestHead, print_request, MayBecomeRequest}
use Rattle.httparse.specs.Spans.{RequestExceeds, span_bytes, header_bytes}
use Rattle.http_requests.specs.Fields.{fields_of}
use Rattle.http_requests.specs.declared.fault.RequestFault.{RequestFault}
use Rattle.http_requests.specs.declared.fault.MomentFrom.{MomentFrom}
use Rattle.http_requests.specs.declared.shape.RequestShape.{RequestShape}
use Rattle.http_requests.specs.Head.{IsHead, HasNoHead}
use Rattle.http_requests.specs.Framing.{is_head, refusal_of, body_length, moment_of, closes, awaits_leave}
use Rattle.http_requests.specs.Requests.{IsCut, IsFault, path_of}

-- The shape is that of the head. Its offsets count from the front of the head.
pub record IsShape (from : MomentFrom) (shape : RequestShape) (head : RequestHead) : Type 0 where
  pub method : span_bytes (print_request head) shape.method ≡ head.method
  pub path : span_bytes (print_request head) shape.path ≡ path_of head
  pub head_len : shape.head_len ≡ length (print_request head)
  pub body_len : shape.body_len ≡ body_length head
  pub closes : shape.closes ≡ closes head
  pub moment : shape.moment ≡ moment_of from head
  pub awaits_leave : shape.awaits_leave ≡ awaits_leave head
  pub is_head : shape.is_head ≡ is_head head.method

-- At the front of the octets stands a head that isn't refused, of this shape.
pub record HasHead (from : MomentFrom) (octets : List ℕ) (shape : RequestShape) : Type 0 where
  pub head : RequestHead
  pub rest : List ℕ
  pub is_head : IsHead octets head rest
  pub taken : refusal_of from head ≡ None
  pub is_shape : IsShape from shape head

-- More octets can make a head of them, or they end inside a target, or they have more than 64 fields already.
abbrev pub IsUnfinished : List ℕ → Type 0
IsUnfinished octets = MayBecomeRequest octets ⊎ RequestExceeds 64 octets

-- No front of the octets is a head, and the octets aren't refused yet.
pub record MayGetHead (octets : List ℕ) : Type 0 where
  pub none : HasNoHead octets
  pub few : length octets < 8192
  pub unfinished : 0 < length octets → IsUnfinished octets

-- Nothing is decided yet: no head stands there and one may come, or the octets end inside a body. `pending` is the leave for
-- that body.
pub record AwaitsMore (from : MomentFrom) (octets pending : List ℕ) : Type 0 where
  pub part : (MayGetHead octets × (pending ≡ [])) ⊎ ((fault : RequestFault) × IsCut from octets fault pending)

-- The spans are those of the head, at the front of the octets.
pub record AreSpans (octets : List ℕ) (headers : List HeaderSpan) (spans : RequestSpans) (head : RequestHead) : Type 0 where
  pub front : octets ≡ print_request head ++ drop spans.len octets
  pub len : spans.len ≡ length (print_request head)
  pub method : span_bytes octets spans.method ≡ head.method
  pub target : span_bytes octets spans.path ≡ head.target
  pub version : spans.version ≡ head.minor
  pub fields : map (header_bytes octets) headers ≡ fields_of head

-- Whatever octets follow, the connection ends here with this fault.
pub record EndsBroken (from : MomentFrom) (octets : List ℕ) (fault : RequestFault) : Type 0 where
  pub some : 0 < length octets
  pub always : (later : List ℕ) → IsFault from (octets ++ later) fault []
