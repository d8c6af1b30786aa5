-- What a head says of the message (RFC 9112, section 6; RFC 9110, sections 8.6 and 10.1.1), and why it may be refused.
use Rattle.std.specs.Prelude.{ℕ, ◌==◌, Bool, true, false, not, ◌&&◌, ◌||◌, nat_lt, bytes_eq, List, [], ◌∷◌, ◌++◌, Option, Some, None, is_none, if◌then◌else◌, codes, length}
use Rattle.std.specs.Str.Parse.{digits_value}
use Rattle.httparse.specs.Grammar.{RequestHead}
use Rattle.mud_base.specs.Reading.{moment_in}
use Rattle.http_requests.specs.declared.fault.FramingFault.{FramingFault}
use Rattle.http_requests.specs.declared.fault.FramingFault.TheVariants.{Head, Coding, Length, Long, NoLength, Moment, Cut}
use Rattle.http_requests.specs.declared.fault.MomentFrom.{MomentFrom}
use Rattle.http_requests.specs.declared.fault.MomentFrom.TheVariants.{Clock, Header}
use Rattle.http_requests.specs.Fields.{fields_of, has_field, values_of, lists_word, has_value, is_length}

-- ---- The length of the body

-- the values of the `Content-Length` fields
abbrev pub lengths : List (List ℕ × List ℕ) → List (List ℕ)
lengths fields = values_of (codes "content-length") fields

-- there is none of them, or one that is a length
abbrev pub are_lengths : List (List ℕ) → Bool
are_lengths [] = true
are_lengths (v ∷ []) = is_length v
are_lengths (v ∷ w ∷ more) = false

-- the number that they say: 0 where there is none
abbrev pub length_by : List (List ℕ) → ℕ
length_by [] = 0
length_by (v ∷ more) = digits_value 10 v

-- whether there is none
abbrev pub is_silent : List (List ℕ) → Bool
is_silent [] = true
is_silent (v ∷ more) = false

-- the method is HEAD, and an answer to it has no content (RFC 9110, 9.3.2)
unfoldable pub is_head : List ℕ → Bool
is_head method = bytes_eq method (codes "HEAD")

-- a request of these methods may lack a length, and then it has no body
abbrev pub may_lack_length : List ℕ → Bool
may_lack_length method = bytes_eq method (codes "GET") || is_head method

-- ---- The moment

-- the one value of a list that is a moment
abbrev pub one_moment : List (List ℕ) → Option ℕ
one_moment [] = None
one_moment (v ∷ []) = moment_in v
one_moment (v ∷ w ∷ more) = None

-- the moment that a request gives by its only `Mud-Moment` field, where moments come from headers
abbrev pub moment_by : MomentFrom → List (List ℕ × List ℕ) → Option ℕ
moment_by Clock fields = None
moment_by Header fields = one_moment (values_of (codes "mud-moment") fields)

-- whether a moment is wanted and there isn't one
abbrev pub lacks_moment : MomentFrom → List (List ℕ × List ℕ) → Bool
lacks_moment Clock fields = false
lacks_moment Header fields = is_none (one_moment (values_of (codes "mud-moment") fields))

-- ---- The table of refusals

-- The reasons to refuse a head, in their order, each with its test.
abbrev pub reasons : MomentFrom → List ℕ → List (List ℕ × List ℕ) → List (Bool × FramingFault)
reasons from method fields =
    (has_field (codes "transfer-encoding") fields, Coding)
    ∷ (not (are_lengths (lengths fields)), Length)
    ∷ (nat_lt 524288 (length_by (lengths fields)), Long)
    ∷ (is_silent (lengths fields) && not (may_lack_length method), NoLength)
    ∷ (lacks_moment from fields, Moment)
    ∷ []

-- the first of them whose test holds
abbrev pub first_reason : List (Bool × FramingFault) → Option FramingFault
first_reason [] = None
first_reason (r ∷ rs) = if r.0 then Some r.1 else first_reason rs

-- why the head is refused, if it is
unfoldable pub refusal_of : MomentFrom → RequestHead → Option FramingFault
refusal_of from head = first_reason (reasons from head.method (fields_of head))

-- the status of the answer to a fault (RFC 9110, 15.5 and 15.6)
abbrev pub status_of : FramingFault → ℕ
status_of Head = 400
status_of Coding = 501
status_of Length = 400
status_of Long = 413
status_of NoLength = 411
status_of Moment = 400
status_of Cut = 400

-- the rule that the body of that answer names
abbrev pub rule_of : FramingFault → List ℕ
rule_of Head = codes "head"
rule_of Coding = codes "coding"
rule_of Length = codes "length"
rule_of Long = codes "long"
rule_of NoLength = codes "no-length"
rule_of Moment = codes "moment"
rule_of Cut = codes "cut"

-- ---- What a head that isn't refused says

-- how many octets of body follow the head
unfoldable pub body_length : RequestHead → ℕ
body_length head = length_by (lengths (fields_of head))

-- the moment that the request gives
unfoldable pub moment_of : MomentFrom → RequestHead → Option ℕ
moment_of from head = moment_by from (fields_of head)

unfoldable pub closes : RequestHead → Bool
closes head = closes_by head.minor (fields_of head)
  where
    -- A connection ends after a request of HTTP/1.0, and where the client says so (RFC 9112, 9.6).
    closes_by : ℕ → List (List ℕ × List ℕ) → Bool
    closes_by minor fields = minor == 0 || lists_word (codes "connection") (codes "close") fields

unfoldable pub awaits_leave : RequestHead → Bool
awaits_leave head = awaits_by head.minor (body_length head) (fields_of head)
  where
    -- A client of HTTP/1.1 waits for leave to send a body, where it says so (RFC 9110, 10.1.1).
    awaits_by : ℕ → ℕ → List (List ℕ × List ℕ) → Bool
    awaits_by minor body_len fields = minor == 1 && nat_lt 0 body_len && has_value (codes "expect") (codes "100-continue") fields

-- what is written between a head and its body: `HTTP/1.1 100 Continue` and an empty line, or nothing
unfoldable pub leave_of : RequestHead → List ℕ
leave_of head = if awaits_leave head then (codes "HTTP/1.1 100 Continue" ++ 13 ∷ 10 ∷ 13 ∷ 10 ∷ []) else []
