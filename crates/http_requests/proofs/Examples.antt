-- Heads and requests that are written out.
use Rattle.std.proofs.Common.{◌≡◌, ℕ, true, false, List, [], ◌∷◌, length, Some, None, refl}
use Rattle.std.specs.Prelude.{codes}
use Rattle.httparse.specs.Grammar.{RequestHead, Field, crlf}
use Rattle.http_requests.specs.declared.fault.FramingFault.TheVariants.{Coding, Length, Long, NoLength, Moment}
use Rattle.http_requests.specs.declared.fault.MomentFrom.TheVariants.{Clock, Header}
use Rattle.http_requests.specs.Framing.{refusal_of, body_length, moment_of, closes, leave_of}
use Rattle.http_requests.specs.Requests.{path_of}
use Rattle.http_requests.proofs.OnLiterals.{requests_on_literals}

abbrev pub field : List ℕ → List ℕ → Field
field name raw = record { name = name; raw = raw; end = crlf }

abbrev pub head_of : List ℕ → List ℕ → ℕ → List Field → RequestHead
head_of method target minor fields = record {
  blank = [];
  method = method;
  target = target;
  minor = minor;
  line_end = crlf;
  fields = fields;
  last = crlf;
}

abbrev pub moment : Field
moment = field (codes "Mud-Moment") (codes " 5")

abbrev pub length_of : List ℕ → Field
length_of digits = field (codes "Content-Length") digits

-- a request that is taken, with its path, moment and length
abbrev pub put : RequestHead
put = head_of (codes "PUT") (codes "/locals?new") 1 (moment ∷ length_of (codes " 29") ∷ [])

put_is_taken : refusal_of Header put ≡ None
unfolding requests_on_literals
put_is_taken = refl

put_parts : (path_of put ≡ codes "/locals") × (moment_of Header put ≡ Some 5) × (body_length put ≡ 29) × (closes put ≡ false)
unfolding requests_on_literals
put_parts = (refl, refl, refl, refl)

-- 524,288 octets are the most
most_is_taken : refusal_of Header (head_of (codes "PUT") (codes "/") 1 (moment ∷ length_of (codes "524288") ∷ [])) ≡ None
unfolding requests_on_literals
most_is_taken = refl

one_more_is_long : refusal_of Header (head_of (codes "PUT") (codes "/") 1 (moment ∷ length_of (codes "524289") ∷ [])) ≡ Some Long
unfolding requests_on_literals
one_more_is_long = refl

-- ten digits are a length, eleven aren't
ten_digits : refusal_of Header (head_of (codes "PUT") (codes "/") 1 (moment ∷ length_of (codes "0000000029") ∷ [])) ≡ None
unfolding requests_on_literals
ten_digits = refl

eleven_digits : refusal_of Header (head_of (codes "PUT") (codes "/") 1 (moment ∷ length_of (codes "00000000029") ∷ [])) ≡ Some Length
unfolding requests_on_literals
eleven_digits = refl

other_octets : refusal_of Header (head_of (codes "PUT") (codes "/") 1 (moment ∷ length_of (codes "29x") ∷ [])) ≡ Some Length
unfolding requests_on_literals
other_octets = refl

-- two lengths are refused, also where they are the same
two_lengths : refusal_of Header (head_of (codes "PUT") (codes "/") 1 (length_of (codes "29") ∷ moment ∷ length_of (codes "29") ∷ [])) ≡ Some Length
unfolding requests_on_literals
two_lengths = refl

-- a transfer coding comes before a broken length
coding_first : refusal_of Header (head_of (codes "PUT") (codes "/") 1 (length_of (codes "x") ∷ field (codes "transfer-ENCODING") (codes "chunked") ∷ [])) ≡ Some Coding
unfolding requests_on_literals
coding_first = refl

-- HEAD and GET may lack a length, other methods may not
head_without_length : refusal_of Clock (head_of (codes "HEAD") (codes "/things") 1 []) ≡ None
unfolding requests_on_literals
head_without_length = refl

delete_without_length : refusal_of Clock (head_of (codes "DELETE") (codes "/things") 1 []) ≡ Some NoLength
unfolding requests_on_literals
delete_without_length = refl

lower_case_get : refusal_of Clock (head_of (codes "get") (codes "/things") 1 []) ≡ Some NoLength
unfolding requests_on_literals
lower_case_get = refl

-- a moment is wanted where moments come from headers, once and in the grammar of moments
no_moment : refusal_of Header (head_of (codes "GET") (codes "/things") 1 []) ≡ Some Moment
unfolding requests_on_literals
no_moment = refl

two_moments : refusal_of Header (head_of (codes "GET") (codes "/things") 1 (moment ∷ moment ∷ [])) ≡ Some Moment
unfolding requests_on_literals
two_moments = refl

leading_zero : refusal_of Header (head_of (codes "GET") (codes "/things") 1 (field (codes "mud-moment") (codes "05") ∷ [])) ≡ Some Moment
unfolding requests_on_literals
leading_zero = refl

-- HTTP/1.0 closes, and so does the word in a list
old_closes : closes (head_of (codes "GET") (codes "/") 0 []) ≡ true
unfolding requests_on_literals
old_closes = refl

word_closes : closes (head_of (codes "GET") (codes "/") 1 (field (codes "connection") (codes "keep-alive , Close") ∷ [])) ≡ true
unfolding requests_on_literals
word_closes = refl

other_word_keeps : closes (head_of (codes "GET") (codes "/") 1 (field (codes "connection") (codes "closed, keep-alive") ∷ [])) ≡ false
unfolding requests_on_literals
other_word_keeps = refl

-- leave is for a body, and for HTTP/1.1
abbrev expects : Field
expects = field (codes "Expect") (codes "100-Continue")

leave_is_due : length (leave_of (head_of (codes "PUT") (codes "/") 1 (expects ∷ length_of (codes "1") ∷ []))) ≡ 25
unfolding requests_on_literals
leave_is_due = refl

no_leave_for_no_body : leave_of (head_of (codes "PUT") (codes "/") 1 (expects ∷ length_of (codes "0") ∷ [])) ≡ []
unfolding requests_on_literals
no_leave_for_no_body = refl

no_leave_for_old : leave_of (head_of (codes "PUT") (codes "/") 0 (expects ∷ length_of (codes "1") ∷ [])) ≡ []
unfolding requests_on_literals
no_leave_for_old = refl
