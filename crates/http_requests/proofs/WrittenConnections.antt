-- Connections that are written out.
use Rattle.std.proofs.Common.{◌≡◌, ℕ, ◌<◌, ◌≤◌, Bool, true, false, List, [], ◌∷◌, ◌++◌, length, refl, inl, inr, lit<, lit≤, ltb-true}
use Rattle.std.specs.Prelude.{codes, All, IsTrue, nat_lt}
use Rattle.std.specs.List.{list_all}
use Rattle.std.specs.Str.{IsUtf8}
use Rattle.std.proofs.lemmas.List.Elements.{All-nil, All-cons, All-weaker}
use Rattle.std.proofs.lemmas.Str.{IsUtf8-from_ascii}
use Rattle.std.proofs.lemmas.Str.Ascii.{IsAscii-from_all}
use Rattle.httparse.specs.Grammar.{RequestHead, IsRequestHead, Field, IsField, AllPass, is_token_byte, is_uri_byte, is_value_byte}
use Rattle.http_requests.specs.declared.fault.FramingFault.TheVariants.{Length, Cut}
use Rattle.http_requests.specs.declared.fault.MomentFrom.TheVariants.{Header}
use Rattle.http_requests.specs.Requests.{Request, Begins, AreRequests, closed, broken, most_requests}
use Rattle.http_requests.proofs.OnLiterals.{requests_on_literals}
use Rattle.http_requests.proofs.Examples.{head_of, moment, length_of, put}
use Rattle.std.proofs.lemmas.Bool.{and_parts}

pass : (test : ℕ → Bool) (octets : List ℕ) → list_all test octets ≡ true → AllPass test octets
pass test [] e = All-nil (λ o. IsTrue (test o))
pass test (o ∷ os) e =
    let parts = and_parts (test o) (list_all test os) e in
    All-cons (λ o. IsTrue (test o)) o os parts.0 (pass test os parts.1)

ascii : (octets : List ℕ) → list_all (λ o. nat_lt o 128) octets ≡ true → IsUtf8 octets
ascii octets e = IsUtf8-from_ascii octets (IsAscii-from_all octets (All-weaker (λ o. IsTrue (nat_lt o 128)) (λ o. o < 128) (λ o t. ltb-true o 128 t) octets (pass (λ o. nat_lt o 128) octets e)))

is_field : (f : Field) → 0 < length f.name → list_all is_token_byte f.name ≡ true → list_all is_value_byte f.raw ≡ true → IsField f
is_field f some name raw = record { name = (some, pass is_token_byte f.name name); raw = pass is_value_byte f.raw raw }

is_head_tree : (h : RequestHead) → 0 < length h.method → list_all is_token_byte h.method ≡ true → 0 < length h.target → list_all is_uri_byte h.target ≡ true → list_all (λ o. nat_lt o 128) h.target ≡ true → h.minor ≤ 1 → All IsField h.fields → IsRequestHead h
is_head_tree h some method target octets text minor fields = record {
  method = (some, pass is_token_byte h.method method);
  target = (target, pass is_uri_byte h.target octets);
  target_text = ascii h.target text;
  minor = minor;
  fields = fields;
}

abbrev line : List ℕ → List ℕ
line text = text ++ 13 ∷ 10 ∷ []

abbrev body : List ℕ
body = codes "{'prefixes':['192.0.2.0/24']}"

-- a request of HTTP/1.1 with a body of 29 octets
abbrev put_octets : List ℕ
put_octets = line (codes "PUT /locals?new HTTP/1.1") ++ line (codes "Mud-Moment: 5") ++ line (codes "Content-Length: 29") ++ line [] ++ body

-- a request of HTTP/1.0
abbrev get : RequestHead
get = head_of (codes "GET") (codes "/things") 0 (moment ∷ [])

abbrev get_octets : List ℕ
get_octets = line (codes "GET /things HTTP/1.0") ++ line (codes "Mud-Moment: 5") ++ line []

moment_is_field : IsField moment
unfolding requests_on_literals
moment_is_field = is_field moment (lit< tt) refl refl

length_is_field : IsField (length_of (codes " 29"))
unfolding requests_on_literals
length_is_field = is_field (length_of (codes " 29")) (lit< tt) refl refl

put_is_head : IsRequestHead put
unfolding requests_on_literals
put_is_head = is_head_tree put (lit< tt) refl (lit< tt) refl refl (lit≤ tt)
    (All-cons IsField moment (length_of (codes " 29") ∷ []) moment_is_field (All-cons IsField (length_of (codes " 29")) [] length_is_field (All-nil IsField)))

get_is_head : IsRequestHead get
unfolding requests_on_literals
get_is_head = is_head_tree get (lit< tt) refl (lit< tt) refl refl (lit≤ tt) (All-cons IsField moment [] moment_is_field (All-nil IsField))

abbrev put_request : Request
put_request = record { head = put; body = body }

abbrev get_request : Request
get_request = record { head = get; body = [] }

put_begins : Begins Header (put_octets ++ get_octets ++ codes "more") put_request (get_octets ++ codes "more")
unfolding requests_on_literals
put_begins = record {
  head = record { reads = (put_is_head, refl); fields = lit≤ tt; size = lit≤ tt };
  taken = refl;
  body = refl;
}

get_begins : Begins Header (get_octets ++ codes "more") get_request (codes "more")
unfolding requests_on_literals
get_begins = record {
  head = record { reads = (get_is_head, refl); fields = lit≤ tt; size = lit≤ tt };
  taken = refl;
  body = refl;
}

-- Two requests, one behind the other. The second one closes the connection, and the octets behind it aren't read.
two_requests : AreRequests Header most_requests (put_octets ++ get_octets ++ codes "more") (put_request ∷ get_request ∷ []) closed
unfolding requests_on_literals
two_requests = (get_octets ++ codes "more", put_begins, inr (refl, (codes "more", get_begins, inl (refl, refl))))

-- A body without its last octet.
abbrev cut_octets : List ℕ
cut_octets = line (codes "PUT /locals?new HTTP/1.1") ++ line (codes "Mud-Moment: 5") ++ line (codes "Content-Length: 29") ++ line [] ++ codes "{'prefixes':['192.0.2.0/24']"

cut_body : AreRequests Header most_requests cut_octets [] (broken (record { framing = Cut; is_head = false }) [])
unfolding requests_on_literals
cut_body = record {
  cause = inr (record {
    head = put;
    rest = codes "{'prefixes':['192.0.2.0/24']";
    is_head = record { reads = (put_is_head, refl); fields = lit≤ tt; size = lit≤ tt };
    taken = refl;
    short = lit< tt;
    is_cut = refl;
    leave_written = refl;
  });
}

-- A request by HEAD with two lengths.
abbrev head : RequestHead
head = head_of (codes "HEAD") (codes "/things") 1 (moment ∷ length_of (codes " 29") ∷ length_of (codes " 29") ∷ [])

abbrev head_octets : List ℕ
head_octets = line (codes "HEAD /things HTTP/1.1") ++ line (codes "Mud-Moment: 5") ++ line (codes "Content-Length: 29") ++ line (codes "Content-Length: 29") ++ line [] ++ body

head_is_head : IsRequestHead head
unfolding requests_on_literals
head_is_head = is_head_tree head (lit< tt) refl (lit< tt) refl refl (lit≤ tt)
    (All-cons IsField moment (length_of (codes " 29") ∷ length_of (codes " 29") ∷ []) moment_is_field
    (All-cons IsField (length_of (codes " 29")) (length_of (codes " 29") ∷ []) length_is_field (All-cons IsField (length_of (codes " 29")) [] length_is_field (All-nil IsField))))

head_is_refused : AreRequests Header most_requests head_octets [] (broken (record { framing = Length; is_head = true }) [])
unfolding requests_on_literals
head_is_refused = record {
  cause = inl (inr (record {
    head = head;
    rest = body;
    is_head = record { reads = (head_is_head, refl); fields = lit≤ tt; size = lit≤ tt };
    reason = Length;
    refused = refl;
    is_refusal = refl;
    nothing_written = refl;
  }));
}
