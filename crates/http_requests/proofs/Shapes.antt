-- The shape of a head, from the spans that the parser answers.
use Rattle.std.proofs.Common.{◌≡◌, ℕ, ◌≤◌, List, length, drop, map, Option, sym, ap, ap₂, ◌∙◌, subst, arith}
use Rattle.httparse.specs.declared.spans.Span.{Span}
use Rattle.httparse.specs.declared.spans.HeaderSpan.{HeaderSpan}
use Rattle.httparse.specs.declared.spans.RequestSpans.{RequestSpans}
use Rattle.httparse.specs.Grammar.{RequestHead, print_request}
use Rattle.httparse.specs.Spans.{IsWithin, span_bytes, header_bytes}
use Rattle.http_requests.specs.declared.fault.FramingFault.{FramingFault}
use Rattle.http_requests.specs.declared.fault.MomentFrom.{MomentFrom}
use Rattle.http_requests.specs.declared.framing.Framing.{Framing}
use Rattle.http_requests.specs.declared.shape.RequestShape.{RequestShape}
use Rattle.http_requests.specs.Fields.{fields_of}
use Rattle.http_requests.specs.Framing.{is_head, first_reason, reasons, refusal_of, lengths, length_by, body_length, moment_by, moment_of, closes, awaits_leave}
use Rattle.http_requests.specs.Requests.{path_of}
use Rattle.http_requests.specs.Shapes.{AreSpans, IsShape}
use Rattle.http_requests.specs.Values.{IsFraming}
use Rattle.http_requests.proofs.Fronts.{span_in_front}
use Rattle.http_requests.proofs.Pieces.{closes_by, awaits_by}

-- why a head is refused, from its method and its fields
pub refusal_by : (from : MomentFrom) (octets : List ℕ) (headers : List HeaderSpan) (spans : RequestSpans) (head : RequestHead) (r : Option FramingFault) → AreSpans octets headers spans head
    → first_reason (reasons from (span_bytes octets spans.method) (map (header_bytes octets) headers)) ≡ r → refusal_of from head ≡ r
unfolding refusal_of
refusal_by from octets headers spans head r are e =
    ap₂ (λ method fields. first_reason (reasons from method fields)) (sym are.method) (sym are.fields) ∙ e

-- a part of the head
pub head_part : (octets : List ℕ) (headers : List HeaderSpan) (spans : RequestSpans) (head : RequestHead) (part : Span) → AreSpans octets headers spans head → IsWithin spans.len part → span_bytes (print_request head) part ≡ span_bytes octets part
head_part octets headers spans head part are within =
    let fits : part.end ≤ length (print_request head) = omega (arith, are.len, within.1) in
    sym (ap (λ o. span_bytes o part) are.front ∙ span_in_front (print_request head) (drop spans.len octets) part.start part.end within.0 fits)

-- the shape that is made of the spans
pub shape_is : (from : MomentFrom) (octets : List ℕ) (headers : List HeaderSpan) (spans : RequestSpans) (head : RequestHead) (framing : Framing) (shape : RequestShape) → AreSpans octets headers spans head
    → IsWithin spans.len spans.method → IsWithin spans.len shape.path
    → IsFraming from (span_bytes octets spans.method) (map (header_bytes octets) headers) framing
    → shape.method ≡ spans.method → span_bytes octets shape.path ≡ path_of head
    → shape.head_len ≡ spans.len → shape.body_len ≡ framing.body_len → shape.moment ≡ framing.moment
    → shape.closes ≡ closes_by spans.version (map (header_bytes octets) headers)
    → shape.awaits_leave ≡ awaits_by spans.version framing.body_len (map (header_bytes octets) headers)
    → shape.is_head ≡ is_head (span_bytes octets spans.method)
    → IsShape from shape head
unfolding body_length moment_of closes awaits_leave
shape_is from octets headers spans head framing shape are method_within path_within framed method path head_len body_len moment closing awaiting by_head = record {
  method = ap (span_bytes (print_request head)) method ∙ head_part octets headers spans head spans.method are method_within ∙ are.method;
  path = head_part octets headers spans head shape.path are path_within ∙ path;
  head_len = head_len ∙ are.len;
  body_len = body_len ∙ framed.body ∙ ap (λ fields. length_by (lengths fields)) are.fields;
  closes = closing ∙ ap₂ closes_by are.version are.fields;
  moment = moment ∙ framed.moment ∙ ap (moment_by from) are.fields;
  awaits_leave = awaiting ∙ ap (λ n. awaits_by spans.version n (map (header_bytes octets) headers)) (framed.body ∙ ap (λ fields. length_by (lengths fields)) are.fields)
      ∙ ap₂ (λ minor fields. awaits_by minor (length_by (lengths (fields_of head))) fields) are.version are.fields;
  is_head = by_head ∙ ap is_head are.method;
}

-- what framing says of a method that is lent
pub framing_at : {from : MomentFrom} {method lent : List ℕ} {fields : List (List ℕ × List ℕ)} {framing : Framing} → IsFraming from lent fields framing → lent ≡ method → IsFraming from method fields framing
framing_at {from} {fields = fields} {framing = framing} is same = subst (λ m. IsFraming from m fields framing) same is
