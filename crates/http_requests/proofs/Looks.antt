-- What the front of octets says of all of them.
use Rattle.std.proofs.Common.{◌≡◌, ℕ, ◌-◌, ◌<◌, ◌≤◌, List, [], ◌++◌, length, take, drop, map, Some, inl, inr, refl, sym, ap, ◌∙◌, subst, arith, length-append, length-take, take-append-drop, append_assoc, take_all}
use Rattle.std.proofs.lemmas.List.{take-append-le, length-map}
use Rattle.httparse.specs.declared.spans.HeaderSpan.{HeaderSpan}
use Rattle.httparse.specs.declared.spans.RequestSpans.{RequestSpans}
use Rattle.httparse.specs.Grammar.{RequestHead, print_request, ReadsRequest}
use Rattle.httparse.specs.Spans.{IsRequestAt, IsRequestWithin, header_bytes, name_and_value}
use Rattle.httparse.proofs.GrammarLemmas.{ReadsRequest-append}
use Rattle.http_requests.specs.declared.fault.RequestFault.{RequestFault}
use Rattle.http_requests.specs.declared.fault.MomentFrom.{MomentFrom}
use Rattle.http_requests.specs.Framing.{is_head, refusal_of}
use Rattle.http_requests.specs.Head.{IsHead, HasNoHead, NeverHasHead}
use Rattle.http_requests.specs.Requests.{no_head}
use Rattle.http_requests.specs.Shapes.{AreSpans, IsUnfinished, MayGetHead, EndsBroken}
use Rattle.http_requests.proofs.Fronts.{take_longer}
use Rattle.http_requests.proofs.Heads.{head_append, head_some, fault_by}

-- the spans of a head that the parser found
pub are_spans : (octets : List ℕ) (headers fields : List HeaderSpan) (spans : RequestSpans) (head : RequestHead) → fields ≡ take spans.headers headers → IsRequestAt octets headers spans head → AreSpans octets fields spans head
are_spans octets headers fields spans head e at = record {
  front = at.reads.1;
  len = at.len;
  method = at.method;
  target = at.path;
  version = at.version;
  fields = ap (map (header_bytes octets)) e ∙ at.fields;
}

-- the head that the parser found in the front is one of all octets
pub found_head : (octets front : List ℕ) (headers : List HeaderSpan) (spans : RequestSpans) (head : RequestHead) → front ≡ take 8192 octets → length headers ≡ 64 → IsRequestAt front headers spans head → IsRequestWithin front headers spans
    → IsHead octets head (drop spans.len front ++ drop 8192 octets)
found_head octets front headers spans head e room at within =
    let rest = drop spans.len front in
    let all : front ++ drop 8192 octets ≡ octets = ap (λ f. f ++ drop 8192 octets) e ∙ take-append-drop 8192 octets in
    let few : length (map (header_bytes front) (take spans.headers headers)) ≡ length (map name_and_value head.fields) = ap length at.fields in
    record {
      reads = subst (λ o. ReadsRequest o head (rest ++ drop 8192 octets)) all (ReadsRequest-append front head rest (drop 8192 octets) at.reads);
      fields = omega (arith, simp length-map at few, length-take spans.headers headers, within.section.count_fits);
      size = omega (arith, at.len, within.section.len_fits, ap length e, length-take 8192 octets);
    }

-- a head of all octets stands in their front
pub front_head : (octets : List ℕ) (head : RequestHead) (rest : List ℕ) → IsHead octets head rest → IsHead (take 8192 octets) head (take (8192 - length (print_request head)) rest)
front_head octets head rest is = record {
  reads = (is.reads.0, ap (take 8192) is.reads.1 ∙ take_longer (print_request head) rest 8192 is.size);
  fields = is.fields;
  size = is.size;
}

-- where the front can never have a head, the octets can't
never_has : (octets : List ℕ) → NeverHasHead (take 8192 octets) → (later : List ℕ) → HasNoHead (octets ++ later)
never_has octets never later = record {
  none = λ head rest is.
      (never.never (drop 8192 octets ++ later)).none head rest
      (subst (λ o. IsHead o head rest) (ap (λ o. o ++ later) (sym (take-append-drop 8192 octets)) ∙ append_assoc (take 8192 octets) (drop 8192 octets) later) is);
}

-- where a full front has no head, the octets have none
full_has_none : (octets : List ℕ) → HasNoHead (take 8192 octets) → 8192 ≤ length (take 8192 octets) → (later : List ℕ) → HasNoHead (octets ++ later)
full_has_none octets none full later = record {
  none = λ head rest is.
      let within : 8192 ≤ length octets = omega (arith, length-take 8192 octets) in
      none.none head (take (8192 - length (print_request head)) rest)
      (subst (λ o. IsHead o head (take (8192 - length (print_request head)) rest)) (take-append-le 8192 octets later within) (front_head (octets ++ later) head rest is));
}

headless : (from : MomentFrom) (octets : List ℕ) → 0 < length octets → ((later : List ℕ) → HasNoHead (octets ++ later)) → EndsBroken from octets no_head
headless from octets some none = record {
  some = some;
  always = λ later. record {
    cause = inl (inl (record {
      some = omega (arith, length-append octets later);
      none = none later;
      is_lack = refl;
      nothing_written = refl;
    }));
  };
}

pub never_ends : (from : MomentFrom) (octets front : List ℕ) → front ≡ take 8192 octets → 0 < length octets → NeverHasHead front → EndsBroken from octets no_head
never_ends from octets front e some never = headless from octets some (never_has octets (subst NeverHasHead e never))

pub full_ends : (from : MomentFrom) (octets front : List ℕ) → front ≡ take 8192 octets → HasNoHead front → 8192 ≤ length front → EndsBroken from octets no_head
full_ends from octets front e none full =
    let long : 8192 ≤ length (take 8192 octets) = omega (arith, ap length e) in
    headless from octets (omega (arith, length-take 8192 octets)) (full_has_none octets (subst HasNoHead e none) long)

pub refused_ends : (from : MomentFrom) (octets : List ℕ) (head : RequestHead) (rest : List ℕ) (fault : RequestFault) → IsHead octets head rest → (refusal_of from head ≡ Some fault.framing) × (fault.is_head ≡ is_head head.method) → EndsBroken from octets fault
refused_ends from octets head rest fault is refused = record {
  some = head_some octets head rest is;
  always = λ later. record {
    cause = inl (inr (record {
      head = head;
      rest = rest ++ later;
      is_head = head_append octets head rest later is;
      reason = fault.framing;
      refused = refused.0;
      is_refusal = ap (fault_by fault.framing) refused.1;
      nothing_written = refl;
    }));
  };
}

pub short_waits : (octets front : List ℕ) → front ≡ take 8192 octets → HasNoHead front → IsUnfinished front → length front < 8192 → MayGetHead octets
short_waits octets front e none unfinished short =
    let all : front ≡ octets = e ∙ take_all 8192 octets (omega (arith, ap length e, length-take 8192 octets)) in
    record {
      none = subst HasNoHead all none;
      few = omega (arith, ap length all);
      unfinished = λ some. subst IsUnfinished all unfinished;
    }

-- before the first octet
pub nothing_waits : (octets : List ℕ) → octets ≡ [] → MayGetHead octets
nothing_waits octets none = record {
  none = record { none = λ head rest is. let some = head_some octets head rest is in omega (arith, ap length none) };
  few = omega (arith, ap length none);
  unfinished = λ some. absurd (omega (arith, ap length none));
}
