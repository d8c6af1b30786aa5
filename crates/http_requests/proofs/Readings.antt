-- The octets of a connection have one list of requests and one end.
use Rattle.std.proofs.Common.{◌≡◌, ℕ, ◌-◌, ◌<◌, List, [], ◌∷◌, ◌++◌, length, Some, None, refl, inl, inr, sym, ap, ap₂, ◌∙◌, subst, arith, length-append}
use Rattle.httparse.specs.Grammar.{RequestHead}
use Rattle.http_requests.specs.declared.fault.FramingFault.TheVariants.{Cut}
use Rattle.http_requests.specs.declared.fault.RequestFault.{RequestFault}
use Rattle.http_requests.specs.declared.fault.MomentFrom.{MomentFrom}
use Rattle.http_requests.specs.Framing.{refusal_of, body_length, leave_of}
use Rattle.http_requests.specs.Requests.{Request, Begins, IsFault, fault_in, Ending, ended, closed, spent, broken, AreRequests, stop_after}
use Rattle.http_requests.proofs.Heads.{head_unique, head_some, same_cut}

abbrev request : RequestHead → List ℕ → Request
request head body = record { head = head; body = body }

-- the whole request at the front is one, and so is what comes after it
pub begins_unique : (from : MomentFrom) (octets : List ℕ) (r q : Request) (a b : List ℕ) → Begins from octets r a → Begins from octets q b → (r ≡ q) × (a ≡ b)
begins_unique from octets r q a b x y =
    let heads = head_unique octets r.head q.head (r.body ++ a) (q.body ++ b) x.head y.head in
    let parts = same_cut r.body q.body a b (x.body ∙ ap body_length heads.0 ∙ sym y.body) heads.1 in
    (ap₂ request heads.0 parts.0, parts.1)

-- a fault has octets
pub fault_some : (from : MomentFrom) (octets : List ℕ) (fault : RequestFault) (pending : List ℕ) → IsFault from octets fault pending → 0 < length octets
fault_some from octets fault pending is =
    elim is.cause [
      | inl none ↦ elim none [ inl lacks ↦ lacks.some | inr refused ↦ head_some octets refused.head refused.rest refused.is_head ]
      | inr cut ↦ head_some octets cut.head cut.rest cut.is_head
    ]

-- a whole request is no fault
pub begins_sound : (from : MomentFrom) (octets : List ℕ) (r : Request) (after : List ℕ) (fault : RequestFault) (pending : List ℕ) → Begins from octets r after → IsFault from octets fault pending → ⊥
begins_sound from octets r after fault pending b is =
    elim is.cause [
      | inl none ↦ elim none [
        | inl lacks ↦ lacks.none.none r.head (r.body ++ after) b.head
        | inr refused ↦
            let same = head_unique octets r.head refused.head (r.body ++ after) refused.rest b.head refused.is_head in
            let reason : None ≡ Some refused.reason = sym b.taken ∙ ap (refusal_of from) same.0 ∙ refused.refused in
            cc
      ]
      | inr cut ↦
          let same = head_unique octets r.head cut.head (r.body ++ after) cut.rest b.head cut.is_head in
          absurd (omega (arith, cut.short, ap length same.1, length-append r.body after, b.body, ap body_length same.0))
    ]

-- the fault is one, and so is what was written before it
pub fault_unique : (from : MomentFrom) (octets : List ℕ) (f g : RequestFault) (p q : List ℕ) → IsFault from octets f p → IsFault from octets g q → (f ≡ g) × (p ≡ q)
fault_unique from octets f g p q x y =
    elim x.cause [
      | inl none ↦ elim none [
        | inl lacks ↦ elim y.cause [
          | inl other ↦ elim other [
            | inl again ↦ (lacks.is_lack ∙ sym again.is_lack, lacks.nothing_written ∙ sym again.nothing_written)
            | inr refused ↦ absurd (lacks.none.none refused.head refused.rest refused.is_head)
          ]
          | inr cut ↦ absurd (lacks.none.none cut.head cut.rest cut.is_head)
        ]
        | inr refused ↦ elim y.cause [
          | inl other ↦ elim other [
            | inl lacks ↦ absurd (lacks.none.none refused.head refused.rest refused.is_head)
            | inr again ↦
                let same = head_unique octets refused.head again.head refused.rest again.rest refused.is_head again.is_head in
                let reasons : Some refused.reason ≡ Some again.reason = sym refused.refused ∙ ap (refusal_of from) same.0 ∙ again.refused in
                let reason : refused.reason ≡ again.reason = cc in
                (refused.is_refusal ∙ ap₂ fault_in same.0 reason ∙ sym again.is_refusal, refused.nothing_written ∙ sym again.nothing_written)
          ]
          | inr cut ↦
              let same = head_unique octets refused.head cut.head refused.rest cut.rest refused.is_head cut.is_head in
              let reason : Some refused.reason ≡ None = sym refused.refused ∙ ap (refusal_of from) same.0 ∙ cut.taken in
              absurd (cc)
        ]
      ]
      | inr cut ↦ elim y.cause [
        | inl other ↦ elim other [
          | inl lacks ↦ absurd (lacks.none.none cut.head cut.rest cut.is_head)
          | inr refused ↦
              let same = head_unique octets cut.head refused.head cut.rest refused.rest cut.is_head refused.is_head in
              let reason : None ≡ Some refused.reason = sym cut.taken ∙ ap (refusal_of from) same.0 ∙ refused.refused in
              absurd (cc)
        ]
        | inr again ↦
            let same = head_unique octets cut.head again.head cut.rest again.rest cut.is_head again.is_head in
            (cut.is_cut ∙ ap (λ head. fault_in head Cut) same.0 ∙ sym again.is_cut, cut.leave_written ∙ ap leave_of same.0 ∙ sym again.leave_written)
      ]
    ]

-- nothing is no request
nothing_begins : (from : MomentFrom) (octets : List ℕ) (r : Request) (after : List ℕ) → octets ≡ [] → Begins from octets r after → ⊥
nothing_begins from octets r after none b =
    let some = head_some octets r.head (r.body ++ after) b.head in
    omega (arith, ap length none)

-- nothing is no fault
nothing_fails : (from : MomentFrom) (octets : List ℕ) (fault : RequestFault) (pending : List ℕ) → octets ≡ [] → IsFault from octets fault pending → ⊥
nothing_fails from octets fault pending none is =
    let some = fault_some from octets fault pending is in
    omega (arith, ap length none)

-- where no request begins, the end is one
pub no_request_unique : (from : MomentFrom) (most : ℕ) (octets : List ℕ) (e f : Ending) → AreRequests from most octets [] e → AreRequests from most octets [] f → e ≡ f
no_request_unique from most octets ended ended x y = refl
no_request_unique from most octets ended closed x y = absurd y
no_request_unique from most octets ended spent x y = absurd y
no_request_unique from most octets ended (broken f p) x y = absurd (nothing_fails from octets f p x y)
no_request_unique from most octets closed f x y = absurd x
no_request_unique from most octets spent f x y = absurd x
no_request_unique from most octets (broken f p) ended x y = absurd (nothing_fails from octets f p y x)
no_request_unique from most octets (broken f p) closed x y = absurd y
no_request_unique from most octets (broken f p) spent x y = absurd y
no_request_unique from most octets (broken f p) (broken g q) x y =
    let same = fault_unique from octets f g p q x y in
    ap₂ broken same.0 same.1

-- where a request begins, the octets don't end
none_or_some : (from : MomentFrom) (most : ℕ) (octets : List ℕ) (r : Request) (after : List ℕ) (end : Ending) → Begins from octets r after → AreRequests from most octets [] end → ⊥
none_or_some from most octets r after ended b x = nothing_begins from octets r after x b
none_or_some from most octets r after closed b x = x
none_or_some from most octets r after spent b x = x
none_or_some from most octets r after (broken f p) b x = begins_sound from octets r after f p b x

-- The octets of a connection have one list of requests and one end.
pub reading_unique : (from : MomentFrom) (most : ℕ) (octets : List ℕ) (a b : List Request) (e f : Ending)
    → AreRequests from most octets a e → AreRequests from most octets b f → (a ≡ b) × (e ≡ f)
reading_unique from most octets [] [] e f x y = (refl, no_request_unique from most octets e f x y)
reading_unique from most octets [] (q ∷ b) e f x y = absurd (none_or_some from most octets q y.0 e y.1 x)
reading_unique from most octets (r ∷ a) [] e f x y = absurd (none_or_some from most octets r x.0 f x.1 y)
reading_unique from most octets (r ∷ a) (q ∷ b) e f x y =
    let first = begins_unique from octets r q x.0 y.0 x.1 y.1 in
    let stop : stop_after most r ≡ stop_after most q = ap (stop_after most) first.0 in
    elim x.2 [
      | inl over ↦ elim y.2 [
        | inl done ↦
            let end : Some e ≡ Some f = sym over.0 ∙ stop ∙ done.0 in
            (ap₂ ◌∷◌ first.0 (over.1 ∙ sym done.1), cc)
        | inr on ↦
            let end : Some e ≡ None = sym over.0 ∙ stop ∙ on.0 in
            absurd (cc)
      ]
      | inr on ↦ elim y.2 [
        | inl done ↦
            let end : None ≡ Some f = sym on.0 ∙ stop ∙ done.0 in
            absurd (cc)
        | inr again ↦
            let rest = reading_unique from (most - 1) y.0 a b e f (subst (λ o. AreRequests from (most - 1) o a e) first.1 on.1) again.1 in
            (ap₂ ◌∷◌ first.0 rest.0, rest.1)
      ]
    ]
