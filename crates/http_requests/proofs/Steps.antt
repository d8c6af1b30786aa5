-- Octets that come of a door, step by step.
use Rattle.std.proofs.Common.{◌≡◌, ℕ, List, ◌++◌, sym, ap, ◌∙◌, subst, append_assoc}
use Rattle.mud_world.specs.Door.{DoorState}
use Rattle.mud_world.proofs.Doors.{took_more}
use Rattle.http_requests.specs.Received.{Received}
use Rattle.httparse.specs.Grammar.{RequestHead}
use Rattle.http_requests.specs.Head.{IsHead}
use Rattle.http_requests.specs.Shapes.{MayGetHead}

pub received_more : (a b c : List ℕ) (s t u : DoorState) → Received a b s t → Received b c t u → Received a c s u
received_more a b c s t u p q = record {
  taken = p.taken ++ q.taken;
  took = took_more p.taken q.taken s t u p.took q.took;
  held = q.held ∙ ap (λ o. o ++ q.taken) p.held ∙ append_assoc a p.taken q.taken;
}

-- a head that is held waits for nothing
pub head_waits : (first now octets : List ℕ) (head : RequestHead) (rest : List ℕ) → IsHead first head rest → now ≡ first → octets ≡ now → MayGetHead octets → ⊥
head_waits first now octets head rest is same lent may =
    may.none.none head rest (subst (λ o. IsHead o head rest) (sym (lent ∙ same)) is)
