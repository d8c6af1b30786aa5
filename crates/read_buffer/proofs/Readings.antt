-- Laws of what is taken of a source.
use Rattle.std.proofs.Common.{◌≡◌, ◌⊎◌, inl, inr, ℕ, Bool, IsTrue, List, [], ◌++◌, IfSome, sym, ap, subst, ◌∙◌, append_assoc}
use Rattle.mud_world.specs.Door.{DoorState}
use Rattle.mud_world.proofs.Doors.{took_more}
use Rattle.read_buffer.specs.Packets.{Packet, Told, broken}
use Rattle.read_buffer.specs.Reading.{Fetched, Follows, EndsIn, behind}

all_of : {F : Type 0} → Told F → List Packet
all_of packets = packets.all

-- what follows from the octets that are held now
pub follows : {F : Type 0} (before after : List ℕ → Told F) (h k : List ℕ) (s t : DoorState) → Fetched h k s t → ((more : List ℕ) → before (k ++ more) ≡ after more) → Follows (behind before h) after s t
follows before after h k s t f same = record {
  octets = f.octets;
  took = f.took;
  same = λ more. ap before (sym (append_assoc h f.octets more) ∙ ap (λ held. held ++ more) (sym f.held)) ∙ same more;
}

pub follows_more : {F : Type 0} (f g h : List ℕ → Told F) (s t u : DoorState) → Follows f g s t → Follows g h t u → Follows f h s u
follows_more f g h s t u p q = record {
  octets = p.octets ++ q.octets;
  took = took_more p.octets q.octets s t u p.took q.took;
  same = λ more. ap f (append_assoc p.octets q.octets more) ∙ p.same (q.octets ++ more) ∙ q.same more;
}

-- nothing is wrong with the octets, but that they may end too early
abbrev pub AreOnlyCut : {F : Type 0} → (F → Bool) → Told F → Type 0
AreOnlyCut is_cut packets = IfSome packets.fault (λ found. IsTrue (is_cut found))

module _ {F : Type 0} {is_read_fault is_cut : F → Bool} where
  -- the end that follows from the octets that are held now
  pub ends : (fault : F) (before : List ℕ → Told F) (h k : List ℕ) (s t : DoorState) → Fetched h k s t
      → (before k).all ≡ [] → before (k ++ t.left) ≡ broken fault → EndsIn is_read_fault is_cut fault (behind before h) s t
  unfolding all_of
  ends fault before h k s t f none end = record {
    octets = f.octets;
    took = f.took;
    none = ap (λ held. all_of (before held)) (sym f.held) ∙ none;
    cause = inl (ap before (sym (append_assoc h f.octets t.left) ∙ ap (λ held. held ++ t.left) (sym f.held)) ∙ end);
  }

  -- the source fails, and the octets that are held now decide nothing
  pub fails : (fault : F) (before : List ℕ → Told F) (h k : List ℕ) (s t : DoorState) → Fetched h k s t
      → (before k).all ≡ [] → IsTrue (is_read_fault fault) → AreOnlyCut is_cut (before k) → EndsIn is_read_fault is_cut fault (behind before h) s t
  unfolding all_of
  fails fault before h k s t f none failed cut = record {
    octets = f.octets;
    took = f.took;
    none = ap (λ held. all_of (before held)) (sym f.held) ∙ none;
    cause = inr (failed, subst (λ held. AreOnlyCut is_cut (before held)) f.held cut);
  }

  pub ends_more : (fault : F) (f g : List ℕ → Told F) (s t u : DoorState) → Follows f g s t → EndsIn is_read_fault is_cut fault g t u → EndsIn is_read_fault is_cut fault f s u
  unfolding all_of
  ends_more fault f g s t u p q = record {
    octets = p.octets ++ q.octets;
    took = took_more p.octets q.octets s t u p.took q.took;
    none = ap all_of (p.same q.octets) ∙ q.none;
    cause = by q.cause;
  }
    where
      by : (g (q.octets ++ u.left) ≡ broken fault) ⊎ (IsTrue (is_read_fault fault) × AreOnlyCut is_cut (g q.octets))
          → (f ((p.octets ++ q.octets) ++ u.left) ≡ broken fault) ⊎ (IsTrue (is_read_fault fault) × AreOnlyCut is_cut (f (p.octets ++ q.octets)))
      by (inl comes) = inl (ap f (append_assoc p.octets q.octets u.left) ∙ p.same (q.octets ++ u.left) ∙ comes)
      by (inr failed) = inr (failed.0, subst (AreOnlyCut is_cut) (sym (p.same q.octets)) failed.1)
