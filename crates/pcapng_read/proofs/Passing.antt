-- Octets that are passed over.
use Rattle.std.proofs.Common.{◌≡◌, ℕ, ◌+◌, ◌-◌, ◌<◌, ◌≤◌, List, [], ◌++◌, length, take, drop, sym, ap, ◌∙◌, arith, length-append, append_assoc, append-nil}
use Rattle.std.proofs.lemmas.List.{length-take-le, take-append-drop}
use Rattle.mud_world.specs.Door.{DoorState}
use Rattle.mud_world.proofs.Doors.{took_none, took_more}
use Rattle.read_buffer.specs.Reading.{Fetched}
use Rattle.pcapng_read.specs.Reading.{Passes, FallsShort}

pub passes_none : (count : ℕ) (h : List ℕ) (s : DoorState) → Passes count count h h s s
passes_none count h s = record { octets = []; took = took_none s; front = []; size = omega arith; same = append-nil h }

pub passes_fetch : (count left : ℕ) (h k m : List ℕ) (s t u : DoorState) → Passes count left h k s t → Fetched k m t u → Passes count left h m s u
passes_fetch count left h k m s t u p f = record {
  octets = p.octets ++ f.octets;
  took = took_more p.octets f.octets s t u p.took f.took;
  front = p.front;
  size = p.size;
  same =
      sym (append_assoc h p.octets f.octets) ∙ ap (λ (octets : List ℕ). octets ++ f.octets) p.same
      ∙ append_assoc p.front k f.octets ∙ ap (λ (octets : List ℕ). p.front ++ octets) (sym f.held);
}

pub passes_on : (count left n rest : ℕ) (h m after : List ℕ) (s t : DoorState) → Passes count left h m s t → n ≤ left → n ≤ length m → rest ≡ left - n → after ≡ drop n m → Passes count rest h after s t
passes_on count left n rest h m after s t p fewer enough remains is = record {
  octets = p.octets;
  took = p.took;
  front = p.front ++ take n m;
  size = omega (arith, p.size, length-append p.front (take n m), length-take-le n m enough);
  same =
      p.same ∙ ap (λ (octets : List ℕ). p.front ++ octets) (sym (take-append-drop n m) ∙ ap (λ (octets : List ℕ). take n m ++ octets) (sym is))
      ∙ sym (append_assoc p.front (take n m) after);
}

pub passes_last : (count total : ℕ) (h m : List ℕ) (s t : DoorState) → Passes count 0 h m s t → count + 4 ≡ total → Passes total 4 h m s t
passes_last count total h m s t p is = record {
  octets = p.octets;
  took = p.took;
  front = p.front;
  size = omega (arith, p.size);
  same = p.same;
}

pub passes_short : (count left : ℕ) (h m : List ℕ) (s t : DoorState) → Passes count left h m s t → length m < left → FallsShort count h s t
passes_short count left h m s t p short =
    let size : length (h ++ p.octets) ≡ length (p.front ++ m) = ap (λ (octets : List ℕ). length octets) p.same in
    record {
      octets = p.octets;
      took = p.took;
      short = omega (arith, size, p.size, length-append p.front m);
    }
