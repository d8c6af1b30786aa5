-- Laws of what is read of a door and written to it.
use Rattle.std.proofs.Common.{◌≡◌, ℕ, ◌+◌, List, [], ◌++◌, take, drop, refl, sym, ap, ap₂, ◌∙◌, arith, append_assoc, Bool, true, false, if◌then◌else◌}
use Rattle.std.proofs.lemmas.List.{append-nil, take-append-drop, take-take, drop-take}
use Rattle.mud_world.specs.Door.{Connection, DoorState, Took, put_out, with_left}
use Rattle.mud_world.specs.Causes.{Counts, RoseBy}
use Rattle.mud_world.proofs.Parts.{with_here}

-- a longer front is the front and a front of the rest
pub take_further : (a n : ℕ) (xs : List ℕ) → take (a + n) xs ≡ take a xs ++ take n (drop a xs)
take_further a n xs =
    sym (take-append-drop a (take (a + n) xs)) ∙ ap₂ ◌++◌ (take-take a (a + n) xs (omega arith)) (drop-take a n xs)

with_written : List ℕ → DoorState → DoorState
with_written written s = record s { written = written }

-- octets put out one after the other
pub put_out_twice : (a b : List ℕ) (s : DoorState) → put_out b (put_out a s) ≡ put_out (a ++ b) s
unfolding with_written
put_out_twice a b s = ap (λ (written : List ℕ). with_written written s) (append_assoc s.written a b)

-- nothing put out
pub put_out_none : (s : DoorState) → put_out [] s ≡ s
unfolding with_written
put_out_none s = ap (λ (written : List ℕ). with_written written s) (append-nil s.written)

-- A front of the line was put out, and then a front of its rest.
pub put_out_further : (line rest : List ℕ) (a n : ℕ) (s t u : DoorState) → rest ≡ drop a line → t ≡ put_out (take a line) s → u ≡ put_out (take n rest) t → u ≡ put_out (take (a + n) line) s
put_out_further line rest a n s t u e h k =
    k ∙ ap (λ octets. put_out (take n octets) t) e ∙ ap (put_out (take n (drop a line))) h
    ∙ put_out_twice (take a line) (take n (drop a line)) s
    ∙ ap (λ front. put_out front s) (sym (take_further a n line))

-- the connection changed by octets that were taken
pub took_here : (octets : List ℕ) (c : Connection) (old new : DoorState) → new ≡ with_here c old → old.left ≡ octets ++ c.left → c.written ≡ old.written → Took octets old new
took_here octets c old new e left written =
    let now : new.left ≡ c.left = ap (λ (s : DoorState). s.left) e in
    record {
      left = left ∙ ap (λ (rest : List ℕ). octets ++ rest) (sym now);
      rest = e ∙ ap₂ (λ (l w : List ℕ). with_here (record { left = l; written = w }) old) (sym now) written;
    }

-- the connection changed by octets that were written
pub put_here : (octets : List ℕ) (c : Connection) (old new : DoorState) → new ≡ with_here c old → c.left ≡ old.left → c.written ≡ old.written ++ octets → new ≡ put_out octets old
put_here octets c old new e left written =
    e ∙ ap₂ (λ (l w : List ℕ). with_here (record { left = l; written = w }) old) left written

-- nothing is taken
pub took_none : (s : DoorState) → Took [] s s
took_none s = record { left = refl; rest = refl }

-- octets taken one after the other
pub took_more : (a b : List ℕ) (s t u : DoorState) → Took a s t → Took b t u → Took (a ++ b) s u
took_more a b s t u p q = record {
  left = p.left ∙ ap (λ left. a ++ left) q.left ∙ sym (append_assoc a b u.left);
  rest = q.rest ∙ ap (with_left u.left) p.rest;
}

-- ---- The failures of a keeper

pub rose_by_one : (failed : Bool) (a b : ℕ) → Counts failed a b → RoseBy ((if failed then 1 else 0) + 0) a b
rose_by_one true a b counts = counts.rose refl
rose_by_one false a b counts = omega (arith, counts.steady refl)
