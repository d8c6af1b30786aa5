-- Where a reader begins, behind the first octets of a connection.
use Rattle.std.proofs.Common.{◌≡◌, inl, inr, ℕ, true, false, List, [], ◌∷◌, ◌++◌, length, take, refl, sym, ap, ◌∙◌, append-nil}
use Rattle.std.specs.Str.{bytes_eq}
use Rattle.std.proofs.lemmas.Bool.{cases_lt}
use Rattle.std.proofs.lemmas.List.{take-append-le, take_all}
use Rattle.mud_world.specs.Door.{DoorState}
use Rattle.pcap_read.specs.CaptureState as classic
use Rattle.pcapng_read.specs.CaptureState as next
use Rattle.pcapng_read.specs.Blocks.{ng_packets_of}
use Rattle.run_captures.specs.Captures.{is_next}
use Rattle.run_captures.specs.First.{ReadsFirst}
use Rattle.run_captures.specs.Reading.{HasRead}
use Rattle.run_captures.specs.declared.reader.CaptureReader.TheVariants.{Classic, Next}
use Rattle.run_captures.proofs.Parts.{next_first}

no_front : (a b : List ℕ) → [] ≡ a ++ b → a ≡ []
no_front [] b e = refl
no_front (octet ∷ a) b e = cc

-- the first octets stand in front of all that comes, and nothing comes where they are fewer than four
module _ (first : List ℕ) (old new : DoorState) (p : ReadsFirst first old new) (more rest : List ℕ) (left : new.left ≡ more ++ rest) where
  front : take 4 (first ++ more) ≡ first
  front =
      elim (cases_lt (length first) 4) [
        | inl few ↦ ap (λ (octets : List ℕ). take 4 (first ++ octets)) (no_front more rest (sym (p.short few) ∙ left)) ∙ ap (take 4) (append-nil first) ∙ take_all 4 first p.four
        | inr enough ↦ take-append-le 4 first more enough ∙ take_all 4 first p.four
      ]

  told : is_next (first ++ more) ≡ bytes_eq first next_first
  unfolding is_next
  told = ap (λ (octets : List ℕ). bytes_eq octets next_first) front

pub begun_next : (first : List ℕ) (old new : DoorState) → ReadsFirst first old new → bytes_eq first next_first ≡ true → HasRead [] (Next (next.at_start_holding first)) old new
unfolding ng_packets_of
begun_next first old new p told_so = record { octets = first; took = p.took; same = λ more rest left. rw (told first old new p more rest left ∙ told_so) refl }

pub begun_classic : (first : List ℕ) (old new : DoorState) → ReadsFirst first old new → bytes_eq first next_first ≡ false → HasRead [] (Classic (classic.at_start_holding first)) old new
begun_classic first old new p other = record { octets = first; took = p.took; same = λ more rest left. rw (told first old new p more rest left ∙ other) refl }
