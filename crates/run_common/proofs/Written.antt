-- Texts of many parts, written one part after the other.
use Rattle.std.proofs.Common.{◌≡◌, ℕ, ◌+◌, ◌<◌, ◌≤◌, List, [], ◌∷◌, ◌++◌, length, take, drop, get_or, sym, ap, ◌∙◌, arith, append-nil, length-append, Result, Ok, Err, OnErr}
use Rattle.std.specs.Prelude.{flat_map}
use Rattle.std.proofs.lemmas.List.{take_more, drop_more, take-append-le, take-append-drop}
use Rattle.std.proofs.lemmas.Grind.{flat_map-append}
use Rattle.std.proofs.Math.Seq.{take-append-add}
use Rattle.mud_world.specs.Door.{DoorState, put_out}
use Rattle.mud_world.proofs.Doors.{put_out_twice, put_out_none}
use Rattle.run_common.specs.Output.{WroteFirst}

pub on_err : {A E : Type 0} (r : Result A E) {P : Type 0} → P → OnErr r P
on_err (Ok a) fact = tt
on_err (Err e) fact = fact

module _ {A : Type 0} (text : A → List ℕ) (rows : List A) where
  pub none_yet : (first : DoorState) → first ≡ put_out (flat_map text (take 0 rows)) first
  none_yet first = sym (put_out_none first)

  module _ (i : ℕ) (row : A) (first now after : DoorState) (within : i < length rows) (is : row ≡ get_or rows i row) (written : now ≡ put_out (flat_map text (take i rows)) first) where
    front : List ℕ
    front = flat_map text (take i rows)

    rest : List ℕ
    rest = flat_map text (drop (i + 1) rows)

    front_more : flat_map text (take (i + 1) rows) ≡ front ++ text row
    unfolding front
    front_more =
        ap (flat_map text) (take_more rows i row within)
        ∙ flat_map-append text (take i rows) (get_or rows i row ∷ [])
        ∙ ap (λ (x : List ℕ). flat_map text (take i rows) ++ x) (append-nil (text (get_or rows i row)) ∙ ap text (sym is))

    -- the lines of one row more were written
    pub one_more : after ≡ put_out (text row) now → after ≡ put_out (flat_map text (take (i + 1) rows)) first
    unfolding front
    one_more wrote =
        wrote ∙ ap (put_out (text row)) written ∙ put_out_twice front (text row) first
        ∙ ap (λ (lines : List ℕ). put_out lines first) (sym front_more)

    parts : flat_map text rows ≡ front ++ (text row ++ rest)
    unfolding front rest
    parts =
        ap (flat_map text) (sym (take-append-drop i rows))
        ∙ flat_map-append text (take i rows) (drop i rows)
        ∙ ap (λ (later : List A). flat_map text (take i rows) ++ flat_map text later) (drop_more rows i row within)
        ∙ ap (λ (r : A). flat_map text (take i rows) ++ (text r ++ flat_map text (drop (i + 1) rows))) (sym is)

    lengths : length (flat_map text rows) ≡ length front + (length (text row) + length rest)
    lengths = ap length parts ∙ length-append front (text row ++ rest) ∙ ap (λ (n : ℕ). length front + n) (length-append (text row) rest)

    -- of the next row a first part was written
    pub part_of : WroteFirst (text row) now after → WroteFirst (flat_map text rows) first after
    unfolding front
    part_of part =
        let taken : take (length front + part.count) (flat_map text rows) ≡ front ++ take part.count (text row) =
        ap (take (length front + part.count)) parts
        ∙ take-append-add front (text row ++ rest) part.count
        ∙ ap (λ (lines : List ℕ). front ++ lines) (take-append-le part.count (text row) rest part.within) in
        record {
          count = length front + part.count;
          within = omega (arith, part.within, lengths);
          wrote = part.wrote ∙ ap (put_out (take part.count (text row))) written
              ∙ put_out_twice front (take part.count (text row)) first
              ∙ ap (λ (lines : List ℕ). put_out lines first) (sym taken);
        }

-- ---- Two texts, one behind the other

pub then_wrote : (a b : List ℕ) (first now after : DoorState) → now ≡ put_out a first → after ≡ put_out b now → after ≡ put_out (a ++ b) first
then_wrote a b first now after one two = two ∙ ap (put_out b) one ∙ put_out_twice a b first

-- of the first one a first part was written
pub part_of_first : (a b : List ℕ) (first now : DoorState) → WroteFirst a first now → WroteFirst (a ++ b) first now
part_of_first a b first now part = record {
  count = part.count;
  within = omega (arith, part.within, length-append a b);
  wrote = part.wrote ∙ ap (λ (text : List ℕ). put_out text first) (sym (take-append-le part.count a b part.within));
}

-- the first one was written, and of the second a first part
pub part_of_second : (a b : List ℕ) (first now after : DoorState) → now ≡ put_out a first → WroteFirst b now after → WroteFirst (a ++ b) first after
part_of_second a b first now after one part = record {
  count = length a + part.count;
  within = omega (arith, part.within, length-append a b);
  wrote = part.wrote ∙ ap (put_out (take part.count b)) one
      ∙ put_out_twice a (take part.count b) first
      ∙ ap (λ (text : List ℕ). put_out text first) (sym (take-append-add a b part.count));
}
