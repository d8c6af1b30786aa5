-- An answer that is written in two pieces.
use Rattle.std.proofs.Common.{◌≡◌, ℕ, ◌+◌, List, ◌++◌, length, take, Result, Ok, Err, OnErr, sym, ap, ◌∙◌, subst, arith, length-append}
use Rattle.std.proofs.Math.Seq.{take-append-add}
use Rattle.mud_world.specs.Door.{DoorState, put_out}
use Rattle.mud_world.specs.Whole.{WrotePart}
use Rattle.mud_world.proofs.Doors.{put_out_twice}

-- the first piece, and a first part of the second one
pub wrote_second : (head body text : List ℕ) (s t u : DoorState) → head ++ body ≡ text → t ≡ put_out head s → WrotePart body t u → WrotePart text s u
wrote_second head body text s t u same before w = subst (λ o. WrotePart o s u) same (record {
  count = length head + w.count;
  part = omega (arith, w.part, length-append head body);
  wrote = w.wrote ∙ ap (put_out (take w.count body)) before ∙ put_out_twice head (take w.count body) s
      ∙ ap (λ o. put_out o s) (sym (take-append-add head body w.count));
})

-- what holds of an error
pub on_err_as : {A E : Type 0} (r : Result A E) (P Q : Type 0) → (P → Q) → OnErr r P → OnErr r Q
on_err_as (Ok value) P Q then p = p
on_err_as (Err error) P Q then p = then p
