-- What the first octets do to a run, a run to the name that is read, and a jump to a pointer.
use Rattle.std.specs.Prelude.{◌≡◌, ℕ, ◌+◌, ◌<◌, ◌≤◌, List, [], ◌∷◌, ◌++◌, length, slice_index, Result, Ok, Err}
use Rattle.mud_base.specs.Faults.{row_at, unless}
use Rattle.dns_snoop.specs.declared.fault.DnsFault.{DnsFault}
use Rattle.dns_snoop.specs.declared.fault.DnsFault.TheVariants as faults
use Rattle.dns_snoop.specs.declared.label.Step.{Step}
use Rattle.dns_snoop.specs.declared.label.Step.TheVariants as step
use Rattle.dns_snoop.specs.declared.name.RunEnd.{RunEnd}
use Rattle.dns_snoop.specs.declared.name.RunEnd.TheVariants.{End, Pointer}
use Rattle.dns_snoop.specs.Names.{Run, Chain, ended, with_label, run_from, chain_behind, first_beyond, text_of}

abbrev pub IsStep : ℕ → List ℕ → Step → Type 0
IsStep offset octets (step.Fault fault) = run_from 0 offset octets ≡ ended (Err fault)
IsStep offset octets step.End = (1 ≤ length octets) × (run_from 0 offset octets ≡ ended (Ok (End (offset + 1))))
IsStep offset octets (step.Pointer target) = (2 ≤ length octets) × (run_from 0 offset octets ≡ ended (Ok (Pointer offset target)))
IsStep offset octets (step.Label label rest) =
    (length label.now ≤ 63)
    × (length rest.now + (1 + length label.now) ≡ length octets)
    × (run_from 0 offset octets ≡ with_label (record { offset = offset; text = label.now }) (run_from 0 (offset + (1 + length label.now)) rest.now))

-- the text of the labels up to the end of a run, and that end
pub record RunRead : Type 0 where
  pub text : List ℕ
  pub end : RunEnd

abbrev pub with_end : List ℕ → Result RunEnd DnsFault → Result RunRead DnsFault
with_end text (Ok end) = Ok (record { text = text; end = end })
with_end text (Err fault) = Err fault

abbrev pub with_text : List ℕ → Result (Unit {0}) DnsFault → Result (List ℕ) DnsFault
with_text text (Ok done) = Ok text
with_text text (Err fault) = Err fault

-- what a run makes of the text before it
unfoldable pub run_answer : List ℕ → Run → Result RunRead DnsFault
run_answer text run = unless (row_at faults.NameLong (first_beyond (1 + length text) run.labels) ∷ []) (with_end (text ++ text_of run.labels) run.end)

-- what a chain makes of the text before it
unfoldable pub chain_answer : List ℕ → Chain → Result (List ℕ) DnsFault
chain_answer text chain = unless (row_at faults.NameLong (first_beyond (1 + length text) chain.labels) ∷ chain.fault ∷ []) (Ok (text ++ text_of chain.labels))

-- A jump from an offset to one before it, or to itself: a pointer to either has the same behind it.
pub record IsJump (message : List ℕ) (from to : ℕ) : Type 0 where
  pub before : to ≤ from
  pub same : (start at : ℕ) → from < start → chain_behind start message start (Pointer at from) ≡ chain_behind start message start (Pointer at to)

-- the jumps from the first so many offsets
pub record AreJumps (message jumps : List ℕ) : Type 0 where
  pub each : (i : ℕ) → i < length jumps → IsJump message i (slice_index jumps i)
