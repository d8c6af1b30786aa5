-- How a run over a door in memory ends, by what its command promises.
use Rattle.std.proofs.Common.{◌≡◌, ◌⊎◌, inl, inr, Bool, ℕ, ◌+◌, ◌-◌, ◌^◌, List, [], ◌∷◌, Some, min, sym, ap, ◌∙◌, refl}
use Rattle.mud_world.specs.Door.{DoorState, outputs, put_out, with_left}
use Rattle.mud_world.specs.MemoryConnections.{first_state}
use Rattle.mud_world.specs.Causes.{EndsAtFailure}
use Rattle.mud_world.specs.View.{DoorView}
use Rattle.mud_cli.specs.Promises.{Promises}
use Rattle.run_common.specs.Output.{Output, WritesOutput}
use Rattle.run_common.specs.Status.{Is, IsOneOf}
use Rattle.run_common.specs.declared.status.Status.TheVariants.{Done, Refused, DoorFailed, NoMemory}
use Rattle.run_words.specs.Words.{command_in}
use Rattle.run_words.specs.declared.command.Command.{Command}

-- one connection, whose octets come in these pieces
abbrev pub pieces_in : List (List ℕ) → DoorState
pieces_in pieces = first_state (pieces ∷ [])

-- how a run ends whose door had failed in no call
abbrev pub Ends : List ℕ → ℕ → DoorView → ℕ → Type 0
Ends text row new status =
    Is NoMemory status
    ⊎ ((Is DoorFailed status × ((new.reads ≡ 1) ⊎ (new.writes ≡ 1)))
    ⊎ ((status ≡ row) × (outputs new.state ≡ text ∷ [])))

pub failed_once : {failed : Bool} {reads reads_now writes writes_now : ℕ} → reads ≡ 0 → writes ≡ 0
    → EndsAtFailure failed reads reads_now writes writes_now → (reads_now ≡ 1) ⊎ (writes_now ≡ 1)
failed_once unread unwritten (inl read) = inl (read.0.once ∙ ap (λ (n : ℕ). min (n + 1) (2 ^ 64 - 1)) unread)
failed_once unread unwritten (inr write) = inr (write.0.once ∙ ap (λ (n : ℕ). min (n + 1) (2 ^ 64 - 1)) unwritten)

pub written_out : {old new : DoorState} {status : ℕ} (pieces : List (List ℕ)) (text : List ℕ) (output : Output) (row : ℕ)
    → old ≡ pieces_in pieces → output ≡ record { text = text; status = row } → WritesOutput output old new status
    → (status ≡ row) × (outputs new ≡ text ∷ [])
written_out {old} {new} pieces text output row is said writes = (
  writes.status_is ∙ ap (λ (o : Output). o.status) said,
  ap outputs (writes.door_is ∙ ap (λ (o : Output). put_out o.text (with_left new.left old)) said ∙ ap (λ (s : DoorState). put_out text (with_left new.left s)) is),
)

pub promised_ends : {old new : DoorView} {status : ℕ} (output : List ℕ → Output) (pieces : List (List ℕ)) (text : List ℕ) (row : ℕ)
    → old.state ≡ pieces_in pieces → old.reads ≡ 0 → old.writes ≡ 0
    → output (pieces_in pieces).left ≡ record { text = text; status = row }
    → Promises (Unit {0}) output old new status → Ends text row new status
promised_ends {old} {new} {status} output pieces text row is reads writes said promise = by promise.statuses
  where
    said_of : output old.state.left ≡ record { text = text; status = row }
    said_of = ap (λ (s : DoorState). output s.left) is ∙ said

    by : IsOneOf (Done ∷ Refused ∷ DoorFailed ∷ NoMemory ∷ []) status → Ends text row new status
    by (inl done) = inr (inr (written_out pieces text (output old.state.left) row is said_of (promise.done tt (inl done))))
    by (inr (inl refused)) = inr (inr (written_out pieces text (output old.state.left) row is said_of (promise.done tt (inr refused))))
    by (inr (inr (inl failed))) = inr (inl (failed, failed_once reads writes (promise.fault failed)))
    by (inr (inr (inr memory))) = inl memory

-- a door to these pieces, by the pieces that were given
pub first_of : {given : List (List ℕ)} {state : DoorState} (pieces : List (List ℕ)) → given ≡ pieces → state ≡ pieces_in given → state ≡ pieces_in pieces
first_of pieces given state = state ∙ ap pieces_in given

-- the command of the words that were given
pub named : {given : List (List ℕ)} (words : List (List ℕ)) (command : Command) → given ≡ words → command_in words ≡ Some command → command_in given ≡ Some command
named words command given is = ap command_in given ∙ is
