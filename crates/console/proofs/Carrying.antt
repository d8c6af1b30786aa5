-- What may stand for a command.
use Rattle.std.proofs.lemmas.Bool.{false≢true}
use Rattle.std.proofs.Common.{◌≡◌, ℕ, Bool, true, false, List, Ok, Err, sym, ap, ◌∙◌, inl, inr}
use Rattle.desk_model.specs.declared.command.Command.{Command}
use Rattle.desk_model.specs.declared.reply.Outcome.{Outcome}
use Rattle.desk_model.specs.declared.reply.Refusal.{Refusal}
use Rattle.desk_model.specs.declared.reply.Reply as desk
use Rattle.desk_model.specs.declared.reply.Reply.TheVariants.{Done, Refused, Keeper, Memory}
use Rattle.desk_model.specs.Commands.{DeskStep, command_step}
use Rattle.desk_model.specs.Sessions.{Session, Answered, later, command_in, AllowedReply}
use Rattle.console.specs.Replies.{Reply, replied, IsOrWanted}
use Rattle.console.specs.Requests.{command_reply, by_command, AllowedCommand}
use Rattle.console.specs.Origins.{IsWritten}
use Rattle.desk_model.proofs.Parts.{answered}

abbrev is_refused : desk.Reply → Bool
is_refused (Done outcome) = false
is_refused (Refused refusal) = true
is_refused Keeper = false
is_refused Memory = false

-- a refusal leaves the session
left_by : (session after : Session) (now : ℕ) (step : DeskStep) (refusal : Refusal) → answered session now step ≡ record { reply = Refused refusal; session = after } → after ≡ session
left_by session after now (Ok step) refusal is = absurd (false≢true (ap (λ (a : Answered). is_refused a.reply) is))
left_by session after now (Err fault) refusal is = sym (ap (λ (a : Answered). a.session) is)

module _ (session after : Session) (given : ℕ) (command : Command) (said : Outcome → List ℕ) where
  left : (refusal : Refusal) → command_in session given command ≡ record { reply = Refused refusal; session = after } → after ≡ session
  unfolding command_in
  left refusal is = left_by session after (later session given) (command_step session.desk (later session given) command) refusal is

  -- what a command answered stands where it was written
  stands_as : (reply : desk.Reply) (written : Reply) → command_in session given command ≡ record { reply = reply; session = after } → written ≡ command_reply said reply
      → by_command said (command_in session given command) ≡ replied written after
  unfolding by_command
  stands_as reply written is same = ap (by_command said) is ∙ ap (λ (r : Reply). replied r after) (sym same)

  refused : (refusal : Refusal) (written : Reply) → command_in session given command ≡ record { reply = Refused refusal; session = after } → IsOrWanted (command_reply said (Refused refusal)) written
      → AllowedCommand said session given command written after
  refused refusal written is or = elim or.one [ inl same ↦ record { one = inl (inl (stands_as (Refused refusal) written is same)) } | inr wanted ↦ record { one = inl (inr (wanted, left refusal is)) } ]

  pub stands : (reply : desk.Reply) (written : Reply) → AllowedReply session given command reply after → IsWritten said reply written → AllowedCommand said session given command written after
  unfolding AllowedReply
  stands (Done outcome) written may is = record { one = inl (inl (stands_as (Done outcome) written may is)) }
  stands (Refused refusal) written may is = refused refusal written may is
  stands Keeper written may is = record { one = inr (may.0, is, may.1) }
  stands Memory written may is = record { one = inl (inr (is, may)) }
