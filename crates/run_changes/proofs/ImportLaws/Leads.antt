-- What the command of a name leads to.
use Rattle.std.proofs.Common.{◌≡◌, ℕ, false, List, [], Option, Some, Result, Ok, Err, OnErr, option_map, refl, sym, subst, ap, ◌∙◌}
use Rattle.std.specs.Prelude.{unwrap_or}
use Rattle.mud_world.specs.Clock.{next_moment, later_moments}
use Rattle.mud_world.specs.Files.{content_of, read_part}
use Rattle.mud_desk.specs.DeskState.{DeskState, session_of}
use Rattle.desk_model.specs.declared.command.Command.{Command}
use Rattle.desk_model.specs.declared.command.Command.TheVariants.{Import}
use Rattle.desk_model.specs.declared.reply.Reply.{Reply}
use Rattle.desk_model.specs.declared.reply.Reply.TheVariants.{Done, Refused, Keeper, Memory}
use Rattle.desk_model.specs.Commands.{DeskStep, command_step}
use Rattle.desk_model.specs.Sessions.{Session, Answered, command_in, later, AllowedReply}
use Rattle.run_changes.specs.Import.Names.{fetched_in}
use Rattle.run_changes.specs.Import.Entries.{is_of_memory}
use Rattle.run_changes.specs.Import.Imports.{ImportsEntry, octets_of}
use Rattle.run_changes.specs.Import.Scenes.{standing}
use Rattle.desk_model.proofs.Parts.{answered}

pub leads_on : (files : List (List ℕ × List ℕ)) (name octets : List ℕ) (fetched now : ℕ) (said reply : Reply) (before after : DeskState) (moments later : List ℕ)
    → fetched_in name ≡ Some fetched → option_map read_part (content_of files name) ≡ Some octets → now ≡ next_moment moments → later ≡ later_moments moments
    → said ≡ reply → is_of_memory reply ≡ false → AllowedReply (session_of before) now (Import octets fetched) reply (session_of after)
    → ImportsEntry files (standing before moments) name (Some said) (standing after later)
unfolding standing octets_of
leads_on files name octets fetched now said reply before after moments later form read asked given is not_memory may = record {
  leads = (
    fetched,
    form,
    subst (λ (r : Reply). AllowedReply (session_of before) (next_moment moments) (Import (unwrap_or (option_map read_part (content_of files name)) []) fetched) r (session_of after)) (sym is)
        (subst (λ (n : ℕ). AllowedReply (session_of before) n (Import (unwrap_or (option_map read_part (content_of files name)) []) fetched) reply (session_of after)) asked
        (subst (λ (os : List ℕ). AllowedReply (session_of before) now (Import os fetched) reply (session_of after)) (sym (ap (λ (o : Option (List ℕ)). unwrap_or o []) read)) may)),
    ap is_of_memory is ∙ not_memory,
    given,
  );
}

-- ---- Want of memory leaves all as it was

memory_leaves : (before : Session) (now : ℕ) (command : Command) (reply : Reply) (after : Session) → AllowedReply before now command reply after → reply ≡ Memory → after ≡ before
unfolding AllowedReply
memory_leaves before now command reply after may is = of reply is may
  where
    of : (reply : Reply) → reply ≡ Memory → AllowedReply before now command reply after → after ≡ before
    of reply is may = subst (λ (r : Reply). AllowedReply before now command r after) is may

-- ---- A command counts no packet

answered_history : (session : Session) (now : ℕ) (step : DeskStep) → (answered session now step).session.history ≡ session.history
answered_history session now (Ok step) = refl
answered_history session now (Err refusal) = refl

command_history : (session after : Session) (now : ℕ) (command : Command) (reply : Reply) → command_in session now command ≡ record { reply = reply; session = after } → after.history ≡ session.history
unfolding command_in
command_history session after now command reply is =
    sym (ap (λ (a : Answered). a.session.history) is) ∙ answered_history session (later session now) (command_step session.desk (later session now) command)

by_reply : (session after : Session) (now : ℕ) (command : Command) (reply : Reply) → AllowedReply session now command reply after → after.history ≡ session.history
unfolding AllowedReply
by_reply session after now command (Done outcome) may = command_history session after now command (Done outcome) may
by_reply session after now command (Refused refusal) may = command_history session after now command (Refused refusal) may
by_reply session after now command Keeper may = ap (λ (s : Session). s.history) may.1
by_reply session after now command Memory may = ap (λ (s : Session). s.history) may

pub same_history : (before after : DeskState) (now : ℕ) (command : Command) (reply : Reply) → AllowedReply (session_of before) now command reply (session_of after) → after.flows.history ≡ before.flows.history
unfolding session_of
same_history before after now command reply may = by_reply (session_of before) (session_of after) now command reply may

-- ---- A command for which memory was wanted

still : {T E P : Type 0} (r : Result T E) → P → OnErr r P
still (Ok done) p = tt
still (Err fault) p = p

-- it leaves the session
pub still_wanted : {T E : Type 0} (r : Result T E) (session after : Session) (now : ℕ) (command : Command) (reply : Reply) → AllowedReply session now command reply after → reply ≡ Memory → OnErr r (after ≡ session)
still_wanted r session after now command reply may is = still r (memory_leaves session now command reply after may is)
