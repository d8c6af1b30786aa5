use Rattle.std.proofs.Common.{◌≡◌, ◌≢◌, ◌-◌, inl, [], List, refl, sym, subst, ap, ◌∙◌, arith}
use Rattle.std.specs.Prelude.{max}
use Rattle.mud_world.specs.declared.item.Put.{Put}
use Rattle.mud_world.specs.Causes.{Counts}
use Rattle.mud_world.specs.Items.{put_all}
use Rattle.mud_world.specs.Kept.{faults_of, kept_items}
use Rattle.desk_model.specs.declared.reply.Outcome.{Outcome}
use Rattle.desk_model.specs.declared.reply.Reply.{Reply}
use Rattle.desk_model.specs.declared.reply.Reply.TheVariants.{Done}
use Rattle.desk_model.specs.Items.{items_of}
use Rattle.desk_model.specs.Sessions.{AllowedReply, is_of_keeper}
use Rattle.desk_model.specs.Commands.{command_step}
use Rattle.mud_desk.specs.Answers.{IsReadOnce}
use Rattle.mud_desk.specs.DeskState.{tables_of, session_of}
use Rattle.mud_desk.proofs.Sessions.{reaches, leads, stays, done, refused, failed, wanted, never_of_keeper}
use Rattle.mud_desk.proofs.Keepers.{kept_after}
use Rattle.mud_desk.proofs.Stays.{left_behind, stays_untold, stays_unput, LeavesAfter, LeavesBatch}
use Rattle.mud_desk.proofs.Payments.{paid, planned_only, undone, read_done, unread}
use Rattle.mud_desk.proofs.desk.Desk.command.Goals as goal

pub returns-in-Err-clause-answer : goal.returns-in-Err-clause-answer
returns-in-Err-clause-answer g c =
    let before = c.args.self.now.state in
    let is : c.later-now.result ≡ max before.moment c.args.now = c.later-now.ensures ∙ ap (λ m. max m c.args.now) c.moment.ensures in
    subst (λ (r : Reply). AllowedReply (session_of before) c.args.now c.args.command r (session_of c.plan.new.self)) (sym c.into_reply.ensures)
    (refused before c.plan.new.self c.args.command c.later-now.result c.in-Err.ensures.same c.in-Err.ensures.flows c.args.now is c.in-Err.refusal c.in-Err.ensures.moment c.in-Err.ensures.err)

pub returns-in-Err-clause-cause : goal.returns-in-Err-clause-cause
returns-in-Err-clause-cause g c =
    let count = faults_of g.K.Keeper c.args.self.now.keeper in
    subst (λ (r : Reply). Counts (is_of_keeper r) count count) (sym c.into_reply.ensures) (never_of_keeper c.in-Err.refusal count)

pub returns-in-Err-clause-compiled : goal.returns-in-Err-clause-compiled
returns-in-Err-clause-compiled g c = undone c.into_reply.result c.args.self.now.state.books.compiled c.plan.new.self.books.compiled c.in-Err.ensures.compiled

pub returns-in-Err-Failed-clause-answer : goal.returns-in-Err-Failed-clause-answer
returns-in-Err-Failed-clause-answer g c =
    let before = c.args.self.now.state in
    let is : c.later-now.result ≡ max before.moment c.args.now = c.later-now.ensures ∙ ap (λ m. max m c.args.now) c.moment.ensures in
    failed before c.plan.new.self c.args.command c.later-now.result c.in-Ok.ensures.same c.in-Ok.ensures.flows c.args.now is c.in-Ok.change c.in-Ok.ensures.ok
    (subst (λ (puts : List Put). puts ≢ []) c.batch.ensures c.in-Err-Failed.ensures.some) c.in-Ok.ensures.moment

pub returns-in-Err-Memory-clause-answer : goal.returns-in-Err-Memory-clause-answer
returns-in-Err-Memory-clause-answer g c =
    let before = c.args.self.now.state in
    let is : c.later-now.result ≡ max before.moment c.args.now = c.later-now.ensures ∙ ap (λ m. max m c.args.now) c.moment.ensures in
    wanted before c.plan.new.self c.args.command c.later-now.result c.in-Ok.ensures.same c.in-Ok.ensures.flows c.args.now is c.in-Ok.ensures.moment

pub returns-in-Err-Failed-clause-steps : goal.returns-in-Err-Failed-clause-steps
returns-in-Err-Failed-clause-steps g c =
    let before = c.args.self.now.state in
    let is : c.later-now.result ≡ max before.moment c.args.now = c.later-now.ensures ∙ ap (λ m. max m c.args.now) c.moment.ensures in
    planned_only before c.plan.new.self c.args.command c.later-now.result c.args.now is c.in-Ok.ensures.same c.in-Ok.ensures.compiled.rows c.args.steps.now c.plan.new.steps c.in-Ok.ensures.steps

pub returns-in-Err-Memory-clause-steps : goal.returns-in-Err-Memory-clause-steps
returns-in-Err-Memory-clause-steps g c =
    let before = c.args.self.now.state in
    let is : c.later-now.result ≡ max before.moment c.args.now = c.later-now.ensures ∙ ap (λ m. max m c.args.now) c.moment.ensures in
    planned_only before c.plan.new.self c.args.command c.later-now.result c.args.now is c.in-Ok.ensures.same c.in-Ok.ensures.compiled.rows c.args.steps.now c.plan.new.steps c.in-Ok.ensures.steps

pub returns-clause-answer : goal.returns-clause-answer
returns-clause-answer g c =
    let before = c.args.self.now.state in
    let is : c.later-now.result ≡ max before.moment c.args.now = c.later-now.ensures ∙ ap (λ m. max m c.args.now) c.moment.ensures in
    subst (λ (outcome : Outcome). AllowedReply (session_of before) c.args.now c.args.command (Done outcome) (session_of c.commit.new.self)) (sym c.outcome-outcome.ensures)
    (done before c.plan.new.self c.args.command c.later-now.result c.in-Ok.ensures.same c.in-Ok.ensures.flows c.args.now is c.commit.new.self c.in-Ok.change c.in-Ok.ensures.ok c.commit.ensures.desk c.commit.ensures.flows c.commit.ensures.moment)

pub returns-in-Err-clause-stays : goal.returns-in-Err-clause-stays
returns-in-Err-clause-stays g c = stays_untold g.K.Keeper refl c.in-Err.ensures.same c.requires.kept

pub returns-in-Err-Failed-clause-stays : goal.returns-in-Err-Failed-clause-stays
returns-in-Err-Failed-clause-stays g c =
    let before = c.args.self.now.state in
    let kept = c.in-Err-Failed.ensures in
    stays_unput g.K.Keeper c.later-now.result c.args.command kept.opened kept.told kept.err
    (left_behind g.K.Keeper c.args.self.now.keeper c.keep_batch.new.keeper (tables_of before) (command_step (tables_of before) c.later-now.result c.args.command) c.in-Ok.change.batch c.requires.kept
    (leads before c.plan.new.self c.args.command c.later-now.result c.in-Ok.ensures.same c.in-Ok.change c.in-Ok.ensures.ok c.in-Ok.ensures.sound c.command_fits.ensures c.requires.asked)
    (subst (LeavesBatch g.K.Keeper c.args.self.now.keeper c.keep_batch.new.keeper) c.batch.ensures kept.crash))
    c.in-Ok.ensures.same c.requires.kept

pub returns-in-Err-Memory-clause-stays : goal.returns-in-Err-Memory-clause-stays
returns-in-Err-Memory-clause-stays g c =
    let before = c.args.self.now.state in
    let kept = c.in-Err-Memory.ensures in
    stays_unput g.K.Keeper c.later-now.result c.args.command kept.opened kept.told kept.err
    (left_behind g.K.Keeper c.args.self.now.keeper c.keep_batch.new.keeper (tables_of before) (command_step (tables_of before) c.later-now.result c.args.command) c.in-Ok.change.batch c.requires.kept
    (leads before c.plan.new.self c.args.command c.later-now.result c.in-Ok.ensures.same c.in-Ok.change c.in-Ok.ensures.ok c.in-Ok.ensures.sound c.command_fits.ensures c.requires.asked)
    (subst (LeavesBatch g.K.Keeper c.args.self.now.keeper c.keep_batch.new.keeper) c.batch.ensures kept.crash))
    c.in-Ok.ensures.same c.requires.kept

pub returns-clause-stays : goal.returns-clause-stays
returns-clause-stays g c =
    let before = c.args.self.now.state in
    let kept = c.in-Ok-keep_batch.ensures in
    let put : put_all (items_of (tables_of before)) c.in-Ok.change.batch ≡ items_of (tables_of c.commit.new.self) =
    reaches before c.plan.new.self c.args.command c.later-now.result c.in-Ok.ensures.same c.in-Ok.change c.in-Ok.ensures.ok c.in-Ok.ensures.sound c.command_fits.ensures c.requires.asked ∙ ap items_of (sym c.commit.ensures.desk) in
    record {
      kept = kept_after g.K.Keeper c.args.self.now.keeper c.keep_batch.new.keeper (tables_of before) (tables_of c.commit.new.self) c.in-Ok.change.batch c.requires.kept kept.opened kept.told
          (λ tells. kept.ok tells ∙ ap (put_all (kept_items g.K.Keeper c.args.self.now.keeper)) c.batch.ensures)
          put
          (λ none. kept.none (c.batch.ensures ∙ none))
          (λ none. c.commit.ensures.desk ∙ stays before c.plan.new.self c.args.command c.later-now.result c.in-Ok.ensures.same c.in-Ok.change c.in-Ok.ensures.ok c.in-Ok.ensures.sound c.command_fits.ensures c.requires.asked none)
          (λ some. kept.rests (subst (λ (puts : List Put). puts ≢ []) (sym c.batch.ensures) some));
      told = kept.told;
    }

pub returns-in-Err-clause-crash : goal.returns-in-Err-clause-crash
returns-in-Err-clause-crash g c list left = inl left

pub returns-in-Err-Failed-clause-crash : goal.returns-in-Err-Failed-clause-crash
returns-in-Err-Failed-clause-crash g c =
    let before = c.args.self.now.state in
    let is : c.later-now.result ≡ max before.moment c.args.now = c.later-now.ensures ∙ ap (λ m. max m c.args.now) c.moment.ensures in
    subst (LeavesAfter g.K.Keeper c.args.self.now.keeper c.keep_batch.new.keeper (tables_of before) c.args.command) is
    (left_behind g.K.Keeper c.args.self.now.keeper c.keep_batch.new.keeper (tables_of before) (command_step (tables_of before) c.later-now.result c.args.command) c.in-Ok.change.batch c.requires.kept
    (leads before c.plan.new.self c.args.command c.later-now.result c.in-Ok.ensures.same c.in-Ok.change c.in-Ok.ensures.ok c.in-Ok.ensures.sound c.command_fits.ensures c.requires.asked)
    (subst (LeavesBatch g.K.Keeper c.args.self.now.keeper c.keep_batch.new.keeper) c.batch.ensures c.in-Err-Failed.ensures.crash))

pub returns-in-Err-Memory-clause-crash : goal.returns-in-Err-Memory-clause-crash
returns-in-Err-Memory-clause-crash g c =
    let before = c.args.self.now.state in
    let is : c.later-now.result ≡ max before.moment c.args.now = c.later-now.ensures ∙ ap (λ m. max m c.args.now) c.moment.ensures in
    subst (LeavesAfter g.K.Keeper c.args.self.now.keeper c.keep_batch.new.keeper (tables_of before) c.args.command) is
    (left_behind g.K.Keeper c.args.self.now.keeper c.keep_batch.new.keeper (tables_of before) (command_step (tables_of before) c.later-now.result c.args.command) c.in-Ok.change.batch c.requires.kept
    (leads before c.plan.new.self c.args.command c.later-now.result c.in-Ok.ensures.same c.in-Ok.change c.in-Ok.ensures.ok c.in-Ok.ensures.sound c.command_fits.ensures c.requires.asked)
    (subst (LeavesBatch g.K.Keeper c.args.self.now.keeper c.keep_batch.new.keeper) c.batch.ensures c.in-Err-Memory.ensures.crash))

pub returns-clause-crash : goal.returns-clause-crash
returns-clause-crash g c =
    let before = c.args.self.now.state in
    let is : c.later-now.result ≡ max before.moment c.args.now = c.later-now.ensures ∙ ap (λ m. max m c.args.now) c.moment.ensures in
    subst (LeavesAfter g.K.Keeper c.args.self.now.keeper c.keep_batch.new.keeper (tables_of before) c.args.command) is
    (left_behind g.K.Keeper c.args.self.now.keeper c.keep_batch.new.keeper (tables_of before) (command_step (tables_of before) c.later-now.result c.args.command) c.in-Ok.change.batch c.requires.kept
    (leads before c.plan.new.self c.args.command c.later-now.result c.in-Ok.ensures.same c.in-Ok.change c.in-Ok.ensures.ok c.in-Ok.ensures.sound c.command_fits.ensures c.requires.asked)
    (subst (LeavesBatch g.K.Keeper c.args.self.now.keeper c.keep_batch.new.keeper) c.batch.ensures c.in-Ok-keep_batch.ensures.crash))

pub returns-clause-steps : goal.returns-clause-steps
returns-clause-steps g c =
    let before = c.args.self.now.state in
    let is : c.later-now.result ≡ max before.moment c.args.now = c.later-now.ensures ∙ ap (λ m. max m c.args.now) c.moment.ensures in
    paid before c.plan.new.self c.args.command c.later-now.result c.args.now is c.in-Ok.ensures.same c.in-Ok.ensures.compiled.rows c.commit.new.self c.in-Ok.change c.in-Ok.ensures.ok c.commit.ensures.desk
    c.args.steps.now c.plan.new.steps c.commit.new.steps c.in-Ok.ensures.steps c.commit.ensures.counted c.commit.ensures.most

pub returns-in-Err-clause-least : goal.returns-in-Err-clause-least
returns-in-Err-clause-least g c =
    let before = c.args.self.now.state in
    let step = command_step (tables_of before) (max before.moment c.args.now) c.args.command in
    subst (λ (r : Reply). IsReadOnce r step before.books (c.plan.new.steps - c.args.steps.now)) (sym c.into_reply.ensures) (unread c.in-Err.refusal step before.books (c.plan.new.steps - c.args.steps.now))

pub returns-clause-least : goal.returns-clause-least
returns-clause-least g c =
    let before = c.args.self.now.state in
    let is : c.later-now.result ≡ max before.moment c.args.now = c.later-now.ensures ∙ ap (λ m. max m c.args.now) c.moment.ensures in
    read_done c.args.command before.books (tables_of before) c.later-now.result (max before.moment c.args.now) is c.args.steps.now c.plan.new.steps c.commit.new.steps (omega (arith, c.commit.ensures.counted)) c.in-Ok.ensures.read
