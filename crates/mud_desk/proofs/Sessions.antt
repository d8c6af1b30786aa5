-- What the calls of a desk make of its session.
use Rattle.std.proofs.Common.{◌≡◌, ◌≢◌, ℕ, ◌≤◌, Bool, true, false, IsTrue, List, [], Result, Ok, Err, refl, sym, ap, ◌∙◌, subst, if◌then◌else◌, arith}
use Rattle.std.specs.Prelude.{max, IsOkAnd, IfOk, IsSome}
use Rattle.mud_base.specs.declared.memory.Memory as want
use Rattle.mud_world.specs.declared.item.Item.{Item}
use Rattle.mud_world.specs.declared.item.Put.{Put}
use Rattle.mud_world.specs.Items.{put_all, is_batch}
use Rattle.mud_world.specs.Causes.{Counts}
use Rattle.acl_compile.specs.Compiled.{CompiledState}
use Rattle.mud_base.specs.declared.prefix.Prefix.{Prefix}
use Rattle.table_model.specs.declared.thing.Thing.{Thing}
use Rattle.table_model.specs.declared.segment.Segment.{Segment}
use Rattle.table_model.specs.History.{last_packet_at}
use Rattle.flow_table.specs.Noted.{Noted, is_since, follows}
use Rattle.mud_base.specs.declared.packet.Direction.{Direction}
use Rattle.mud_base.specs.declared.packet.Fields.{Fields}
use Rattle.frame_view.specs.declared.views.Frame.{Frame}
use Rattle.frame_view.specs.Frame.{frame_of}
use Rattle.packet_judge.specs.declared.verdict.Verdict.{Verdict}
use Rattle.packet_judge.specs.Verdicts.{noted_fields, history_after, steps_on}
use Rattle.desk_model.specs.declared.command.Command.{Command}
use Rattle.desk_model.specs.declared.reply.Refusal.{Refusal}
use Rattle.desk_model.specs.declared.reply.Reply.TheVariants.{Done, Refused, Keeper, Memory}
use Rattle.desk_model.specs.Refusals.{is_want_of_memory, reply_of}
use Rattle.desk_model.specs.DeskTables.{DeskTables, IsSound}
use Rattle.desk_model.specs.Commands.{DeskStep, command_step, IsTyped, IsAsked, TellsChange}
use Rattle.desk_model.specs.Items.{items_of}
use Rattle.desk_model.specs.Kept.{AreItemsAfter}
use Rattle.desk_model.specs.Verdicts.{verdict_at}
use Rattle.desk_model.specs.Sessions.{Session, Answered, command_in, AllowedReply, AllowedVerdict, later, verdict_in, frame_in, is_of_keeper}
use Rattle.desk_model.proofs.ToldSteps.{commands_told}
use Rattle.desk_books.specs.CompiledDesk.{IsCompiledOf}
use Rattle.mud_desk.specs.RuleInputs.{rule_inputs, AreRuleInputsOf}
use Rattle.mud_desk.proofs.Since.{since_later}
use Rattle.desk_books.specs.Books.{Books, desk_of}
use Rattle.desk_books.specs.Changes.{PlannedChange, desk_after}
use Rattle.desk_books.specs.Planned.{IsPlanned, IsReady, IsBatchOf}
use Rattle.mud_desk.specs.DeskState.{DeskState, tables_of, session_of, IsTimely}
use Rattle.desk_model.proofs.Parts.{answered, judged}

-- ---- The moment

pub timely_later : (flows : Noted) (m n : ℕ) → IsTimely flows m → m ≤ n → IsTimely flows n
unfolding IsTimely
timely_later flows m n timely le = since_later (last_packet_at flows.history) m n timely le

pub timely_since : (flows : Noted) (m n : ℕ) → IsTimely flows m → m ≤ n → IsTrue (follows flows.history n)
unfolding IsTimely
timely_since flows m n timely le = since_later (last_packet_at flows.history) m n timely le

pub timely_at : (flows : Noted) (n : ℕ) → IsTrue (follows flows.history n) → IsTimely flows n
unfolding IsTimely
timely_at flows n since = since

pub timely_same : (before after : Noted) (m : ℕ) → after.history ≡ before.history → IsTimely before m → IsTimely after m
unfolding IsTimely
timely_same before after m same timely = subst (λ (h : List Segment). IsTrue (follows h m)) (sym same) timely

pub timely_new : (flows : Noted) (m : ℕ) → flows.history ≡ [] → IsTimely flows m
unfolding IsTimely last_packet_at is_since
timely_new flows m none = subst (λ (h : List Segment). IsTrue (follows h m)) (sym none) refl

pub max_first : (m n k : ℕ) → k ≡ max m n → m ≤ k
max_first m n k is = omega (arith, is)

same_session : (before after : DeskState) → tables_of after ≡ tables_of before → after.flows.history ≡ before.flows.history → after.moment ≡ before.moment → session_of after ≡ session_of before
unfolding session_of
same_session before after tables history moment = λ i. record { desk = tables i; history = history i; moment = moment i }

-- ---- A command, at the moment at which it runs

unfoldable answered_at : Session → Command → ℕ → Answered
answered_at session command n = answered session n (command_step session.desk n command)

runs_at : (session : Session) (now : ℕ) (command : Command) (n : ℕ) → n ≡ max session.moment now → command_in session now command ≡ answered_at session command n
unfolding command_in answered_at later
runs_at session now command n is = ap (answered_at session command) (sym is)

step_done : (session : Session) (n : ℕ) (books : Books) (change : PlannedChange) (after : Session) → after.desk ≡ desk_after change (desk_of books) → after.history ≡ session.history → after.moment ≡ n
    → (step : DeskStep) → IsOkAnd step (λ s. IsPlanned s books change) → answered session n step ≡ record { reply = Done change.outcome; session = after }
step_done session n books change after desk history moment (Ok s) planned =
    λ i. record { reply = Done (sym planned.outcome i); session = record { desk = (sym planned.leads ∙ sym desk) i; history = sym history i; moment = sym moment i } }
step_done session n books change after desk history moment (Err refusal) planned = absurd planned

step_refused : (session : Session) (n : ℕ) (refusal : Refusal) (after : Session) → after ≡ session → (step : DeskStep) → step ≡ Err refusal → answered session n step ≡ record { reply = Refused refusal; session = after }
step_refused session n refusal after same step is = ap (answered session n) is ∙ (λ i. record { reply = Refused refusal; session = sym same i })

-- the batch of a change that is planned
batch_fits : (changes : Bool) (before after : DeskTables) (batch : List Put) → IsBatchOf changes before after batch → batch ≢ [] → (changes ≡ true) × IsTrue (is_batch batch)
batch_fits true before after batch kept some = (refl, kept.batch)
batch_fits false before after batch none some = absurd (some none)

step_changes : (books : Books) (change : PlannedChange) (step : DeskStep) → IsOkAnd step (λ s. IsPlanned s books change) → change.batch ≢ [] → IsOkAnd step (λ s. s.changes ≡ true)
step_changes books change (Ok s) planned some = (batch_fits s.changes (desk_of books) s.desk change.batch planned.batch some).0
step_changes books change (Err refusal) planned some = absurd planned

batch_reaches : (changes : Bool) (before after : DeskTables) (batch : List Put) → (changes ≡ false → after ≡ before) → IsBatchOf changes before after batch → put_all (items_of before) batch ≡ items_of after
batch_reaches true before after batch same kept = kept.reaches
batch_reaches false before after batch same none = ap (put_all (items_of before)) none ∙ ap items_of (sym (same refl))

step_reaches : (books : Books) (now : ℕ) (change : PlannedChange) (step : DeskStep) → IsOkAnd step (λ s. IsPlanned s books change) → IfOk step (TellsChange (desk_of books) now)
    → put_all (items_of (desk_of books)) change.batch ≡ items_of (desk_after change (desk_of books))
step_reaches books now change (Ok s) planned told =
    batch_reaches s.changes (desk_of books) s.desk change.batch told.same planned.batch ∙ ap items_of (sym planned.leads)
step_reaches books now change (Err refusal) planned told = absurd planned

step_leads : (books : Books) (change : PlannedChange) (items : List Item) (step : DeskStep) → IsOkAnd step (λ s. IsPlanned s books change) → items ≡ items_of (desk_after change (desk_of books)) → AreItemsAfter step items
step_leads books change items (Ok s) planned reaches = reaches ∙ ap items_of planned.leads
step_leads books change items (Err refusal) planned reaches = absurd planned

batch_stays : (changes : Bool) (before after : DeskTables) (batch : List Put) → (changes ≡ false → after ≡ before) → IsBatchOf changes before after batch → batch ≡ [] → after ≡ before
batch_stays true before after batch same kept none = absurd (let e = subst (λ (puts : List Put). IsTrue (is_batch puts)) none kept.batch in cc)
batch_stays false before after batch same none empty = same refl

step_stays : (books : Books) (now : ℕ) (change : PlannedChange) (step : DeskStep) → IsOkAnd step (λ s. IsPlanned s books change) → IfOk step (TellsChange (desk_of books) now) → change.batch ≡ []
    → desk_after change (desk_of books) ≡ desk_of books
step_stays books now change (Ok s) planned told none = planned.leads ∙ batch_stays s.changes (desk_of books) s.desk change.batch told.same planned.batch none
step_stays books now change (Err refusal) planned told none = absurd planned

step_ready : (books : Books) (change : PlannedChange) (step : DeskStep) → IsOkAnd step (λ s. IsPlanned s books change) → IsReady books change
step_ready books change (Ok s) planned = planned.ready
step_ready books change (Err refusal) planned = absurd planned

module _ (before mid : DeskState) (command : Command) (n : ℕ) (same : tables_of mid ≡ tables_of before) where
  -- the change was planned for the books in the middle
  abbrev pub IsPlannedIn : PlannedChange → Type 0
  IsPlannedIn change = IsOkAnd (command_step (tables_of before) n command) (λ s. IsPlanned s mid.books change)

  pub ready : (change : PlannedChange) → IsPlannedIn change → IsReady mid.books change
  ready change planned = step_ready mid.books change (command_step (tables_of before) n command) planned

  -- what the keeper has is then the desk after the change
  pub reaches : (change : PlannedChange) → IsPlannedIn change → IsSound (tables_of before) → IsTyped command → IsAsked command
      → put_all (items_of (tables_of before)) change.batch ≡ items_of (desk_after change (tables_of mid))
  unfolding tables_of
  reaches change planned sound typed asked =
      ap (λ (desk : DeskTables). put_all (items_of desk) change.batch) (sym same)
      ∙ step_reaches mid.books n change (command_step (tables_of before) n command) planned
      (subst (λ (desk : DeskTables). IfOk (command_step (tables_of before) n command) (TellsChange desk n)) (sym same) (commands_told (tables_of before) sound command n (record { typed = typed; asked = asked })))

  -- which are the items of the step
  pub leads : (change : PlannedChange) → IsPlannedIn change → IsSound (tables_of before) → IsTyped command → IsAsked command
      → AreItemsAfter (command_step (tables_of before) n command) (put_all (items_of (tables_of before)) change.batch)
  unfolding tables_of
  leads change planned sound typed asked =
      step_leads mid.books change (put_all (items_of (tables_of before)) change.batch) (command_step (tables_of before) n command) planned (reaches change planned sound typed asked)

  -- where nothing is put, the desk is as before
  pub stays : (change : PlannedChange) → IsPlannedIn change → IsSound (tables_of before) → IsTyped command → IsAsked command → change.batch ≡ []
      → desk_after change (tables_of mid) ≡ tables_of before
  unfolding tables_of
  stays change planned sound typed asked none =
      step_stays mid.books n change (command_step (tables_of before) n command) planned
      (subst (λ (desk : DeskTables). IfOk (command_step (tables_of before) n command) (TellsChange desk n)) (sym same) (commands_told (tables_of before) sound command n (record { typed = typed; asked = asked }))) none ∙ same

  module _ (flows : mid.flows ≡ before.flows) (now : ℕ) (is : n ≡ max before.moment now) where
    history : mid.flows.history ≡ before.flows.history
    history = ap (λ (f : Noted). f.history) flows

    here : command_in (session_of before) now command ≡ answered_at (session_of before) command n
    unfolding session_of
    here = runs_at (session_of before) now command n is

    pub done : (after : DeskState) (change : PlannedChange) → IsPlannedIn change → tables_of after ≡ desk_after change (tables_of mid) → after.flows ≡ mid.flows → after.moment ≡ n
        → AllowedReply (session_of before) now command (Done change.outcome) (session_of after)
    unfolding AllowedReply session_of tables_of answered_at
    done after change planned desk flows_after moment =
        here ∙ step_done (session_of before) n mid.books change (session_of after) desk (ap (λ (f : Noted). f.history) (flows_after ∙ flows)) moment (command_step (tables_of before) n command) planned

    pub refused : (refusal : Refusal) → mid.moment ≡ before.moment → (is_want_of_memory refusal ≡ false → command_step (tables_of before) n command ≡ Err refusal)
        → AllowedReply (session_of before) now command (reply_of refusal) (session_of mid)
    unfolding AllowedReply session_of answered_at reply_of
    refused refusal moment says = by (is_want_of_memory refusal) refl
      where
        by : (b : Bool) → is_want_of_memory refusal ≡ b → AllowedReply (session_of before) now command (if b then Memory else Refused refusal) (session_of mid)
        by true wanted = same_session before mid same history moment
        by false spoken = here ∙ step_refused (session_of before) n refusal (session_of mid) (same_session before mid same history moment) (command_step (tables_of before) n command) (says spoken)

    pub failed : (change : PlannedChange) → IsPlannedIn change → change.batch ≢ [] → mid.moment ≡ before.moment
        → AllowedReply (session_of before) now command Keeper (session_of mid)
    unfolding AllowedReply session_of later
    failed change planned some moment = (
      subst (λ k. IsOkAnd (command_step (tables_of before) k command) (λ s. s.changes ≡ true)) is (step_changes mid.books change (command_step (tables_of before) n command) planned some),
      same_session before mid same history moment,
    )

    pub wanted : mid.moment ≡ before.moment → AllowedReply (session_of before) now command Memory (session_of mid)
    unfolding AllowedReply
    wanted moment = same_session before mid same history moment

pub never_of_keeper : (refusal : Refusal) (n : ℕ) → Counts (is_of_keeper (reply_of refusal)) n n
unfolding reply_of
never_of_keeper refusal n = by (is_want_of_memory refusal)
  where
    by : (b : Bool) → Counts (is_of_keeper (if b then Memory else Refused refusal)) n n
    by true = record { later = omega arith; rose = λ e. absurd (cc); steady = λ e. refl }
    by false = record { later = omega arith; rose = λ e. absurd (cc); steady = λ e. refl }

-- ---- A frame

pub rule_inputs_of : (state : DeskState) (things : List Thing) (compiled : CompiledState) (locals : List Prefix)
    → things ≡ state.books.things.things → compiled ≡ state.books.compiled → locals ≡ (tables_of state).tables.locals → IsCompiledOf (tables_of state) state.books.compiled
    → AreRuleInputsOf (tables_of state) (rule_inputs things compiled locals state.flows.history)
unfolding tables_of
rule_inputs_of state things compiled locals is_things is_compiled is_locals of = record {
  things = is_things;
  compiled = subst (IsCompiledOf (tables_of state)) (sym is_compiled) of;
  locals = is_locals;
}

pub verdict_here : (before : DeskState) (stamp n : ℕ) (frame : List ℕ) → n ≡ max before.moment stamp → verdict_in (session_of before) stamp frame ≡ verdict_at (tables_of before) before.flows.history n frame
unfolding verdict_in session_of later
verdict_here before stamp n frame is = ap (λ k. verdict_at (tables_of before) before.flows.history k frame) (sym is)

-- a frame was judged in the session
abbrev pub IsJudged : DeskState → ℕ → List ℕ → Result Verdict want.Memory → DeskState → Type 0
IsJudged before now frame verdict after = AllowedVerdict (session_of before) now frame verdict (session_of after)

module _ (before after : DeskState) (stamp n : ℕ) (frame : List ℕ) (is : n ≡ max before.moment stamp) where
  abbrev h : List Segment
  h = before.flows.history

  pub judged_so : (v : Verdict) → v ≡ verdict_at (tables_of before) h n frame → after.flows.history ≡ history_after h (frame_of frame) v n → after.books ≡ before.books → after.moment ≡ n
      → IsJudged before stamp frame (Ok v) after
  unfolding AllowedVerdict session_of frame_in later tables_of
  judged_so v is_v history books moment =
      (λ i. judged (session_of before) (sym is i) frame ((verdict_here before stamp n frame is ∙ sym is_v) i))
      ∙ (λ i. record { verdict = v; session = record { desk = desk_of (sym books i); history = sym history i; moment = sym moment i } })

  pub judged_not : (memory : want.Memory) → IsSome (noted_fields (frame_of frame) (verdict_at (tables_of before) h n frame)) → after.flows.history ≡ before.flows.history → after.books ≡ before.books → after.moment ≡ before.moment
      → IsJudged before stamp frame (Err memory) after
  unfolding AllowedVerdict tables_of
  judged_not memory noted history books moment =
      (subst (λ (v : Verdict). IsSome (noted_fields (frame_of frame) v)) (sym (verdict_here before stamp n frame is)) noted, same_session before after (ap desk_of books) history moment)

-- the steps of a verdict, by the books that were lent for it
pub steps_alike : (state : DeskState) (things : List Thing) (compiled : CompiledState) → things ≡ (tables_of state).tables.things → compiled ≡ state.books.compiled
    → (steps : CompiledState → Direction → Thing → Fields → ℕ) (frame : Frame) → steps_on (steps compiled) things frame ≡ steps_on (steps state.books.compiled) (tables_of state).tables.things frame
steps_alike state things compiled is_things is_compiled steps frame = λ i. steps_on (steps (is_compiled i)) (is_things i) frame
