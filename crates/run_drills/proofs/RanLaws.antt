-- Laws of commands that ran: of one, of none, and of some behind others.
use Rattle.std.proofs.Common.{◌≡◌, ℕ, List, [], ◌∷◌, ◌++◌, Result, Ok, Err, OnOk, IfErr, refl, sym, ap, subst, ◌∙◌, arith, append_assoc, append-nil, length-append}
use Rattle.std.proofs.lemmas.Result.{on_ok_weaker}
use Rattle.mud_world.specs.declared.keeper.Keeper.{Ghosts}
use Rattle.mud_world.specs.Kept.{faults_of}
use Rattle.mud_world.specs.Causes.{Counts}
use Rattle.usage_tables.specs.declared.approval.OperatorVerdict.TheVariants.{Waived}
use Rattle.usage_tables.specs.Held.{digest_of}
use Rattle.desk_model.specs.declared.command.Command.{Command}
use Rattle.desk_model.specs.declared.command.Command.TheVariants.{Import, Verdict}
use Rattle.desk_model.specs.declared.reply.Reply.{Reply}
use Rattle.desk_model.specs.declared.reply.Reply.TheVariants as reply
use Rattle.desk_model.specs.Sessions.{Session, Answered, AllowedReply, is_of_keeper}
use Rattle.desk_model.specs.Kept.{IsKept}
use Rattle.mud_desk.specs.DeskState.{session_of, tables_of}
use Rattle.mud_desk.specs.declared.desk.Desk.{Desk}
use Rattle.mud_desk.specs.Stays.{StaysKept}
use Rattle.mud_desk.proofs.Stays.{stays_itself, stays_further}
use Rattle.run_drills.specs.declared.commands.Round.TheVariants.{Announcements, Leases, Files, Hosts}
use Rattle.run_drills.specs.Network.{thing_count, file_count, usage_url}
use Rattle.run_drills.specs.Usage.{usage_text}
use Rattle.run_drills.specs.Commands.{approval, command_moment, drill_commands, fetched_file, round_commands}
use Rattle.run_drills.specs.Drill.{session_after}
use Rattle.run_drills.proofs.Rounds.{session_further}
use Rattle.run_drills.specs.declared.stop.Stop.{Stop}
use Rattle.run_drills.specs.declared.stop.Stop.TheVariants.{Memory}
use Rattle.run_drills.specs.Stops.{has_keeper_failed, stop_of}
use Rattle.run_drills.specs.Runs.{RanAll, RanPart}
use Rattle.run_drills.proofs.Parts.{binding}

-- ---- One command

-- what holds of a desk and its keeper behind a call
module _ {K : Type 0} (members : Ghosts K) (before after : Desk K) (stays : StaysKept members before after) (command : Command) where
  -- what is answered to the command, and the session behind it
  abbrev Replies : Reply → Type 0
  Replies answer = AllowedReply (session_of before.state) command_moment command answer (session_of after.state)

  all_by : (answer : Reply) → Replies answer → Counts (is_of_keeper answer) (faults_of members before.keeper) (faults_of members after.keeper) → OnOk (stop_of answer) (RanAll members (command ∷ []) before after)
  unfolding AllowedReply
  all_by (reply.Done outcome) replies cause = record {
    session = sym (ap (λ (a : Answered). a.session) replies);
    stays = stays;
    steady = cause.steady refl;
  }
  all_by (reply.Refused refusal) replies cause = record {
    session = sym (ap (λ (a : Answered). a.session) replies);
    stays = stays;
    steady = cause.steady refl;
  }
  all_by reply.Keeper replies cause = tt
  all_by reply.Memory replies cause = tt

  part_by : (answer : Reply) → Replies answer → Counts (is_of_keeper answer) (faults_of members before.keeper) (faults_of members after.keeper) → IfErr (stop_of answer) (λ stop. RanPart members stop (command ∷ []) before after)
  unfolding AllowedReply
  part_by (reply.Done outcome) replies cause = tt
  part_by (reply.Refused refusal) replies cause = tt
  part_by reply.Keeper replies cause = record {
    ran = [];
    rest = command ∷ [];
    split = refl;
    more = λ failed. omega arith;
    session = replies.1;
    stays = stays;
    cause = cause;
  }
  part_by reply.Memory replies cause = record {
    ran = [];
    rest = command ∷ [];
    split = refl;
    more = λ failed. omega arith;
    session = replies;
    stays = stays;
    cause = cause;
  }

  pub all_of_one : (answer : Reply) (result : Result (Unit {0}) Stop) → result ≡ stop_of answer → Replies answer → Counts (is_of_keeper answer) (faults_of members before.keeper) (faults_of members after.keeper) → OnOk result (RanAll members (command ∷ []) before after)
  all_of_one answer result is replies cause = subst (λ (r : Result (Unit {0}) Stop). OnOk r (RanAll members (command ∷ []) before after)) (sym is) (all_by answer replies cause)

  pub part_of_one : (answer : Reply) (result : Result (Unit {0}) Stop) → result ≡ stop_of answer → Replies answer → Counts (is_of_keeper answer) (faults_of members before.keeper) (faults_of members after.keeper) → IfErr result (λ stop. RanPart members stop (command ∷ []) before after)
  part_of_one answer result is replies cause = subst (λ (r : Result (Unit {0}) Stop). IfErr r (λ stop. RanPart members stop (command ∷ []) before after)) (sym is) (part_by answer replies cause)

-- ---- No command, and some behind others

module _ {K : Type 0} (members : Ghosts K) (a : Desk K) where
  pub all_of_none : IsKept members a.keeper (tables_of a.state) → RanAll members [] a a
  all_of_none kept = record {
    session = refl;
    stays = stays_itself members {a = a} kept;
    steady = refl;
  }

  pub part_of_none : (commands : List Command) → IsKept members a.keeper (tables_of a.state) → RanPart members Memory commands a a
  part_of_none commands kept = record {
    ran = [];
    rest = commands;
    split = refl;
    more = λ failed. absurd (cc);
    session = refl;
    stays = stays_itself members {a = a} kept;
    cause = record { later = omega arith; rose = λ failed. absurd (cc); steady = λ e. refl };
  }

  module _ (b : Desk K) where
    -- the same list, written otherwise
    pub all_same : (xs zs : List Command) → zs ≡ xs → RanAll members xs a b → RanAll members zs a b
    all_same xs zs is ran = subst (λ (l : List Command). RanAll members l a b) (sym is) ran

    -- a first part of a list is one of a longer list
    pub part_more : (stop : Stop) (xs more zs : List Command) → zs ≡ xs ++ more → RanPart members stop xs a b → RanPart members stop zs a b
    part_more stop xs more zs is part = record {
      ran = part.ran;
      rest = part.rest ++ more;
      split = is ∙ ap (λ (l : List Command). l ++ more) part.split ∙ append_assoc part.ran part.rest more;
      more = λ failed. omega (arith, part.more failed, length-append part.rest more);
      session = part.session;
      stays = part.stays;
      cause = part.cause;
    }

    module _ (xs : List Command) (first : RanAll members xs a b) (c : Desk K) where
      pub all_further : (ys : List Command) → RanAll members ys b c → RanAll members (xs ++ ys) a c
      all_further ys second = record {
        session = second.session ∙ ap (λ (s : Session). session_after s ys) first.session ∙ sym (session_further (session_of a.state) xs ys);
        stays = stays_further members first.stays second.stays;
        steady = second.steady ∙ first.steady;
      }

      pub part_further : (stop : Stop) (ys : List Command) → RanPart members stop ys b c → RanPart members stop (xs ++ ys) a c
      part_further stop ys second = record {
        ran = xs ++ second.ran;
        rest = second.rest;
        split = ap (λ (l : List Command). xs ++ l) second.split ∙ sym (append_assoc xs second.ran second.rest);
        more = second.more;
        session = second.session ∙ ap (λ (s : Session). session_after s second.ran) first.session ∙ sym (session_further (session_of a.state) xs second.ran);
        stays = stays_further members first.stays second.stays;
        cause = subst (λ n. Counts (has_keeper_failed stop) n (faults_of members c.keeper)) first.steady second.cause;
      }

-- ---- What a call that answers so leaves behind commands that ran

if_err : {A E : Type 0} (r : Result A E) {P Q : E → Type 0} → ((e : E) → P e → Q e) → IfErr r P → IfErr r Q
if_err (Ok a) f p = tt
if_err (Err e) f p = f e p

module _ {K : Type 0} (members : Ghosts K) (a : Desk K) (b : Desk K) (xs : List Command) (first : RanAll members xs a b)
    (c : Desk K) (ys zs : List Command) (is : zs ≡ xs ++ ys) where
  pub both_ran : RanAll members ys b c → RanAll members zs a c
  both_ran second = all_same members a c (xs ++ ys) zs is (all_further members a b xs first c ys second)

  pub both_all : (r : Result (Unit {0}) Stop) → OnOk r (RanAll members ys b c) → OnOk r (RanAll members zs a c)
  both_all r second = on_ok_weaker r both_ran second

  pub both_part : (more ws : List Command) → ws ≡ zs ++ more → (stop : Stop) → RanPart members stop ys b c → RanPart members stop ws a c
  both_part more ws split stop second =
      part_more members a c stop (xs ++ ys) more ws (split ∙ ap (λ (l : List Command). l ++ more) is) (part_further members a b xs first c stop ys second)

  pub both_err : (r : Result (Unit {0}) Stop) → IfErr r (λ stop. RanPart members stop ys b c) → IfErr r (λ stop. RanPart members stop zs a c)
  both_err r second = if_err r (λ stop part. both_part [] zs (sym (append-nil zs)) stop part) second

-- ---- The commands of a drill, parted behind each round

pub five_parts : (A L F B O : List Command) → (((A ++ L) ++ F) ++ B) ++ O ≡ A ++ (L ++ (F ++ (B ++ O)))
five_parts A L F B O = simp append_assoc

pub behind_two : (A L F B O : List Command) → (((A ++ L) ++ F) ++ B) ++ O ≡ (A ++ L) ++ (F ++ (B ++ O))
behind_two A L F B O = simp append_assoc

pub behind_three : (A L F B O : List Command) → (((A ++ L) ++ F) ++ B) ++ O ≡ ((A ++ L) ++ F) ++ (B ++ O)
behind_three A L F B O = simp append_assoc

pub drill_parts : (packets : ℕ) → drill_commands packets ≡
    (((round_commands Announcements (thing_count packets) ++ round_commands Leases (thing_count packets)) ++ round_commands Files (file_count packets)) ++ (binding ∷ [])) ++ round_commands Hosts (file_count packets)
unfolding drill_commands
drill_parts packets = refl

-- ---- The two commands of a usage file

pub fetched_is : (command : Command) (file : List ℕ) (thing : ℕ) → command ≡ Import file command_moment → file ≡ usage_text thing → command ≡ fetched_file thing
unfolding fetched_file
fetched_is command file thing is made = is ∙ ap (λ (octets : List ℕ). Import octets command_moment) made

pub approval_is : (command : Command) (octets file : List ℕ) (thing : ℕ) → command ≡ Verdict (usage_url thing) (digest_of octets) Waived → octets ≡ file → file ≡ usage_text thing → command ≡ approval thing
unfolding approval
approval_is command octets file thing is lent made = is ∙ ap (λ (os : List ℕ). Verdict (usage_url thing) (digest_of os) Waived) (lent ∙ made)

-- ---- Five parts, one behind the other

pub parts_with : (packets things files : ℕ) (bound : Command) → things ≡ thing_count packets → files ≡ file_count packets → bound ≡ binding → drill_commands packets ≡
    (((round_commands Announcements things ++ round_commands Leases things) ++ round_commands Files files) ++ (bound ∷ [])) ++ round_commands Hosts files
parts_with packets things files bound t f b =
    drill_parts packets
    ∙ ap (λ (n : ℕ). (((round_commands Announcements n ++ round_commands Leases n) ++ round_commands Files (file_count packets)) ++ (binding ∷ [])) ++ round_commands Hosts (file_count packets)) (sym t)
    ∙ ap (λ (n : ℕ). (((round_commands Announcements things ++ round_commands Leases things) ++ round_commands Files n) ++ (binding ∷ [])) ++ round_commands Hosts n) (sym f)
    ∙ ap (λ (command : Command). (((round_commands Announcements things ++ round_commands Leases things) ++ round_commands Files files) ++ (command ∷ [])) ++ round_commands Hosts files) (sym b)

module _ {K : Type 0} (members : Ghosts K) (a : Desk K) (A L Fs B O drill : List Command) (is : drill ≡ (((A ++ L) ++ Fs) ++ B) ++ O) (k1 : Desk K) where
  pub part_one : (stop : Stop) → RanPart members stop A a k1 → RanPart members stop drill a k1
  part_one stop part = part_more members a k1 stop A (L ++ (Fs ++ (B ++ O))) drill (is ∙ five_parts A L Fs B O) part

  module _ (r1 : RanAll members A a k1) (k2 : Desk K) where
    pub part_two : (stop : Stop) → RanPart members stop L k1 k2 → RanPart members stop drill a k2
    part_two stop part = both_part members a k1 A r1 k2 L (A ++ L) refl (Fs ++ (B ++ O)) drill (is ∙ behind_two A L Fs B O) stop part

    module _ (r2 : RanAll members L k1 k2) (k3 : Desk K) where
      ran_two : RanAll members (A ++ L) a k2
      ran_two = both_ran members a k1 A r1 k2 L (A ++ L) refl r2

      pub part_three : (stop : Stop) → RanPart members stop Fs k2 k3 → RanPart members stop drill a k3
      part_three stop part = both_part members a k2 (A ++ L) ran_two k3 Fs ((A ++ L) ++ Fs) refl (B ++ O) drill (is ∙ behind_three A L Fs B O) stop part

      module _ (r3 : RanAll members Fs k2 k3) (k4 : Desk K) where
        ran_three : RanAll members ((A ++ L) ++ Fs) a k3
        ran_three = both_ran members a k2 (A ++ L) ran_two k3 Fs ((A ++ L) ++ Fs) refl r3

        pub part_four : (stop : Stop) → RanPart members stop B k3 k4 → RanPart members stop drill a k4
        part_four stop part = both_part members a k3 ((A ++ L) ++ Fs) ran_three k4 B (((A ++ L) ++ Fs) ++ B) refl O drill is stop part

        module _ (r4 : RanAll members B k3 k4) (k5 : Desk K) (r : Result (Unit {0}) Stop) where
          ran_four : RanAll members (((A ++ L) ++ Fs) ++ B) a k4
          ran_four = both_ran members a k3 ((A ++ L) ++ Fs) ran_three k4 B (((A ++ L) ++ Fs) ++ B) refl r4

          pub all_five : OnOk r (RanAll members O k4 k5) → OnOk r (RanAll members drill a k5)
          all_five second = both_all members a k4 (((A ++ L) ++ Fs) ++ B) ran_four k5 O drill is r second

          pub part_five : IfErr r (λ stop. RanPart members stop O k4 k5) → IfErr r (λ stop. RanPart members stop drill a k5)
          part_five second = both_err members a k4 (((A ++ L) ++ Fs) ++ B) ran_four k5 O drill is r second
