-- Commands, Things and packets, each list with one more behind it.
use Rattle.std.proofs.Common.{◌≡◌, ℕ, zero, suc, ◌+◌, ◌-◌, ◌<◌, List, [], ◌∷◌, ◌++◌, refl, ap, ap₂, ◌∙◌, arith, append-nil}
use Rattle.std.specs.Prelude.{flat_map}
use Rattle.std.specs.List.{range_with_len}
use Rattle.std.proofs.lemmas.List.Concat.{flat_map-append}
use Rattle.packet_judge.specs.declared.verdict.Verdict.{Verdict}
use Rattle.desk_model.specs.declared.command.Command.{Command}
use Rattle.desk_model.specs.Sessions.{Session, command_in, frame_in}
use Rattle.run_drills.specs.declared.commands.Round.{Round}
use Rattle.run_drills.specs.Commands.{command_moment, commands_of, round_commands}
use Rattle.run_drills.specs.Packets.{packet_frame, packet_moment}
use Rattle.run_drills.specs.Drill.{session_after, verdicts_on, session_behind, numbers_to}

-- ---- Numbers in a row

range_split : (a m n k : ℕ) → k ≡ m + n → range_with_len a k ≡ range_with_len a m ++ range_with_len (a + m) n
range_split a zero n k e = ap₂ range_with_len (same a) (omega (arith, e))
  where
    same : (b : ℕ) → b ≡ b + 0
    same b = omega arith
range_split a (suc m) n zero e = absurd (omega (arith, e))
range_split a (suc m) n (suc k) e =
    ap (λ (xs : List ℕ). a ∷ xs)
    (range_split (a + 1) m n k (omega (arith, e)) ∙ ap (λ (b : ℕ). range_with_len (a + 1) m ++ range_with_len b n) (omega arith))

pub range_push : (a n : ℕ) → range_with_len a (n + 1) ≡ range_with_len a n ++ (a + n) ∷ []
range_push a n = range_split a n 1 (n + 1) refl

-- ---- Commands

pub session_further : (s : Session) (xs ys : List Command) → session_after s (xs ++ ys) ≡ session_after (session_after s xs) ys
session_further s [] ys = refl
session_further s (x ∷ xs) ys = session_further (command_in s command_moment x).session xs ys

pub round_push : (round : Round) (n : ℕ) → round_commands round (n + 1) ≡ round_commands round n ++ commands_of round (n + 1)
unfolding round_commands
round_push round n =
    ap (flat_map (commands_of round)) (range_push 1 n)
    ∙ flat_map-append (commands_of round) (range_with_len 1 n) ((1 + n) ∷ [])
    ∙ ap (λ (more : List Command). flat_map (commands_of round) (range_with_len 1 n) ++ more)
    (append-nil (commands_of round (1 + n)) ∙ ap (commands_of round) (turned n))
  where
    turned : (m : ℕ) → 1 + m ≡ m + 1
    turned m = omega arith

unfoldable pub round_rest : Round → ℕ → ℕ → List Command
round_rest round n count = flat_map (commands_of round) (range_with_len (1 + (n + 1)) (count - (n + 1)))

pub round_split : (round : Round) (n count : ℕ) → n < count → round_commands round count ≡ round_commands round (n + 1) ++ round_rest round n count
unfolding round_commands round_rest
round_split round n count within =
    ap (flat_map (commands_of round)) (range_split 1 (n + 1) (count - (n + 1)) count (omega arith))
    ∙ flat_map-append (commands_of round) (range_with_len 1 (n + 1)) (range_with_len (1 + (n + 1)) (count - (n + 1)))

-- ---- Packets

pub verdicts_push : (packets : ℕ) (s : Session) (ns : List ℕ) (n : ℕ) → verdicts_on packets s (ns ++ n ∷ []) ≡ verdicts_on packets s ns ++ (frame_in (session_behind packets s ns) (packet_moment n) (packet_frame packets n)).verdict ∷ []
verdicts_push packets s [] n = refl
verdicts_push packets s (m ∷ ns) n =
    ap (λ (vs : List Verdict). (frame_in s (packet_moment m) (packet_frame packets m)).verdict ∷ vs)
    (verdicts_push packets (frame_in s (packet_moment m) (packet_frame packets m)).session ns n)

pub behind_push : (packets : ℕ) (s : Session) (ns : List ℕ) (n : ℕ) → session_behind packets s (ns ++ n ∷ []) ≡ (frame_in (session_behind packets s ns) (packet_moment n) (packet_frame packets n)).session
behind_push packets s [] n = refl
behind_push packets s (m ∷ ns) n = behind_push packets (frame_in s (packet_moment m) (packet_frame packets m)).session ns n

pub numbers_push : (n : ℕ) → numbers_to (n + 1) ≡ numbers_to n ++ (n + 1) ∷ []
numbers_push n = range_push 1 n ∙ ap (λ (m : ℕ). range_with_len 1 n ++ m ∷ []) (turned n)
  where
    turned : (m : ℕ) → 1 + m ≡ m + 1
    turned m = omega arith
