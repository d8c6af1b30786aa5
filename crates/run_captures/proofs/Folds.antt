-- Laws of the lines of packets and of the state behind them.
use Rattle.std.proofs.Common.{◌≡◌, ℕ, List, [], ◌∷◌, ◌++◌, refl, sym, ap, ◌∙◌, append_assoc, append-nil}
use Rattle.read_buffer.specs.Packets.{Packet}
use Rattle.run_captures.specs.Fold.{LineStep, lines_from, state_after}

pub lines_of_append : {S : Type 0} (step : S → Packet → LineStep S) (s : S) (packets more : List Packet)
    → lines_from step s (packets ++ more) ≡ lines_from step s packets ++ lines_from step (state_after step s packets) more
lines_of_append step s [] more = refl
lines_of_append step s (packet ∷ packets) more =
    ap (λ (lines : List ℕ). (step s packet).line ++ lines) (lines_of_append step (step s packet).next packets more)
    ∙ sym (append_assoc (step s packet).line (lines_from step (step s packet).next packets) (lines_from step (state_after step (step s packet).next packets) more))

pub state_of_append : {S : Type 0} (step : S → Packet → LineStep S) (s : S) (packets more : List Packet)
    → state_after step s (packets ++ more) ≡ state_after step (state_after step s packets) more
state_of_append step s [] more = refl
state_of_append step s (packet ∷ packets) more = state_of_append step (step s packet).next packets more

-- one packet more
pub lines_of_next : {S : Type 0} (step : S → Packet → LineStep S) (s at : S) (packets : List Packet) (packet : Packet) → at ≡ state_after step s packets
    → lines_from step s (packets ++ packet ∷ []) ≡ lines_from step s packets ++ (step at packet).line
lines_of_next {S} step s at packets packet is =
    lines_of_append step s packets (packet ∷ [])
    ∙ ap (λ (more : List ℕ). lines_from step s packets ++ more) (append-nil (step (state_after step s packets) packet).line)
    ∙ ap (λ (t : S). lines_from step s packets ++ (step t packet).line) (sym is)

pub state_of_next : {S : Type 0} (step : S → Packet → LineStep S) (s at : S) (packets : List Packet) (packet : Packet) → at ≡ state_after step s packets
    → (step at packet).next ≡ state_after step s (packets ++ packet ∷ [])
state_of_next {S} step s at packets packet is =
    ap (λ (t : S). (step t packet).next) is ∙ sym (state_of_append step s packets (packet ∷ []))
