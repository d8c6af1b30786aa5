-- Moments behind that of the last packet noted.
use Rattle.std.proofs.Common.{◌≡◌, ℕ, ◌≤◌, IsTrue, List, [], ◌∷◌, ◌++◌, Option, Some, None, refl, sym, subst, ap, ◌∙◌, arith}
use Rattle.std.proofs.lemmas.Bool.Decides.{nat_tests}
use Rattle.mud_base.specs.declared.packet.Fields.{Fields}
use Rattle.table_model.specs.declared.segment.Segment.{Segment}
use Rattle.table_model.specs.History.{segment_of, last_packet_at}
use Rattle.flow_table.specs.Noted.{is_since, follows}
use Rattle.flow_table.proofs.Histories.{at_planned, last_push}

pub since_later : (last : Option ℕ) (m n : ℕ) → IsTrue (is_since last m) → m ≤ n → IsTrue (is_since last n)
unfolding is_since
since_later None m n since le = refl
since_later (Some l) m n since le = grind (arith, nat_tests)

since_itself : (m n : ℕ) → m ≤ n → IsTrue (is_since (Some m) n)
unfolding is_since
since_itself m n le = grind (arith, nat_tests)

-- a packet that was noted at a moment isn't behind a later one
pub since_noted : (fields : Fields) (now : ℕ) (p : Segment) (before after : List Segment) → segment_of fields now ≡ Some p → after ≡ before ++ p ∷ [] → (n : ℕ) → now ≤ n → IsTrue (follows after n)
since_noted fields now p before after is noted n le =
    subst (λ (last : Option ℕ). IsTrue (is_since last n)) (sym (ap last_packet_at noted ∙ last_push before p ∙ ap (λ m. Some m) (at_planned fields now p is))) (since_itself now n le)

-- what stays the same of a history keeps the moment
pub since_same : (now : ℕ) (before after : List Segment) → after ≡ before → IsTrue (follows before now) → (n : ℕ) → now ≤ n → IsTrue (follows after n)
since_same now before after same since n le = subst (λ (h : List Segment). IsTrue (follows h n)) (sym same) (since_later (last_packet_at before) now n since le)
