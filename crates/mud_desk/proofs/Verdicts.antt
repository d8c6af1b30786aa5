-- The rulings by what is compiled of a desk are those of the desk, and so is the verdict.
use Rattle.std.proofs.Common.{◌≡◌, ℕ, ◌<◌, List, ap, ◌∙◌}
use Rattle.mud_base.specs.declared.packet.Direction.{Direction}
use Rattle.mud_base.specs.declared.packet.Fields.{Fields}
use Rattle.table_model.specs.declared.thing.Thing.{Thing}
use Rattle.table_model.specs.declared.segment.Segment.{Segment}
use Rattle.table_model.specs.Expiries.{for_ever}
use Rattle.table_model.specs.Bindings.{bindings_of, ruling_by_bindings}
use Rattle.table_model.specs.History.{begun_of}
use Rattle.table_laws.proofs.Stores.{tests_alike}
use Rattle.frame_view.specs.declared.views.Frame.{Frame}
use Rattle.frame_view.specs.Frame.{frame_of}
use Rattle.packet_judge.specs.Verdicts.{rulings_of, verdict_on, verdict_of}
use Rattle.packet_judge.proofs.OverTables.{over_tables}
use Rattle.desk_model.specs.DeskTables.{DeskTables}
use Rattle.desk_model.specs.Verdicts.{policy_at, desk_bindings, verdict_at}
use Rattle.mud_desk.specs.RuleInputs.{RuleInputs, AreRuleInputsOf, ruling_on}

module _ (desk : DeskTables) (g : RuleInputs) (of : AreRuleInputsOf desk g) (now : ℕ) (small : now < for_ever) where
  ruling_alike : (side : Direction) (thing : Thing) (fields : Fields) → ruling_on g now side thing fields ≡ rulings_of desk.tables (policy_at desk) g.history now side thing fields
  unfolding ruling_on rulings_of desk_bindings
  ruling_alike side thing fields =
      (λ i. ruling_by_bindings g.compiled.bindings (of.locals i) now thing.url (of.compiled.policies thing.url i) side fields (begun_of g.history side fields now))
      ∙ over_tables desk.tables g.compiled.bindings (tests_alike g.compiled.bindings (bindings_of desk.tables) of.compiled.bindings) now thing.url (policy_at desk thing.url) side fields (begun_of g.history side fields now) small

  pub verdicts_alike : (frame : List ℕ) → verdict_on (ruling_on g now) g.things (frame_of frame) ≡ verdict_at desk g.history now frame
  unfolding verdict_at verdict_of
  verdicts_alike frame = λ i. verdict_on (λ side thing fields. ruling_alike side thing fields i) (of.things i) (frame_of frame)

-- of a frame that was read, with what is lent for a moment
pub verdict_read : (desk : DeskTables) (g : RuleInputs) → AreRuleInputsOf desk g → (h : List Segment) → g.history ≡ h → (at now : ℕ) → at ≡ now → now < for_ever
    → (f : Frame) (frame : List ℕ) → f ≡ frame_of frame → verdict_on (ruling_on g at) g.things f ≡ verdict_at desk h now frame
verdict_read desk g of h is_h at now is_now small f frame is_f =
    (λ i. verdict_on (ruling_on g (is_now i)) g.things (is_f i))
    ∙ verdicts_alike desk g of now small frame
    ∙ ap (λ (hs : List Segment). verdict_at desk hs now frame) is_h
