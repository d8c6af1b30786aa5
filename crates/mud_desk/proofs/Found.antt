-- What is found by what is compiled is what is found by the tables of the desk.
use Rattle.std.proofs.Common.{List, subst}
use Rattle.acl_compile.specs.Plans.{policy_held}
use Rattle.table_model.specs.declared.thing.Thing.{Thing}
use Rattle.frame_view.specs.declared.views.Frame.{Frame}
use Rattle.desk_model.specs.DeskTables.{DeskTables}
use Rattle.desk_model.specs.Findings.{Policies}
use Rattle.desk_model.specs.Verdicts.{policy_at}
use Rattle.mud_desk.specs.declared.findings.Findings.{Findings}
use Rattle.mud_desk.specs.Findings.{AreFindingsOn}
use Rattle.mud_desk.specs.RuleInputs.{RuleInputs, AreRuleInputsOf}

pub found_of : (desk : DeskTables) (g : RuleInputs) → AreRuleInputsOf desk g → (f : Frame) (findings : Findings) → AreFindingsOn (policy_held g.compiled.slots) g.things f findings
    → AreFindingsOn (policy_at desk) desk.tables.things f findings
found_of desk g of f findings found =
    subst (λ (ts : List Thing). AreFindingsOn (policy_at desk) ts f findings) of.things
    (subst (λ (p : Policies). AreFindingsOn p g.things f findings) (λ i url. of.compiled.policies url i) found)
