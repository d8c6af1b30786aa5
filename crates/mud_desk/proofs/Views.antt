-- The view that is lent for a URL is over all bindings that are compiled.
use Rattle.std.proofs.Common.{ℕ, List, refl, subst}
use Rattle.mud_base.specs.declared.packet.Direction.{Direction}
use Rattle.acl_rows.specs.declared.row.Row.{Row}
use Rattle.acl_rows.specs.View.{View, IsViewOf}
use Rattle.acl_compile.specs.Compiled.{CompiledState, HasItsRows}
use Rattle.acl_compile.specs.Plans.{policy_held}
use Rattle.packet_judge.specs.ByRows.{IsViewOver}

pub view_over : (c : CompiledState) (url : List ℕ) (side : Direction) (view : View) → IsViewOf c.slots c.rows url side view → HasItsRows c → IsViewOver c.slots c.bindings url (policy_held c.slots url) side view
unfolding policy_held
view_over c url side view lends own = record {
  ascend = own.ascend;
  held = refl;
  lends = subst (λ (rows : List Row). IsViewOf c.slots rows url side view) own.rows lends;
}
