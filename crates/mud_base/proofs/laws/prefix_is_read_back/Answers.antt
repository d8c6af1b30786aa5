use Rattle.std.proofs.Common.{◌≡◌, ◌<◌, ◌^◌, arith, sym, subst, ◌∙◌}
use Rattle.mud_base.specs.declared.addr.Addr.TheVariants.{V4, V6}
use Rattle.mud_base.specs.Addresses.{IsPrefix}
use Rattle.mud_base.proofs.AddrBack.{FitsAddr}
use Rattle.mud_base.proofs.PrefixTexts.{prefix_in-prefix_text}
use Rattle.mud_base.proofs.laws.prefix_is_read_back.Goals as goal
use Rattle.mud_base.proofs.laws.prefix_is_read_back.Goals.{After-addr}

sound : (c : After-addr) → IsPrefix c.args.prefix
sound c = record {
  within = rw c.len-len.ensures.value at c.len-len.ensures.within;
  cleared = rw c.addr.ensures.value at c.addr.ensures.cleared;
}

pub returns-in-V4 : goal.returns-in-V4
returns-in-V4 c =
    let small : c.in-V4._number < 2 ^ 32 = omega arith in
    let is : c.args.prefix.addr ≡ V4 c.in-V4._number = sym c.addr.ensures.value ∙ c.in-V4.is in
    prefix_in-prefix_text c.args.prefix (subst FitsAddr (sym is) small) (sound (goal.at.returns-in-V4 c).After-addr)

pub returns-in-V6 : goal.returns-in-V6
returns-in-V6 c =
    let small : c.in-V6._number < 2 ^ 128 = omega arith in
    let is : c.args.prefix.addr ≡ V6 c.in-V6._number = sym c.addr.ensures.value ∙ c.in-V6.is in
    prefix_in-prefix_text c.args.prefix (subst FitsAddr (sym is) small) (sound (goal.at.returns-in-V6 c).After-addr)
