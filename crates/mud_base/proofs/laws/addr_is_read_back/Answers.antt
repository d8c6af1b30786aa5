use Rattle.std.proofs.Common.{◌<◌, ◌^◌, arith}
use Rattle.mud_base.specs.declared.addr.Addr.TheVariants.{V4, V6}
use Rattle.mud_base.specs.Texts.{addr_text}
use Rattle.mud_base.proofs.AddrBack.{IsAddrText-addr_text}
use Rattle.mud_base.proofs.AddrTexts.{addr_in-text}
use Rattle.mud_base.proofs.laws.addr_is_read_back.Goals as goal

pub returns-in-V4-clause-grammar : goal.returns-in-V4-clause-grammar
returns-in-V4-clause-grammar c =
    let fits : c.in-V4._number < 2 ^ 32 = omega arith in
    rw c.in-V4.is (IsAddrText-addr_text (V4 c.in-V4._number) fits)

pub returns-in-V4-clause-value : goal.returns-in-V4-clause-value
returns-in-V4-clause-value c = addr_in-text (addr_text c.args.addr) c.args.addr (returns-in-V4-clause-grammar c)

pub returns-in-V6-clause-grammar : goal.returns-in-V6-clause-grammar
returns-in-V6-clause-grammar c =
    let fits : c.in-V6._number < 2 ^ 128 = omega arith in
    rw c.in-V6.is (IsAddrText-addr_text (V6 c.in-V6._number) fits)

pub returns-in-V6-clause-value : goal.returns-in-V6-clause-value
returns-in-V6-clause-value c = addr_in-text (addr_text c.args.addr) c.args.addr (returns-in-V6-clause-grammar c)
