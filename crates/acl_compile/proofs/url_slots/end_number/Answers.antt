use Rattle.std.proofs.Common.{reverse, arith}
use Rattle.acl_compile.proofs.Leads.{lead_8, lead_behind}
use Rattle.acl_compile.proofs.url_slots.end_number.Goals as goal

pub returns-then-len-lt8 : goal.returns-then-len-lt8
returns-then-len-lt8 c = omega (arith, lead_8 (reverse c.args.text.now), c.from_be_bytes.ensures)

pub returns : goal.returns
returns c = omega (arith, lead_behind c.args.text.now (omega arith), c.from_le_bytes.ensures)
