use Rattle.std.specs.Prelude.{◌++◌, codes}
use Rattle.json.specs.Print.{quoted}
use Rattle.mud_base.specs.Texts.{addr_text}
use Rattle.console_listings.specs.Rows.{until_end}
use Rattle.console_listings.proofs.Joins.{ok_behind}
use Rattle.console_listings.proofs.things.append_expiring.Goals as goal
use Rattle.text_values.proofs.Parts.{behind_both}

pub returns : goal.returns
returns c =
    let first = codes "{\"address\":" in
    let second = quoted (addr_text c.args.address) in
    ok_behind c.append_until_end.result c.args.body.now (first ++ second) (until_end c.args.until) c.append_address.new.body c.append_until_end.new.body
    (behind_both c.args.body.now first second c.append.new.self c.append_address.new.body c.in_ok-append.ensures.ok c.in_ok-append_address.ensures)
    c.append_until_end.ensures
