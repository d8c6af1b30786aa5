use Rattle.std.specs.Prelude.{codes, decimal}
use Rattle.console_listings.proofs.Joins.{ok_behind}
use Rattle.console_listings.proofs.files.append_moment.Goals as goal

pub returns : goal.returns
returns c = ok_behind c.append_decimal.result c.args.body.now (codes "{\"fetched\":") (decimal c.args.fetched) c.append.new.self c.append_decimal.new.line c.in_ok-append.ensures.ok c.append_decimal.ensures.ok
