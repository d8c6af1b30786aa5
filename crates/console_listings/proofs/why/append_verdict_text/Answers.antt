use Rattle.std.specs.Prelude.{codes}
use Rattle.json.specs.Print.{quoted}
use Rattle.console_listings.proofs.Joins.{ok_behind}
use Rattle.console_listings.proofs.why.append_verdict_text.Goals as goal

pub returns : goal.returns
returns c = ok_behind c.append_quoted.result c.args.body.now (codes ",\"verdict\":") (quoted c.args.text.now) c.append.new.self c.append_quoted.new.body c.in_ok-append.ensures.ok c.append_quoted.ensures
