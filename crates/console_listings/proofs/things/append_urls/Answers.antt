use Rattle.std.specs.Prelude.{◌++◌, codes}
use Rattle.console_answers.specs.Texts.{url_text}
use Rattle.console_listings.specs.Rows.{url_end}
use Rattle.console_listings.proofs.Joins.{ok_behind}
use Rattle.console_listings.proofs.things.append_urls.Goals as goal
use Rattle.text_values.proofs.Parts.{behind_both}

pub returns : goal.returns
returns c =
    let first = codes ",\"pending\":" in
    let second = url_text c.args.pending.now in
    ok_behind c.append_url_end.result c.args.body.now (first ++ second) (url_end c.args.url.now) c.append_url.new.body c.append_url_end.new.body
    (behind_both c.args.body.now first second c.append.new.self c.append_url.new.body c.in_ok-append.ensures.ok c.in_ok-append_url.ensures)
    c.append_url_end.ensures
