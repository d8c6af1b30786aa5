use Rattle.std.proofs.Common.{rules, tests, ◌&&◌, sym, ◌∙◌}
use Rattle.std.proofs.lemmas.Iterator.{YieldsList-from_slice}
use Rattle.std.proofs.lemmas.Iterator.Search.{any_from_yields_List}
use Rattle.httparse.specs.Spans.{header_bytes}
use Rattle.http_requests.specs.Fields.{is_named}
use Rattle.http_requests.proofs.Lists.{list_any-map}
use Rattle.http_requests.proofs.fields.lists_word.Goals as goal
use Rattle.http_requests.proofs.Pieces.{has_element}

pub returns : goal.returns
returns c =
    let bytes = header_bytes c.args.octets.now in
    any_from_yields_List (λ h. is_named c.args.name.now (bytes h) && has_element c.args.word.now (bytes h).1) _ _ _ c.any.ensures.ran
    (YieldsList-from_slice c.args.fields.now cc)
    (λ x b q k. search (rules, tests))
    ∙ sym (list_any-map (λ f. is_named c.args.name.now f && has_element c.args.word.now f.1) bytes c.args.fields.now)
