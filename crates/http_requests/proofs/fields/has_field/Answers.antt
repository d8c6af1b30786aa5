use Rattle.std.proofs.Common.{rules, tests, sym, ◌∙◌}
use Rattle.std.proofs.lemmas.Iterator.{YieldsList-from_slice}
use Rattle.std.proofs.lemmas.Iterator.Search.{any_from_yields_List}
use Rattle.httparse.specs.Spans.{header_bytes}
use Rattle.http_requests.specs.Fields.{is_named}
use Rattle.http_requests.proofs.Lists.{list_any-map}
use Rattle.http_requests.proofs.fields.has_field.Goals as goal

pub returns : goal.returns
returns c =
    let bytes = header_bytes c.args.octets.now in
    any_from_yields_List (λ h. is_named c.args.name.now (bytes h)) _ _ _ c.any.ensures.ran
    (YieldsList-from_slice c.args.fields.now cc)
    (λ x b q k. search (rules, tests))
    ∙ sym (list_any-map (λ f. is_named c.args.name.now f) bytes c.args.fields.now)
