use Rattle.std.proofs.Common.{◌≡◌, false, List, Option, sym, ap, subst, ◌∙◌}
use Rattle.std.specs.Prelude.{MatchOption}
use Rattle.std.specs.List.{list_all}
use Rattle.mud_base.specs.declared.prefix.Prefix.{Prefix}
use Rattle.item_codec.specs.Records.{list_body_in}
use Rattle.table_model.specs.ItemFields.{network_in}
use Rattle.table_model.specs.Binds.{is_prefix}
use Rattle.bind_book.proofs.ReadLaws.{no_locals}
use Rattle.bind_book.proofs.read.locals_in.Goals as goal

pub returns-in_default-2 : goal.returns-in_default-2
returns-in_default-2 c =
    let networks : List Prefix = c.as_slice.result.now in
    let fails : list_all is_prefix networks ≡ false = subst (λ (o : Option (List Prefix)). MatchOption o (list_all is_prefix networks ≡ false) (λ prefixes. prefixes ≡ networks)) c.in_default-2.is c.in_ok-locals.ensures in
    sym (no_locals c.args.item.now c.in-Some.networks (ap (list_body_in network_in) (sym c.octets.ensures) ∙ sym c.in_ok-networks.ensures ∙ c.in-Some.is) (ap (list_all is_prefix) (sym c.as_slice.ensures) ∙ fails))
