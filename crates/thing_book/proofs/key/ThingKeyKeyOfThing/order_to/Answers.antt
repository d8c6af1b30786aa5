use Rattle.std.proofs.Common.{ap, ap₂, ◌∙◌}
use Rattle.std.specs.Ordering.{nat_cmp}
use Rattle.base_rows.specs.Sortable.{sort_key_cmp}
use Rattle.mud_base.specs.declared.addr.Mac.{Mac}
use Rattle.table_model.specs.Things.{mac_of}
use Rattle.thing_book.proofs.MacNumbers.{mac_cmp}
use Rattle.thing_book.proofs.key.ThingKeyKeyOfThing.order_to.Goals as goal

pub returns : goal.returns
unfolding mac_of
returns c =
    c.cmp.ensures
    ∙ ap₂ nat_cmp c.self.invariant c.number_of.ensures
    ∙ mac_cmp c.self.inside.mac.0 c.args.thing.now.mac.0 c.mac_has_six_octets.ensures c.mac_has_six_octets-2.ensures c.all_are_octets.ensures c.all_are_octets-2.ensures
    ∙ ap (λ (m : Mac). sort_key_cmp m.0 c.args.thing.now.mac.0) c.self.view_is
