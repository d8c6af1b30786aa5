use Rattle.std.proofs.Common.{inl, inr, refl, sym, ◌∙◌}
use Rattle.std.proofs.lemmas.Result.{on_ok_weaker}
use Rattle.mud_world.specs.Kept.{kept_items}
use Rattle.base_rows.proofs.SortableLaws.{same_sort_key_exact}
use Rattle.mud_desk.proofs.ItemsLaws.Anew.{not_put, put_there}
use Rattle.mud_desk.proofs.items.opening.put_anew.Goals as goal

pub returns-then-eq-clause-ok : goal.returns-then-eq-clause-ok
returns-then-eq-clause-ok g c tells = not_put c.args.item.now c.args.anew c.requires.octets c.requires.anew (kept_items g.K.Keeper c.args.keeper.now) (kept_items g.K.Keeper c.args.keeper.now) (sym c.octets.ensures ∙ same_sort_key_exact c.octets.result.now c.octets-2.result.now (sym c.eq.ensures ∙ c.if-eq.true) ∙ c.octets-2.ensures) refl

pub returns-clause-ok : goal.returns-clause-ok
returns-clause-ok g c tells = on_ok_weaker c.apply.result (put_there c.args.item.now c.args.anew c.requires.octets c.requires.anew (kept_items g.K.Keeper c.args.keeper.now) (kept_items g.K.Keeper c.apply.new.self)) (c.apply.ensures.ok tells)

pub returns-clause-crash : goal.returns-clause-crash
returns-clause-crash g c found left = elim (c.apply.ensures.crash found left) [
  | inl was ↦ inl was
  | inr put ↦ inr (put.0, put_there c.args.item.now c.args.anew c.requires.octets c.requires.anew (kept_items g.K.Keeper c.args.keeper.now) found put.1)
]
