use Rattle.std.proofs.Common.{◌≡◌, ◌+◌, length, sym, ap, ◌∙◌}
use Rattle.std.specs.Option.{option_map}
use Rattle.base_rows.specs.Sortable.{set_rows}
use Rattle.base_rows.specs.Changes.{changed, without_gone}
use Rattle.base_rows.proofs.sortable.rows.SortedRows.change.Goals as goal
use Rattle.base_rows.proofs.sortable.rows.SortedRows.change.Goals.{in-Some, in_default}

pub returns-clause-rows : goal.returns-clause-rows
unfolding changed
returns-clause-rows g c =
    let sort_key = g.R.Sortable.sort_key in
    let rows = c.args.self.now.rows in
    let away : c.match-gone.self.rows ≡ without_gone sort_key c.args.change.gone rows =
    elim c.match-gone.branch [
      | in-Some w ↦ ap (λ s. s.rows) w.self-is ∙ w.remove.ensures.rows ∙ ap (λ o. without_gone sort_key o rows) (sym (ap (option_map g.K.KeyOf.sort_key) w.in-Some.is) ∙ c.into_parts-gone.ensures.gone)
      | in_default w ↦ ap (λ s. s.rows) w.self-is ∙ ap (λ o. without_gone sort_key o rows) (sym (ap (option_map g.K.KeyOf.sort_key) w.in_default.is) ∙ c.into_parts-gone.ensures.gone)
    ] in
    c.put_all.ensures.rows ∙ ap (λ xs. set_rows sort_key xs c.match-gone.self.rows) (c.into_vec.ensures ∙ c.into_parts-gone.ensures.sets) ∙ ap (set_rows sort_key c.args.change.sets) away

pub returns-clause-space : goal.returns-clause-space
returns-clause-space g c =
    c.put_all.ensures.space ∙ (elim c.match-gone.branch [ in-Some w ↦ ap (λ s. s.room + length s.rows) w.self-is ∙ w.remove.ensures.space | in_default w ↦ ap (λ s. s.room + length s.rows) w.self-is ])
