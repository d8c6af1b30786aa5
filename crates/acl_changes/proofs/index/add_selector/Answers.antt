use Rattle.std.proofs.Common.{◌≡◌, List, ℕ, ◌++◌, ◌&&◌, not, sym, ◌∙◌}
use Rattle.base_rows.specs.Sortable.{same_sort_key}
use Rattle.acl_changes.specs.declared.group.EntrySpot.{EntrySpot}
use Rattle.std.specs.List.{list_any}
use Rattle.acl_model.specs.SortKeys.{text_sort_key}
use Rattle.acl_changes.specs.Spots.{spots_in, spot_if, is_keyed}
use Rattle.acl_changes.proofs.SpotLaws.{keyed_some, keyed_none, nothing_more, known_more, new_more, on_ok_then}
use Rattle.acl_changes.proofs.index.add_selector.Goals as goal

pub returns-in-None : goal.returns-in-None
returns-in-None c = λ (p : List ℕ).
    nothing_more (spots_in c.args.groups.now.rows p) (is_keyed c.args.url.now p c.args.selector.now) (list_any (is_keyed c.args.url.now p) c.args.earlier.now) c.args.spot
    (keyed_none p c.args.url.now c.args.selector.now c.in-None.ensures)

pub returns-then-are_keyed : goal.returns-then-are_keyed
returns-then-are_keyed c = λ (p : List ℕ).
    let q : List ℕ = text_sort_key c.in-Some.key.kind c.in-Some.key.text.now in
    known_more (spots_in c.args.groups.now.rows p) c.args.url.now q p c.args.earlier.now c.args.selector.now c.args.spot
    (keyed_some c.in-Some.key.kind c.in-Some.key.text.now p c.args.url.now c.args.selector.now c.in-Some.ensures)
    (sym c.are_keyed.ensures ∙ c.if-are_keyed.true)

pub returns-else-are_keyed : goal.returns-else-are_keyed
returns-else-are_keyed c =
    let q : List ℕ = text_sort_key c.in-Some.key.kind c.in-Some.key.text.now in
    let old : List ℕ → List EntrySpot = spots_in c.args.groups.now.rows in
    let new : List ℕ → List EntrySpot = spots_in c.add_spot.new.groups.rows in
    on_ok_then ((p : List ℕ) → new p ≡ old p ++ spot_if (same_sort_key q p) c.args.spot)
    ((p : List ℕ) → new p ≡ old p ++ spot_if (is_keyed c.args.url.now p c.args.selector.now && not (list_any (is_keyed c.args.url.now p) c.args.earlier.now)) c.args.spot)
    c.add_spot.result
    (λ step p. step p
    ∙ new_more (old p) c.args.url.now q p c.args.earlier.now c.args.selector.now c.args.spot
    (keyed_some c.in-Some.key.kind c.in-Some.key.text.now p c.args.url.now c.args.selector.now c.in-Some.ensures)
    (sym c.are_keyed.ensures ∙ c.if-are_keyed.false))
    c.add_spot.ensures
