use Rattle.std.proofs.Common.{◌≡◌, ℕ, ◌+◌, ◌*◌, ◌≤◌, List, [], length, map, ap, sym, subst, ◌∙◌, arith}
use Rattle.std.specs.Option.{option_map}
use Rattle.std.specs.List.{filter_map}
use Rattle.std.proofs.Math.Path.{transport}
use Rattle.std.proofs.lemmas.List.{length-map}
use Rattle.base_rows.specs.Sortable.{rows_under, SortKeysAscend}
use Rattle.acl_model.specs.Keys.{key_of}
use Rattle.acl_model.specs.SortKeys.{text_sort_key, binding_sort_key}
use Rattle.acl_rows.specs.declared.row.RowKey.{RowKey}
use Rattle.acl_rows.specs.Rows.{member_keys}
use Rattle.acl_changes.specs.PolicyTouched.{bound_key, first_key_touches, entry_touches}
use Rattle.acl_changes.specs.EntryKeys.{key_parts}
use Rattle.acl_changes.specs.Change.{ChangeState}
use Rattle.acl_changes.specs.Fresh.{fresh_of, first_of, rest_of, more_fresh}
use Rattle.acl_changes.proofs.FirstBound.{are_bound_first}
use Rattle.acl_changes.proofs.FreshLaws.{none-more, no_first, some_first, counts_one}
use Rattle.acl_changes.proofs.change.Change.entry_fresh.Goals as goal

total : (start middle end l n m b u : ℕ) → l ≡ n → m ≡ 1 → middle ≤ start + l + b → end ≤ middle + l * u → end ≤ start + m * b + n * (u + 1)
total start middle end l n m b u long one read rest = subst (λ (x : ℕ). end ≤ start + m * b + x * (u + 1)) long (subst (λ (x : ℕ). end ≤ start + x * b + l * (u + 1)) (sym one) (omega arith))

pub returns-in-None-clause-ok : goal.returns-in-None-clause-ok
unfolding entry_touches
returns-in-None-clause-ok g c = λ new holds.
    let none = c.in-None.ensures.key ∙ ap (λ (url : List ℕ). option_map key_parts (first_of (member_keys url c.args.entry.now))) c.url.ensures in
    c.new-fresh.ensures
    ∙ sym (ap (λ (ks : List RowKey). more_fresh c.args.self.now.slots c.args.self.now.bindings new ks (fresh_of [] [])) (no_first c.args.self.now.bindings c.args.holding.now.0 c.args.side c.args.n (member_keys c.args.holding.now.1.url c.args.entry.now) none)
    ∙ none-more c.args.self.now.slots c.args.self.now.bindings new (fresh_of [] []))

pub bound_fresh-requires-clause-first : goal.bound_fresh-requires-clause-first
bound_fresh-requires-clause-first g c =
    let some = c.in-Some.ensures.key ∙ ap (λ (url : List ℕ). option_map key_parts (first_of (member_keys url c.args.entry.now))) c.url.ensures in
    let rest = transport (λ i. filter_map (key_of (c.url.ensures i)) c.in-Some.behind.now ≡ rest_of (member_keys (c.url.ensures i) c.args.entry.now)) c.in-Some.ensures.behind in
    let bound = c.rows_under_counted-bound.ensures.rows ∙ ap (λ (s : ChangeState). rows_under binding_sort_key (text_sort_key c.in-Some.key.kind c.in-Some.key.text.now) s.bindings) c.self.view_is in
    let up = subst (λ (s : ChangeState). SortKeysAscend binding_sort_key s.bindings) c.self.view_is c.tell_order.ensures in
    are_bound_first c.args.self.now.bindings c.args.holding.now.1.url c.args.entry.now c.in-Some.behind.now c.in-Some.key.kind c.in-Some.key.text.now c.rows_under_counted-bound.result.now up bound some rest

pub returns-in_ok-bound_fresh-in-Some-clause-ok : goal.returns-in_ok-bound_fresh-in-Some-clause-ok
unfolding entry_touches
returns-in_ok-bound_fresh-in-Some-clause-ok g c = λ new holds.
    let some = c.in-Some.ensures.key ∙ ap (λ (url : List ℕ). option_map key_parts (first_of (member_keys url c.args.entry.now))) c.url.ensures in
    let bound = c.rows_under_counted-bound.ensures.rows ∙ ap (λ (s : ChangeState). rows_under binding_sort_key (text_sort_key c.in-Some.key.kind c.in-Some.key.text.now) s.bindings) c.self.view_is in
    let touched =
    ap (map (bound_key c.args.holding.now.0 c.args.side c.args.n)) bound
    ∙ sym (some_first c.args.self.now.bindings c.args.holding.now.0 c.args.side c.args.n c.in-Some.key.kind c.in-Some.key.text.now (member_keys c.args.holding.now.1.url c.args.entry.now) some) in
    let slots = c.args.self.now.slots in
    let bindings = c.args.self.now.bindings in
    let keys = entry_touches bindings c.args.holding.now.0 c.args.holding.now.1 c.args.side (c.args.n, c.args.entry.now) in
    c.in_ok-bound_fresh-in-Some.ensures.ok new holds
    ∙ ap (λ (ks : List RowKey). more_fresh slots bindings new ks c.new-fresh.result) touched
    ∙ ap (more_fresh slots bindings new keys) c.new-fresh.ensures

pub returns-in_err-bound_fresh-in-Some-clause-most : goal.returns-in_err-bound_fresh-in-Some-clause-most
unfolding entry_touches
returns-in_err-bound_fresh-in-Some-clause-most g c = λ b k u few rows fit.
    let some = c.in-Some.ensures.key ∙ ap (λ (url : List ℕ). option_map key_parts (first_of (member_keys url c.args.entry.now))) c.url.ensures in
    let bound = c.rows_under_counted-bound.ensures.rows ∙ ap (λ (s : ChangeState). rows_under binding_sort_key (text_sort_key c.in-Some.key.kind c.in-Some.key.text.now) s.bindings) c.self.view_is in
    let touched =
    ap (map (bound_key c.args.holding.now.0 c.args.side c.args.n)) bound
    ∙ sym (some_first c.args.self.now.bindings c.args.holding.now.0 c.args.side c.args.n c.in-Some.key.kind c.in-Some.key.text.now (member_keys c.args.holding.now.1.url c.args.entry.now) some) in
    let long : length c.rows_under_counted-bound.result.now ≡ length (first_key_touches c.args.self.now.bindings c.args.holding.now.0 c.args.side c.args.n (member_keys c.args.holding.now.1.url c.args.entry.now)) =
    sym (length-map c.rows_under_counted-bound.result.now (bound_key c.args.holding.now.0 c.args.side c.args.n)) ∙ ap (λ (ks : List RowKey). length ks) touched in
    let one = counts_one c.args.holding.now.1.url c.args.entry.now (c.in-Some.key.kind, c.in-Some.key.text.now) some in
    let read : c.rows_under_counted-bound.new.steps ≤ c.args.steps.now + length c.rows_under_counted-bound.result.now + b = omega (arith, c.rows_under_counted-bound.ensures.counted) in
    total c.args.steps.now c.rows_under_counted-bound.new.steps c.bound_fresh.new.steps (length c.rows_under_counted-bound.result.now) _ _ b u long one read (c.bound_fresh.ensures.most b k u few rows fit)

pub returns-in_ok-bound_fresh-in-Some-clause-most : goal.returns-in_ok-bound_fresh-in-Some-clause-most
unfolding entry_touches
returns-in_ok-bound_fresh-in-Some-clause-most g c = λ b k u few rows fit.
    let some = c.in-Some.ensures.key ∙ ap (λ (url : List ℕ). option_map key_parts (first_of (member_keys url c.args.entry.now))) c.url.ensures in
    let bound = c.rows_under_counted-bound.ensures.rows ∙ ap (λ (s : ChangeState). rows_under binding_sort_key (text_sort_key c.in-Some.key.kind c.in-Some.key.text.now) s.bindings) c.self.view_is in
    let touched =
    ap (map (bound_key c.args.holding.now.0 c.args.side c.args.n)) bound
    ∙ sym (some_first c.args.self.now.bindings c.args.holding.now.0 c.args.side c.args.n c.in-Some.key.kind c.in-Some.key.text.now (member_keys c.args.holding.now.1.url c.args.entry.now) some) in
    let long : length c.rows_under_counted-bound.result.now ≡ length (first_key_touches c.args.self.now.bindings c.args.holding.now.0 c.args.side c.args.n (member_keys c.args.holding.now.1.url c.args.entry.now)) =
    sym (length-map c.rows_under_counted-bound.result.now (bound_key c.args.holding.now.0 c.args.side c.args.n)) ∙ ap (λ (ks : List RowKey). length ks) touched in
    let one = counts_one c.args.holding.now.1.url c.args.entry.now (c.in-Some.key.kind, c.in-Some.key.text.now) some in
    let read : c.rows_under_counted-bound.new.steps ≤ c.args.steps.now + length c.rows_under_counted-bound.result.now + b = omega (arith, c.rows_under_counted-bound.ensures.counted) in
    total c.args.steps.now c.rows_under_counted-bound.new.steps c.bound_fresh.new.steps (length c.rows_under_counted-bound.result.now) _ _ b u long one read (c.bound_fresh.ensures.most b k u few rows fit)

pub returns-in-None-clause-least : goal.returns-in-None-clause-least
unfolding entry_touches
returns-in-None-clause-least g c =
    let none = c.in-None.ensures.key ∙ ap (λ (url : List ℕ). option_map key_parts (first_of (member_keys url c.args.entry.now))) c.url.ensures in
    let touched = ap (λ (ks : List RowKey). length ks) (no_first c.args.self.now.bindings c.args.holding.now.0 c.args.side c.args.n (member_keys c.args.holding.now.1.url c.args.entry.now) none) in
    omega (arith, touched)

pub returns-in_err-bound_fresh-in-Some-clause-least : goal.returns-in_err-bound_fresh-in-Some-clause-least
unfolding entry_touches
returns-in_err-bound_fresh-in-Some-clause-least g c =
    let some = c.in-Some.ensures.key ∙ ap (λ (url : List ℕ). option_map key_parts (first_of (member_keys url c.args.entry.now))) c.url.ensures in
    let bound = c.rows_under_counted-bound.ensures.rows ∙ ap (λ (s : ChangeState). rows_under binding_sort_key (text_sort_key c.in-Some.key.kind c.in-Some.key.text.now) s.bindings) c.self.view_is in
    let touched =
    ap (map (bound_key c.args.holding.now.0 c.args.side c.args.n)) bound
    ∙ sym (some_first c.args.self.now.bindings c.args.holding.now.0 c.args.side c.args.n c.in-Some.key.kind c.in-Some.key.text.now (member_keys c.args.holding.now.1.url c.args.entry.now) some) in
    let long : length c.rows_under_counted-bound.result.now ≡ length (first_key_touches c.args.self.now.bindings c.args.holding.now.0 c.args.side c.args.n (member_keys c.args.holding.now.1.url c.args.entry.now)) =
    sym (length-map c.rows_under_counted-bound.result.now (bound_key c.args.holding.now.0 c.args.side c.args.n)) ∙ ap (λ (ks : List RowKey). length ks) touched in
    omega (arith, long, c.rows_under_counted-bound.ensures.counted, c.bound_fresh.ensures.least)

pub returns-in_ok-bound_fresh-in-Some-clause-least : goal.returns-in_ok-bound_fresh-in-Some-clause-least
unfolding entry_touches
returns-in_ok-bound_fresh-in-Some-clause-least g c =
    let some = c.in-Some.ensures.key ∙ ap (λ (url : List ℕ). option_map key_parts (first_of (member_keys url c.args.entry.now))) c.url.ensures in
    let bound = c.rows_under_counted-bound.ensures.rows ∙ ap (λ (s : ChangeState). rows_under binding_sort_key (text_sort_key c.in-Some.key.kind c.in-Some.key.text.now) s.bindings) c.self.view_is in
    let touched =
    ap (map (bound_key c.args.holding.now.0 c.args.side c.args.n)) bound
    ∙ sym (some_first c.args.self.now.bindings c.args.holding.now.0 c.args.side c.args.n c.in-Some.key.kind c.in-Some.key.text.now (member_keys c.args.holding.now.1.url c.args.entry.now) some) in
    let long : length c.rows_under_counted-bound.result.now ≡ length (first_key_touches c.args.self.now.bindings c.args.holding.now.0 c.args.side c.args.n (member_keys c.args.holding.now.1.url c.args.entry.now)) =
    sym (length-map c.rows_under_counted-bound.result.now (bound_key c.args.holding.now.0 c.args.side c.args.n)) ∙ ap (λ (ks : List RowKey). length ks) touched in
    omega (arith, long, c.rows_under_counted-bound.ensures.counted, c.bound_fresh.ensures.least)
