use Rattle.std.proofs.Common.{◌≡◌, ◌/◌, [], ◌∷◌, length, ap, ◌∙◌, arith}
use Rattle.acl_changes.proofs.FreshLaws.{on_ok_always, if_ok_map}
use Rattle.acl_changes.proofs.EntryHalves.{one_stands, no_entry, only_entry, no_touches, one_touches, one_most, halves_read, front_most, halves_most, none_planned, one_planned, halves_planned}
use Rattle.acl_changes.proofs.change.Change.+entries_fresh.Goals as goal

pub returns-in_err-fresh-in_default-clause-most : goal.returns-in_err-fresh-in_default-clause-most
returns-in_err-fresh-in_default-clause-most g t c = λ b k u few rows fit.
    front_most c.args.self.now.bindings c.args.holding.now c.args.side c.args.first (length c.args.entries.now / 2) c.args.entries.now c.split_at.result.0.now c.split_at.result.1.now c.args.steps.now c.entries_fresh.new.steps b u
    c.split_at.ensures.front c.split_at.ensures.back (c.entries_fresh.ensures.most b k u few rows fit)

pub returns-in_err-more-in_default-clause-most : goal.returns-in_err-more-in_default-clause-most
returns-in_err-more-in_default-clause-most g t c = λ b k u few rows fit.
    halves_most c.args.self.now.bindings c.args.holding.now c.args.side c.args.first (length c.args.entries.now / 2) c.args.entries.now c.split_at.result.0.now c.split_at.result.1.now c.args.steps.now c.entries_fresh.new.steps c.entries_fresh-in_default.new.steps b u
    c.split_at.ensures.front c.split_at.ensures.back (c.entries_fresh.ensures.most b k u few rows fit) (c.entries_fresh-in_default.ensures.most b k u few rows fit)

pub returns-in_err-add-in_default-clause-most : goal.returns-in_err-add-in_default-clause-most
returns-in_err-add-in_default-clause-most g t c = λ b k u few rows fit.
    halves_most c.args.self.now.bindings c.args.holding.now c.args.side c.args.first (length c.args.entries.now / 2) c.args.entries.now c.split_at.result.0.now c.split_at.result.1.now c.args.steps.now c.entries_fresh.new.steps c.entries_fresh-in_default.new.steps b u
    c.split_at.ensures.front c.split_at.ensures.back (c.entries_fresh.ensures.most b k u few rows fit) (c.entries_fresh-in_default.ensures.most b k u few rows fit)

pub returns-in-empty-clause-ok : goal.returns-in-empty-clause-ok
returns-in-empty-clause-ok g t c = λ new holds.
    c.new.ensures
    ∙ none_planned c.args.self.now.slots c.args.self.now.bindings c.args.holding.now c.args.side c.args.first c.args.entries.now (no_entry c.args.entries.now c.in-empty.len_below) new holds

pub returns-in-empty-clause-read : goal.returns-in-empty-clause-read
returns-in-empty-clause-read g t c =
    let none = ap length (no_touches c.args.self.now.bindings c.args.holding.now c.args.side c.args.first c.args.entries.now (no_entry c.args.entries.now c.in-empty.len_below)) in
    omega (arith, none)

pub returns-in-len1-clause-ok : goal.returns-in-len1-clause-ok
returns-in-len1-clause-ok g t c =
    if_ok_map _ _ (λ fresh planned. one_planned c.args.self.now.slots c.args.self.now.bindings c.args.holding.now c.args.side c.args.first c.args.entries.now c.entry-item.result fresh
    (only_entry c.args.entries.now c.entry-item.result c.in-len1.len_at_least c.in-len1.len_below c.entry-item.is) planned)
    c.entry_fresh.result c.entry_fresh.ensures.ok

pub returns-in-len1-clause-read : goal.returns-in-len1-clause-read
returns-in-len1-clause-read g t c =
    let one = ap length (one_touches c.args.self.now.bindings c.args.holding.now c.args.side c.args.first c.args.entries.now c.entry-item.result (only_entry c.args.entries.now c.entry-item.result c.in-len1.len_at_least c.in-len1.len_below c.entry-item.is)) in
    on_ok_always _ (omega (arith, one, c.entry_fresh.ensures.least)) c.entry_fresh.result

pub returns-in-len1-clause-most : goal.returns-in-len1-clause-most
returns-in-len1-clause-most g t c = λ b k u few rows fit.
    let only : c.args.entries.now ≡ c.entry-item.result ∷ [] = only_entry c.args.entries.now c.entry-item.result c.in-len1.len_at_least c.in-len1.len_below c.entry-item.is in
    one_most c.args.self.now.bindings c.args.holding.now c.args.side c.args.first c.args.entries.now c.entry-item.result c.args.steps.now c.entry_fresh.new.steps b u only
    (c.entry_fresh.ensures.most b k u few rows (fit c.args.first c.entry-item.result (one_stands c.args.first c.args.entries.now c.entry-item.result _ only c.requires.stand)))

pub returns-in_ok-add-in_default-clause-ok : goal.returns-in_ok-add-in_default-clause-ok
returns-in_ok-add-in_default-clause-ok g t c =
    halves_planned c.args.self.now.slots c.args.self.now.bindings c.args.holding.now c.args.side c.args.first (length c.args.entries.now / 2) c.args.entries.now c.split_at.result.0.now c.split_at.result.1.now
    c.in_ok-fresh-in_default.fresh c.in_ok-more-in_default.more c.add.new.self c.split_at.ensures.front c.split_at.ensures.back
    c.in_ok-fresh-in_default.ensures.ok c.in_ok-more-in_default.ensures.ok c.in_ok-add-in_default.ensures.ok

pub returns-in_ok-add-in_default-clause-read : goal.returns-in_ok-add-in_default-clause-read
returns-in_ok-add-in_default-clause-read g t c =
    halves_read c.args.self.now.bindings c.args.holding.now c.args.side c.args.first (length c.args.entries.now / 2) c.args.entries.now c.split_at.result.0.now c.split_at.result.1.now c.args.steps.now c.entries_fresh.new.steps c.entries_fresh-in_default.new.steps
    c.split_at.ensures.front c.split_at.ensures.back c.in_ok-fresh-in_default.ensures.read c.in_ok-more-in_default.ensures.read

pub returns-in_ok-add-in_default-clause-most : goal.returns-in_ok-add-in_default-clause-most
returns-in_ok-add-in_default-clause-most g t c = λ b k u few rows fit.
    halves_most c.args.self.now.bindings c.args.holding.now c.args.side c.args.first (length c.args.entries.now / 2) c.args.entries.now c.split_at.result.0.now c.split_at.result.1.now c.args.steps.now c.entries_fresh.new.steps c.entries_fresh-in_default.new.steps b u
    c.split_at.ensures.front c.split_at.ensures.back (c.entries_fresh.ensures.most b k u few rows fit) (c.entries_fresh-in_default.ensures.most b k u few rows fit)
