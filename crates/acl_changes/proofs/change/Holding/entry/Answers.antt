use Rattle.std.proofs.Common.{◌≡◌, ◌-◌, ◌<◌, List, length, Some, slice_get, refl, sym, ap, ◌∙◌, arith}
use Rattle.std.proofs.lemmas.Option.{slice_get_read}
use Rattle.acl_model.specs.declared.entry.Entry.{Entry}
use Rattle.acl_model.specs.FirstMatch.{entries_of}
use Rattle.acl_changes.proofs.SpotTouches.{entry_within, entry_below, entry_read}
use Rattle.acl_changes.proofs.change.Holding.entry.Goals as goal

pub overflow_sub-result : goal.overflow_sub-result
overflow_sub-result c = omega (arith, entry_within c.args.spot.number (entries_of c.args.spot.side c.args.self.now.1.policy) c.requires, c.from.ensures)

pub bounds-entries-from : goal.bounds-entries-from
bounds-entries-from c =
    omega (arith, entry_below c.args.spot.number (entries_of c.args.spot.side c.args.self.now.1.policy) c.requires, c.from.ensures, ap (λ (es : List Entry). length es) c.entries-entries.ensures)

pub returns : goal.returns
returns c =
    let es : List Entry = entries_of c.args.spot.side c.args.self.now.1.policy in
    let below : c.from.result - 1 < length c.entries-entries.result.now = omega (arith, entry_below c.args.spot.number es c.requires, c.from.ensures, ap (λ (es : List Entry). length es) c.entries-entries.ensures) in
    let read : slice_get c.entries-entries.result.now (c.from.result - 1) ≡ Some c.index-entries-from.result = slice_get_read c.entries-entries.result.now (length c.entries-entries.result.now) (c.from.result - 1) c.index-entries-from.result refl below c.index-entries-from.is in
    entry_read c.args.spot.number es c.index-entries-from.result (entry_within c.args.spot.number es c.requires)
    (sym (λ i. slice_get (c.entries-entries.ensures i) (c.from.ensures i - 1)) ∙ read)
