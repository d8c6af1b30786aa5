use Rattle.std.proofs.Common.{◌+◌, ◌≤◌, List, length, subst}
use Rattle.std.proofs.lemmas.Result.{on_ok_weaker}
use Rattle.acl_rows.specs.declared.row.RowKey.{RowKey}
use Rattle.acl_changes.proofs.FreshLaws.{if_ok_map}
use Rattle.acl_changes.proofs.EntryHalves.{all_stand, side_touches, side_planned, side_most}
use Rattle.acl_changes.proofs.change.Change.side_fresh.Goals as goal

pub entries_fresh-requires-clause-stand : goal.entries_fresh-requires-clause-stand
entries_fresh-requires-clause-stand g c = all_stand _ _ c.entries.ensures

pub returns-clause-ok : goal.returns-clause-ok
returns-clause-ok g c =
    if_ok_map _ _ (λ fresh planned. side_planned c.args.self.now.slots c.args.self.now.bindings c.args.holding.now c.args.side c.entries.result.now fresh c.entries.ensures planned)
    c.entries_fresh.result c.entries_fresh.ensures.ok

pub returns-clause-read : goal.returns-clause-read
returns-clause-read g c =
    on_ok_weaker c.entries_fresh.result (λ read. subst (λ (keys : List RowKey). c.args.steps.now + length keys ≤ c.entries_fresh.new.steps) (side_touches c.args.self.now.bindings c.args.holding.now c.args.side c.entries.result.now c.entries.ensures) read) c.entries_fresh.ensures.read

pub returns-clause-most : goal.returns-clause-most
returns-clause-most g c = λ b k u few rows fit.
    side_most c.args.self.now.bindings c.args.holding.now c.args.side c.entries.result.now c.args.steps.now c.entries_fresh.new.steps b u c.entries.ensures (c.entries_fresh.ensures.most b k u few rows fit)
