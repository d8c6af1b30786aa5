use Rattle.std.proofs.Common.{arith}
use Rattle.usage_tables.proofs.EntryBounds.{entries_among, entries_after}
use Rattle.usage_tables.proofs.entries.entries_with.Goals as goal

pub returns : goal.returns
returns c a =
    omega (arith, entries_after c.args.files.now c.requires.sound c.args.row.now c.requires.found c.args.candidate.now a, entries_among c.args.files.now c.requires.sound c.args.row.now c.requires.found, c.entry_count.ensures, c.approved_entries.ensures.value, c.entries_of.ensures.value)

pub overflow_sub-result : goal.overflow_sub-result
overflow_sub-result c = omega (arith, entries_among c.args.files.now c.requires.sound c.args.row.now c.requires.found, c.entry_count.ensures, c.approved_entries.ensures.value)
