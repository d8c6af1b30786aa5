use Rattle.std.proofs.Common.{◌≡◌, ◌++◌, take}
use Rattle.std.specs.Prelude.{flat_map}
use Rattle.run_reports.specs.Rows.{name_line}
use Rattle.run_reports.proofs.binds.append_addresses.Given as goal

abbrev pub invariant-addresses : goal.invariant-addresses
invariant-addresses l = l.lines ≡ l.initial.lines ++ flat_map (name_line l.name) (take l.observed-index l.addresses)
