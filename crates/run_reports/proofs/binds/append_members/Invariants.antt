use Rattle.std.proofs.Common.{◌≡◌, ◌++◌, take}
use Rattle.std.specs.Prelude.{flat_map}
use Rattle.run_reports.specs.Rows.{class_line}
use Rattle.run_reports.proofs.binds.append_members.Given as goal

abbrev pub invariant-addresses : goal.invariant-addresses
invariant-addresses l = l.lines ≡ l.initial.lines ++ flat_map (class_line l.class) (take l.address-index l.addresses)
