use Rattle.std.proofs.Common.{◌≡◌, ◌++◌, take}
use Rattle.std.specs.Prelude.{flat_map}
use Rattle.run_reports.specs.Rows.{lease_line}
use Rattle.run_reports.proofs.things.append_leases.Given as goal

abbrev pub invariant-leases : goal.invariant-leases
invariant-leases l = l.lines ≡ l.initial.lines ++ flat_map (lease_line l.mac) (take l.lease-index l.leases)
