use Rattle.std.proofs.Common.{◌≡◌, drop}
use Rattle.table_model.specs.Expiries.{expiry_of}
use Rattle.table_model.proofs.expiries.expiry_of.Given as goal

abbrev pub invariant-loop-row : goal.invariant-loop-row
invariant-loop-row l = expiry_of l.addr (drop l.row-index l.rows) ≡ expiry_of l.addr l.rows
