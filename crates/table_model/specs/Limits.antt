-- How much is kept at most.
use Rattle.std.specs.Prelude.{ℕ}

pub record Limits : Type 0 where
  pub things : ℕ
  -- of one Thing
  pub leases : ℕ
  pub classes : ℕ
  -- of one class
  pub class_addresses : ℕ
  pub locals : ℕ
  pub names : ℕ
  -- of one name
  pub name_addresses : ℕ
  -- the longest silence between two packets of a connection, in seconds: 2 hours and 4 minutes (RFC 5382, REQ-5)
  pub pause : ℕ

abbrev pub most : Limits
most = record {
  things = 512;
  leases = 4;
  classes = 256;
  class_addresses = 64;
  locals = 64;
  names = 4096;
  name_addresses = 64;
  pause = 7440;
}
