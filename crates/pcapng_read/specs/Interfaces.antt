-- The interfaces of a section.
use Rattle.std.specs.Prelude.{ℕ}

-- what counts of an interface: its link type, and how many units of its time a second has
pub record Interface : Type 0 where
  pub link : ℕ
  pub units : ℕ
