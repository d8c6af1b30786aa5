-- A ledger that no type stands for yet.
use Rattle.std.specs.Prelude.{◌≡◌, ℕ, ◌<◌}
use Rattle.std.specs.declared.sync.ledger.Blank.{Blank}

-- it has this name, and is cut into as many shares as told, one at least
pub record IsBlankOf (ledger shares : ℕ) (blank : Blank) : Type 0 where
  pub name : blank.name ≡ ledger
  pub parts : blank.parts ≡ shares
  pub some : 0 < shares
