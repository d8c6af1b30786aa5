-- A run over a file, whatever it held.
use Rattle.std.specs.Prelude.{◌≡◌}
use Rattle.sqlite_disk.specs.declared.Disk.{Ghosts}
use Rattle.sqlite.specs.declared.FileStore.{FileStore}
use Rattle.sqlite.specs.Recovery.{Image}
use Rattle.keep_sqlite.specs.declared.file_keeper.FileKeeper.{FileKeeper}
use Rattle.keep_sqlite.specs.FileKeepers.{IsOpenedOver}

-- The run began with a keeper whose file was opened just then, and that had never failed; and did this.
pub record BeginsWithFile {D S : Type 0} {g : Ghosts D} (image : Image) (Does : FileKeeper (FileStore D g) S → Type 0) : Type 0 where
  pub first : FileKeeper (FileStore D g) S
  pub opened : IsOpenedOver image first.keeper
  pub fresh : first.faults ≡ 0
  pub does : Does first
