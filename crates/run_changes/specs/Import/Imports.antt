-- The import of the usage files of a folder into a desk, one after the other.
use Rattle.std.specs.Prelude.{◌≡◌, ℕ, false, List, [], ◌∷◌, Option, Some, None, unwrap_or}
use Rattle.std.specs.Option.{option_map}
use Rattle.mud_world.specs.Clock.{next_moment, later_moments}
use Rattle.mud_world.specs.Files.{content_of, read_part}
use Rattle.desk_model.specs.declared.command.Command.TheVariants.{Import}
use Rattle.desk_model.specs.declared.reply.Reply.{Reply}
use Rattle.desk_model.specs.Sessions.{Session, AllowedReply}
use Rattle.run_changes.specs.Import.Names.{fetched_in}
use Rattle.run_changes.specs.Import.Entries.{Entry, is_of_memory}

-- the octets that a read of the file gives
unfoldable pub octets_of : List (List ℕ × List ℕ) → List ℕ → List ℕ
octets_of files name = unwrap_or (option_map read_part (content_of files name)) []

-- where an import stands: the session of its desk, and the moments that the clock will give
pub record Standing : Type 0 where
  pub session : Session
  pub moments : List ℕ

-- A name of another form is skipped, and changes nothing. Of any other name, the octets of its file are imported as fetched at
-- the moment that the name says, and the command runs at the later of the next moment of the clock and that of the session. What
-- is replied is what may be answered to it, and isn't that memory was wanted.
abbrev pub ByForm : List (List ℕ × List ℕ) → Standing → List ℕ → Option Reply → Standing → Type 0
ByForm files before name None after = (fetched_in name ≡ None) × (after ≡ before)
ByForm files before name (Some reply) after =
    (fetched : ℕ)
    × (fetched_in name ≡ Some fetched)
    × AllowedReply before.session (next_moment before.moments) (Import (octets_of files name) fetched) reply after.session
    × (is_of_memory reply ≡ false)
    × (after.moments ≡ later_moments before.moments)

pub record ImportsEntry (files : List (List ℕ × List ℕ)) (before : Standing) (name : List ℕ) (reply : Option Reply) (after : Standing) : Type 0 where
  pub leads : ByForm files before name reply after

-- the names of the entries, one after the other, may lead from one standing to another
abbrev pub Imports : List (List ℕ × List ℕ) → Standing → List Entry → Standing → Type 0
Imports files before [] after = after ≡ before
Imports files before (entry ∷ entries) after = (next : Standing) × ImportsEntry files before entry.name entry.reply next × Imports files next entries after
