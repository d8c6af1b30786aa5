-- The files of a spool: names and contents, in the spool's order.
use Rattle.std.specs.Prelude.{ℕ, Bool, true, false, if◌then◌else◌, List, [], ◌∷◌, map, take, Option, Some, None, Result, Ok, Err}
use Rattle.std.specs.Str.{bytes_eq}
use Rattle.mud_world.specs.declared.fault.SpoolFault.{SpoolFault}
use Rattle.mud_world.specs.declared.fault.SpoolFault.TheVariants.{Failed, Memory}

-- the names, in order
abbrev pub names_of : List (List ℕ × List ℕ) → List (List ℕ)
names_of files = map name_of files
  where
    name_of : List ℕ × List ℕ → List ℕ
    name_of file = file.0

-- the content of the first file that has the name
abbrev pub content_of : List (List ℕ × List ℕ) → List ℕ → Option (List ℕ)
content_of [] name = None
content_of (file ∷ files) name = if bytes_eq file.0 name then Some file.1 else content_of files name

-- one octet more than the most that a usage file may have
unfoldable pub most_read : ℕ
most_read = 262145

-- what a read gives of a content: its first octets
abbrev pub read_part : List ℕ → List ℕ
read_part content = take most_read content

-- whether the spool itself failed
abbrev pub has_failed : {A : Type 0} → Result A SpoolFault → Bool
has_failed (Ok a) = false
has_failed (Err Failed) = true
has_failed (Err Memory) = false
