-- The readings of usage files: what fails names a rule, and the path where it is broken.
use Rattle.std.specs.Prelude.{ℕ, List, [], ◌∷◌, ◌++◌, decimal, None, if◌then◌else◌, ◌==◌}
use Rattle.std.specs.List.{flat_map}
use Rattle.mud_base.specs.Readings as of
use Rattle.usage_walk.specs.declared.fault.Rule.{Rule}
use Rattle.usage_walk.specs.declared.fault.Broken.{Broken}
use Rattle.usage_walk.specs.declared.member.Member.{Member}
use Rattle.usage_walk.specs.Members.{name_of}

-- the checks of a part of a usage file, in the order of the walk, and what the part means
abbrev pub Reading : Type 0 → Type 0
Reading A = of.Reading Broken A

-- ---- Paths: JSON pointers (RFC 6901)

unfoldable pub under : List ℕ → Member → List ℕ
under path member = path ++ 47 ∷ name_of member

unfoldable pub at_index : List ℕ → ℕ → List ℕ
at_index path index = path ++ 47 ∷ decimal index

unfoldable pub under_name : List ℕ → List ℕ → List ℕ
under_name path name = path ++ 47 ∷ flat_map escape name
  where
    -- `~` is written as `~0`, and `/` as `~1` (RFC 6901, 3)
    escape : ℕ → List ℕ
    escape c = if c == 126 then (126 ∷ 48 ∷ []) else (if c == 47 then (126 ∷ 49 ∷ []) else (c ∷ []))

unfoldable pub fault_at : Rule → List ℕ → Broken
fault_at rule path = record { rule = rule; path = path; url = None }
