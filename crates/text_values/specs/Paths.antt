-- Texts of paths.
use Rattle.std.specs.Prelude.{ℕ, not, ◌&&◌, ◌==◌, List, [], ◌∷◌, ◌++◌, length, flat_map, codes, if◌then◌else◌}
use Rattle.std.specs.Char.{is_ascii_graphic}
use Rattle.hex.specs.Hex.{encode_lower}

-- an octet outside 21 to 7E hex, or a backslash, is written as `\x` and two hex digits
unfoldable pub shown : ℕ → List ℕ
shown c = if is_ascii_graphic c && not (c == 92) then (c ∷ []) else codes "\\x" ++ encode_lower (c ∷ [])

-- a space and the path, where it isn't empty
unfoldable pub path_part : List ℕ → List ℕ
path_part path = if length path == 0 then [] else codes " " ++ path_text path
  where
    path_text : List ℕ → List ℕ
    path_text path = flat_map shown path
