-- How each field is spelled in octets.
use Rattle.std.specs.Prelude.{ℕ, Bool, ◌||◌, ◌==◌, IsTrue, List, ◌++◌, length}
use Rattle.std.specs.Int.{bytes_high_first}

-- a number has 1, 2, 4 or 8 octets
abbrev pub is_width : ℕ → Bool
is_width width = width == 1 || width == 2 || width == 4 || width == 8

abbrev pub IsWidth : ℕ → Type 0
IsWidth width = IsTrue (is_width width)

-- a number in so many octets, the most significant first
unfoldable pub number : ℕ → ℕ → List ℕ
number width value = bytes_high_first width value

-- a string: its length in four octets, and its octets
unfoldable pub string : List ℕ → List ℕ
string octets = number 4 (length octets) ++ octets

-- the count of a list in two octets, before its elements
unfoldable pub list : ℕ → List ℕ
list count = number 2 count

-- a version in one octet
unfoldable pub version_of : ℕ → List ℕ
version_of n = number 1 n

-- the version 1
unfoldable pub version : List ℕ
version = version_of 1
