-- The kinds of the items in which a store keeps its lists, in the order in which a store tells them.
use Rattle.std.specs.Prelude.{ℕ}

-- one item a Thing
abbrev pub thing_kind : ℕ
thing_kind = 1

-- one item a URL, with its files
abbrev pub file_kind : ℕ
file_kind = 2

-- one item a class of addresses
abbrev pub class_kind : ℕ
class_kind = 3

-- one item of all local networks
abbrev pub locals_kind : ℕ
locals_kind = 4

-- one item a name
abbrev pub name_kind : ℕ
name_kind = 5

-- one item of the moment of the last change
abbrev pub stamp_kind : ℕ
stamp_kind = 6
