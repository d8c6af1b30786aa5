-- How much is kept at most.
use Rattle.std.specs.Prelude.{ℕ}

-- the URLs of which files are held
abbrev pub most_files : ℕ
most_files = 128

-- the entries of all approved files, of both directions
abbrev pub most_policy_entries : ℕ
most_policy_entries = 4096

-- the last moment, 9999-12-31T23:59:59Z, in seconds
abbrev pub last_moment : ℕ
last_moment = 253402300799
