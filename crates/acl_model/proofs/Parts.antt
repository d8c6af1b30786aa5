-- Parts of definitions that lemmas speak of.
use Rattle.std.specs.Prelude.{ℕ, Bool, List, [], ◌∷◌, ◌+◌, if◌then◌else◌}
use Rattle.acl_model.specs.declared.entry.Entry.{Entry}
use Rattle.acl_model.specs.declared.ruling.Ruling.{Ruling}
use Rattle.acl_model.specs.FirstMatch.{ruled_by}

abbrev pub first_ruling : (Entry → Bool) → ℕ → List Entry → Ruling → Ruling
first_ruling matches n [] otherwise = otherwise
first_ruling matches n (entry ∷ entries) otherwise = if matches entry then ruled_by n entry.action else first_ruling matches (n + 1) entries otherwise
