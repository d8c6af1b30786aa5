-- The files of the cache, and a change of them, as contracts see both.
use Rattle.std.specs.Prelude.{ℕ, List, [], ◌∷◌}
use Rattle.item_codec.specs.declared.word.Word as outcome
use Rattle.item_codec.specs.declared.word.Word.TheVariants.{Same}
use Rattle.mud_world.specs.declared.item.Item.{Item}
use Rattle.mud_world.specs.declared.item.Put.{Put}
use Rattle.mud_world.specs.declared.item.Put.TheVariants.{Set, Gone}
use Rattle.usage_tables.specs.declared.cached_file.CachedFile.{CachedFile}
use Rattle.usage_tables.specs.declared.file_edit.FileEdit.{FileEdit}
use Rattle.usage_tables.specs.declared.file_edit.FileEdit.TheVariants.{Unchanged}

-- the files, and for how many URLs more there is room without memory
pub record Files : Type 0 where
  pub files : List CachedFile
  pub room : ℕ

-- what is answered, the URL, what changes of its files, and the puts that the change means without that of the stamp
pub record PlannedFile : Type 0 where
  pub word : outcome.Word
  pub url : List ℕ
  pub edit : FileEdit
  pub puts : List Put

-- nothing changes
unfoldable pub no_change : List ℕ → PlannedFile
no_change url = record { word = Same; url = url; edit = Unchanged; puts = [] }

-- the change that puts this item
unfoldable pub set_change : outcome.Word → List ℕ → FileEdit → Item → PlannedFile
set_change word url edit item = record { word = word; url = url; edit = edit; puts = Set item ∷ [] }

-- the change with which the item of this key goes
unfoldable pub gone_change : outcome.Word → List ℕ → FileEdit → List ℕ → PlannedFile
gone_change word url edit key = record { word = word; url = url; edit = edit; puts = Gone 2 key ∷ [] }
