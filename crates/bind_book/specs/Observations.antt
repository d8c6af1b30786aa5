-- What an observation of a name answers, and the change of names that it makes.
use Rattle.std.specs.Prelude.{◌≡◌, true, MatchOption, IsOkAnd}
use Rattle.base_rows.specs.Changes.{RowChange}
use Rattle.item_codec.specs.declared.word.Word.TheVariants.{Same}
use Rattle.table_model.specs.declared.bind.NameRow.{NameRow}
use Rattle.table_model.specs.BindCommands.{NamesAfter, NameStep, is_change}
use Rattle.bind_book.specs.declared.names.Observed.{Observed}

-- the answer is that of the step, and the names are changed so: not at all where the step changes nothing
pub record IsAnswer (change : RowChange NameRow) (seen : Observed) (after : NamesAfter) : Type 0 where
  pub word : seen.word ≡ after.word
  pub until : seen.until ≡ after.until
  pub rows : MatchOption seen.rows (after.word ≡ Same) (λ rows. (is_change after.word ≡ true) × (rows ≡ change))

-- the step isn't refused, and this is its answer
abbrev pub IsSeen : NameStep → RowChange NameRow → Observed → Type 0
IsSeen step change seen = IsOkAnd step (IsAnswer change seen)
