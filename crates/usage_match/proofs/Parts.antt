-- Parts of definitions that lemmas speak of.
use Rattle.std.specs.Prelude.{ℕ, List, codes, Option}
use Rattle.usage_walk.specs.declared.fault.Broken.{Broken}
use Rattle.usage_walk.specs.Reading.{Reading}
use Rattle.mud_base.specs.Readings.{wanted}

abbrev pub eq_word : List ℕ
eq_word = codes "eq"

abbrev pub neq_word : List ℕ
neq_word = codes "neq"

abbrev pub lte_word : List ℕ
lte_word = codes "lte"

abbrev pub gte_word : List ℕ
gte_word = codes "gte"

abbrev pub from_device : List ℕ
from_device = codes "from-device"

abbrev pub to_device : List ℕ
to_device = codes "to-device"

abbrev pub as_meant : {A : Type 0} → A → Broken → (List ℕ → Option A) → List ℕ → Reading A
as_meant default broken meaning text = wanted default broken (meaning text)
