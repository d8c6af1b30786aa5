-- What is read of the key and the body of an item.
use Rattle.std.specs.Prelude.{◌≡◌, ℕ, Bool, true, false, List, ◌++◌, Option, Some, None, IfSome}
use Rattle.std.specs.Result.{result_ok}
use Rattle.item_codec.specs.Reading.{list_at}
use Rattle.item_codec.specs.Records.{Reading, ◌>>=◌, version_in}
use Rattle.table_model.specs.Binds.{is_class}
use Rattle.table_model.specs.BindItems.{class_of_key}

-- the key is of no class, or of one whose text has another form
abbrev pub IsNoClass : List ℕ → Type 0
IsNoClass key = IfSome (class_of_key key) (λ class. is_class class ≡ false)

-- the version, and the count of the list
unfoldable pub count_in : Reading ℕ
count_in octets = do
  one ← version_in octets
  result_ok (list_at one.1)

-- values in front of those that are read
abbrev pub behind : {A : Type 0} → List A → List A × List ℕ → List A × List ℕ
behind values x = (values ++ x.0, x.1)

-- What was taken of an item: true exactly where the lists with it are these, and else they stay.
abbrev pub IsTaken : {T : Type 0} → Option T → T → T → Bool → Type 0
IsTaken None old new taken = (taken ≡ false) × (new ≡ old)
IsTaken (Some lists) old new taken = (taken ≡ true) × (new ≡ lists)
