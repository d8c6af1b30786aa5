-- JSON lists (RFC 8259, 5), with no space.
use Rattle.std.specs.Prelude.{ℕ, ◌==◌, List, [], ◌++◌, codes, if◌then◌else◌}
use Rattle.json.specs.Print.{quoted}
use Rattle.text_values.specs.Lists.{with_commas}

unfoldable pub comma_before : ℕ → List ℕ
comma_before index = if index == 0 then [] else codes ","

-- the element of this index
unfoldable pub element_text : {A : Type 0} → (A → List ℕ) → ℕ → A → List ℕ
element_text text index a = comma_before index ++ text a

unfoldable pub list_text : {A : Type 0} → (A → List ℕ) → List A → List ℕ
list_text text rows = codes "[" ++ with_commas text rows ++ codes "]"

-- the object whose one member is the list
unfoldable pub listing_body : {A : Type 0} → (A → List ℕ) → List ℕ → List A → List ℕ
listing_body text name rows = codes "{" ++ quoted name ++ codes ":" ++ list_text text rows ++ codes "}"
