-- Records: fields one behind the other. A reading gives a value and the octets behind it, or None where the octets don't
-- begin with such a field.
use Rattle.std.specs.Prelude.{◌≡◌, ℕ, zero, suc, ◌<◌, ◌^◌, ◌==◌, List, [], ◌∷◌, ◌++◌, length, flat_map, Option, Some, None, option_map, option_and_then, if◌then◌else◌}
use Rattle.std.specs.Result.{result_ok}
use Rattle.std.specs.List.{AllByRecursion}
use Rattle.mud_base.specs.Numbers.{IsOctets}
use Rattle.item_codec.specs.Spelling.{number, list, version}
use Rattle.item_codec.specs.Reading.{IsRead, number_at, string_at, list_at, version_to, version_at, end_at}

abbrev pub Reading : Type 0 → Type 0
Reading A = List ℕ → Option (A × List ℕ)

infixl 10 ◌>>=◌
abbrev pub ◌>>=◌ : {A B : Type 0} → Option A → (A → Option B) → Option B
o >>= f = option_and_then f o

-- a number of so many octets
unfoldable pub number_in : ℕ → Reading ℕ
number_in width octets = result_ok (number_at width octets)

unfoldable pub string_in : Reading (List ℕ)
string_in octets = result_ok (string_at octets)

-- a version from 1 to most
unfoldable pub version_to_in : ℕ → Reading ℕ
version_to_in most octets = result_ok (version_to most octets)

unfoldable pub version_in : Reading ℕ
version_in octets = result_ok (version_at octets)

-- the end: no octets are left
unfoldable pub end_in : List ℕ → Option (Unit {0})
end_in octets = result_ok (end_at octets)

-- ---- A value or none: the octet 0, or 1 and the value

unfoldable pub optional : {A : Type 0} → (A → List ℕ) → Option A → List ℕ
optional spell None = number 1 0
optional spell (Some value) = number 1 1 ++ spell value

unfoldable pub optional_in : {A : Type 0} → Reading A → Reading (Option A)
optional_in value octets = do
  flag ← number_in 1 octets
  if flag.0 == 0 then Some (None, flag.1) else (if flag.0 == 1 then option_map some_value (value flag.1) else None)
  where
    some_value : {A : Type 0} → A × List ℕ → Option A × List ℕ
    some_value x = (Some x.0, x.1)

-- ---- A list: its count, and its elements

unfoldable pub elements : {A : Type 0} → (A → List ℕ) → List A → List ℕ
elements spell values = list (length values) ++ flat_map spell values

-- so many values, one behind the other
unfoldable pub each_in : {A : Type 0} → Reading A → ℕ → Reading (List A)
each_in value zero octets = Some ([], octets)
each_in value (suc n) octets = do
  first ← value octets
  others ← each_in value n first.1
  Some (first.0 ∷ others.0, others.1)

unfoldable pub elements_in : {A : Type 0} → Reading A → Reading (List A)
elements_in value octets = do
  count ← result_ok (list_at octets)
  each_in value count.0 count.1

-- ---- Spelling and reading as two sides of one form

-- What is spelled is read back, whatever follows it, where the value fits; and what is read was spelled so, each octet of
-- it, and fits.
pub record IsForm {A : Type 0} (spell : A → List ℕ) (Fits : A → Type 0) (reading : Reading A) : Type 0 where
  pub back : (value : A) (rest : List ℕ) → Fits value → reading (spell value ++ rest) ≡ Some (value, rest)
  pub alone : (octets : List ℕ) (value : A) (rest : List ℕ) → IsOctets octets → reading octets ≡ Some (value, rest) → IsRead octets (spell value) rest × Fits value

abbrev pub OptionFits : {A : Type 0} → (A → Type 0) → Option A → Type 0
OptionFits Fits None = Unit {0}
OptionFits Fits (Some value) = Fits value

pub record ListFits {A : Type 0} (Fits : A → Type 0) (values : List A) : Type 0 where
  pub few : length values < 2 ^ 16
  pub each : AllByRecursion Fits values

-- ---- A body with one list: the version and the list, and nothing behind it

unfoldable pub list_body : {A : Type 0} → (A → List ℕ) → List A → List ℕ
list_body spell values = version ++ elements spell values

unfoldable pub list_body_in : {A : Type 0} → Reading A → List ℕ → Option (List A)
list_body_in value octets = do
  one ← version_in octets
  values ← elements_in value one.1
  ended ← end_in values.1
  Some values.0
