-- Reading the field at the front of octets. A reading gives the field's value and the octets behind it, or the fault.
use Rattle.std.specs.Prelude.{◌≡◌, ℕ, ◌+◌, ◌*◌, ◌||◌, ◌==◌, nat_lt, List, [], ◌∷◌, ◌++◌, length, take, drop, Result, Ok, Err, if◌then◌else◌}
use Rattle.item_codec.specs.declared.fault.CodecFault.{CodecFault}
use Rattle.item_codec.specs.declared.fault.CodecFault.TheVariants.{Short, Version, Tail}
use Rattle.mud_base.specs.Numbers.{IsOctets}

infixl 10 ◌>>=◌
abbrev pub ◌>>=◌ : {A B : Type 0} → Result A CodecFault → (A → Result B CodecFault) → Result B CodecFault
(Ok x) >>= f = f x
(Err fault) >>= f = Err fault

-- the number that octets spell behind those of n, the most significant first
abbrev pub number_behind : ℕ → List ℕ → ℕ
number_behind n [] = n
number_behind n (octet ∷ more) = number_behind (n * 256 + octet) more

unfoldable pub number_of : List ℕ → ℕ
number_of octets = number_behind 0 octets

-- so many octets
unfoldable pub octets_at : ℕ → List ℕ → Result (List ℕ × List ℕ) CodecFault
octets_at len octets = if nat_lt (length octets) len then Err Short else Ok (take len octets, drop len octets)

-- a number of so many octets
unfoldable pub number_at : ℕ → List ℕ → Result (ℕ × List ℕ) CodecFault
number_at width octets = do
  front ← octets_at width octets
  Ok (number_of front.0, front.1)

-- a string: its length, and so many octets
unfoldable pub string_at : List ℕ → Result (List ℕ × List ℕ) CodecFault
string_at octets = do
  len ← number_at 4 octets
  octets_at len.0 len.1

-- the count of a list
unfoldable pub list_at : List ℕ → Result (ℕ × List ℕ) CodecFault
list_at octets = number_at 2 octets

-- the version, which has to be from 1 to most
unfoldable pub version_to : ℕ → List ℕ → Result (ℕ × List ℕ) CodecFault
version_to most octets = do
  version ← number_at 1 octets
  if version.0 == 0 || nat_lt most version.0 then Err Version else Ok version

-- the version, which has to be 1
unfoldable pub version_at : List ℕ → Result (ℕ × List ℕ) CodecFault
version_at octets = version_to 1 octets

-- the end: no octets are left
unfoldable pub end_at : List ℕ → Result (Unit {0}) CodecFault
end_at octets = if length octets == 0 then Ok tt else Err Tail

-- What a function answered, seen by view, is what reading gives.
abbrev pub Gives : {X Y : Type 0} → (X → Y) → Result X CodecFault → Result Y CodecFault → Type 0
Gives view (Ok x) reading = reading ≡ Ok (view x)
Gives view (Err fault) reading = reading ≡ Err fault

-- What a call of a reader answered, seen by view, and what it left of the octets, is what reading gives. A refusal
-- leaves all of them.
abbrev pub Reads : {X Y : Type 0} → (X → Y) → Result X CodecFault → List ℕ → List ℕ → Result (Y × List ℕ) CodecFault → Type 0
Reads view (Ok x) before after reading = reading ≡ Ok (view x, after)
Reads view (Err fault) before after reading = (reading ≡ Err fault) × (after ≡ before)

-- The octets are this text and those that were left behind it.
pub record IsRead (octets text rest : List ℕ) : Type 0 where
  pub parts : octets ≡ text ++ rest
  pub left : IsOctets rest
