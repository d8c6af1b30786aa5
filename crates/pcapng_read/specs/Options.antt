-- The options of a block (draft-ietf-opsawg-pcapng, section 3.5).
use Rattle.std.specs.Prelude.{ℕ, zero, suc, ◌+◌, ◌-◌, ◌*◌, ◌/◌, ◌^◌, ◌==◌, nat_lt, nat_le, Bool, true, false, ◌&&◌, ◌||◌, if◌then◌else◌, List, [], ◌∷◌, length, take, drop, slice_index, replicate, Option, Some, None}
use Rattle.std.specs.Str.{bytes_eq}
use Rattle.mud_base.specs.Numbers.{number_16}
use Rattle.mud_base.specs.declared.number.ByteOrder.{ByteOrder}

-- an option: its code and its content
pub record BlockOption : Type 0 where
  pub code : ℕ
  pub content : List ℕ

-- the options up to their end, and whether the one behind them passes the body
pub record Listing : Type 0 where
  pub options : List BlockOption
  pub passes : Bool

abbrev pub no_more : Listing
no_more = record { options = []; passes = false }

abbrev pub beyond : Listing
beyond = record { options = []; passes = true }

abbrev pub with_option : BlockOption → Listing → Listing
with_option first later = record { options = first ∷ later.options; passes = later.passes }

-- The options in these octets, of which the first so many are the rest of one. The end of the octets ends them too.
unfoldable pub options_from : ByteOrder → ℕ → List ℕ → Listing
options_from order skipped [] = no_more
options_from order (suc skipped) (octet ∷ behind) = options_from order skipped behind
options_from order zero (octet ∷ behind) =
    at_code order (octet ∷ behind) (options_from order (3 + filled (number_16 order 2 (octet ∷ behind))) behind)
  where
    -- the content is filled up to a multiple of four octets
    filled : ℕ → ℕ
    filled len = (len + 3) / 4 * 4

    -- An option is its code, its length (2 octets each) and its content. The code 0 ends them. A body is a multiple of four octets, so
    -- that fewer than four never stand behind an option.
    at_code : ByteOrder → List ℕ → Listing → Listing
    at_code order octets later =
        if nat_lt (length octets) 4 || number_16 order 0 octets == 0 then no_more
        else (if nat_lt (length octets) (4 + number_16 order 2 octets) then beyond
        else with_option (record { code = number_16 order 0 octets; content = take (number_16 order 2 octets) (drop 4 octets) }) later)

-- the content of the last option of this code, or the one found before where there is none
abbrev pub last_with : ℕ → Option (List ℕ) → List BlockOption → Option (List ℕ)
last_with code found [] = found
last_with code found (option ∷ more) = last_with code (if option.code == code then Some option.content else found) more

abbrev pub content_of : ℕ → Listing → Option (List ℕ)
content_of code listing = last_with code None listing.options

-- The resolution of an interface's time (section 4.2, if_tsresol): a power of ten up to 9, or 128 and a power of two up to 30.
unfoldable pub units_of : ℕ → Option ℕ
units_of resolution =
    if nat_le resolution 9 then Some (10 ^ resolution)
    else (if nat_le 128 resolution && nat_le resolution 158 then Some (2 ^ (resolution - 128)) else None)

-- whether the option isn't there, or has one octet
abbrev pub is_one : Option (List ℕ) → Bool
is_one None = true
is_one (Some content) = length content == 1

-- how many units of time a second has: 1,000,000 where the option isn't there
abbrev pub units_in : Option (List ℕ) → Option ℕ
units_in None = Some 1000000
units_in (Some content) = units_of (slice_index content 0)

-- Whether the option isn't there, or its eight octets are all 0 (section 4.2, if_tsoffset).
abbrev pub has_no_time_offset : Option (List ℕ) → Bool
has_no_time_offset None = true
has_no_time_offset (Some content) = bytes_eq content (replicate 8 0)
