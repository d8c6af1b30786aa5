-- Fields and their octets.
use Rattle.std.proofs.Common.{◌≡◌, [], ◌∷◌, ◌++◌, refl, Ok, Err, Some, None}
use Rattle.item_codec.specs.declared.fault.CodecFault.TheVariants.{Short, Version, Tail}
use Rattle.item_codec.specs.Spelling.{number, string, list, version, version_of}
use Rattle.item_codec.specs.Reading.{number_of, octets_at, number_at, string_at, list_at, version_to, version_at, end_at}
use Rattle.item_codec.specs.Records.{number_in, string_in, optional, optional_in, elements, each_in, elements_in}

-- the most significant octet stands first
wide_number : number 4 0x01020304 ≡ 1 ∷ 2 ∷ 3 ∷ 4 ∷ []
unfolding number
wide_number = refl

-- the moment 1000 in eight octets
moment : number 8 1000 ≡ 0 ∷ 0 ∷ 0 ∷ 0 ∷ 0 ∷ 0 ∷ 3 ∷ 0xe8 ∷ []
unfolding number
moment = refl

-- the expiry that means for ever
never : number 8 18446744073709551615 ≡ 255 ∷ 255 ∷ 255 ∷ 255 ∷ 255 ∷ 255 ∷ 255 ∷ 255 ∷ []
unfolding number
never = refl

-- `hi`
short_string : string (104 ∷ 105 ∷ []) ≡ 0 ∷ 0 ∷ 0 ∷ 2 ∷ 104 ∷ 105 ∷ []
unfolding string number
short_string = refl

-- a version, an empty string and the count of an empty list
front_of_body : version ++ string [] ++ list 0 ≡ 1 ∷ 0 ∷ 0 ∷ 0 ∷ 0 ∷ 0 ∷ 0 ∷ []
unfolding version version_of string list number
front_of_body = refl

reads_number : number_at 2 (3 ∷ 0xe8 ∷ 9 ∷ []) ≡ Ok (1000, 9 ∷ [])
unfolding number_at octets_at number_of
reads_number = refl

short_number : number_at 8 (0 ∷ 0 ∷ 0 ∷ 0 ∷ 0 ∷ 0 ∷ 3 ∷ []) ≡ Err Short
unfolding number_at octets_at
short_number = refl

reads_string : string_at (0 ∷ 0 ∷ 0 ∷ 2 ∷ 104 ∷ 105 ∷ 7 ∷ []) ≡ Ok (104 ∷ 105 ∷ [], 7 ∷ [])
unfolding string_at number_at octets_at number_of
reads_string = refl

-- the length passes the end by one
short_text : string_at (0 ∷ 0 ∷ 0 ∷ 3 ∷ 104 ∷ 105 ∷ []) ≡ Err Short
unfolding string_at number_at octets_at number_of
short_text = refl

reads_count : list_at (1 ∷ 0 ∷ []) ≡ Ok (256, [])
unfolding list_at number_at octets_at number_of
reads_count = refl

reads_version : version_at (1 ∷ 8 ∷ []) ≡ Ok (1, 8 ∷ [])
unfolding version_at version_to number_at octets_at number_of
reads_version = refl

later_version : version_at (2 ∷ []) ≡ Err Version
unfolding version_at version_to number_at octets_at number_of
later_version = refl

reads_second : version_to 2 (2 ∷ 8 ∷ []) ≡ Ok (2, 8 ∷ [])
unfolding version_to number_at octets_at number_of
reads_second = refl

third_version : version_to 2 (3 ∷ []) ≡ Err Version
unfolding version_to number_at octets_at number_of
third_version = refl

-- no version is 0
version_zero : version_to 2 (0 ∷ []) ≡ Err Version
unfolding version_to number_at octets_at number_of
version_zero = refl

-- where no octet is left, that is what is wrong
no_version : version_at [] ≡ Err Short
unfolding version_at version_to number_at octets_at
no_version = refl

at_end : end_at [] ≡ Ok tt
unfolding end_at
at_end = refl

before_end : end_at (0 ∷ []) ≡ Err Tail
unfolding end_at
before_end = refl

-- ---- Records

no_value : optional string None ≡ 0 ∷ []
unfolding optional number
no_value = refl

some_string : optional string (Some (104 ∷ [])) ≡ 1 ∷ 0 ∷ 0 ∷ 0 ∷ 1 ∷ 104 ∷ []
unfolding optional string number
some_string = refl

reads_option : optional_in string_in (1 ∷ 0 ∷ 0 ∷ 0 ∷ 1 ∷ 104 ∷ 7 ∷ []) ≡ Some (Some (104 ∷ []), 7 ∷ [])
unfolding optional_in number_in string_in number_at string_at octets_at number_of
reads_option = refl

-- another first octet than 0 and 1
no_option : optional_in string_in (2 ∷ []) ≡ None
unfolding optional_in number_in number_at octets_at number_of
no_option = refl

two_elements : elements (number 1) (7 ∷ 8 ∷ []) ≡ 0 ∷ 2 ∷ 7 ∷ 8 ∷ []
unfolding elements list number
two_elements = refl

reads_elements : elements_in (number_in 1) (0 ∷ 2 ∷ 7 ∷ 8 ∷ 9 ∷ []) ≡ Some (7 ∷ 8 ∷ [], 9 ∷ [])
unfolding elements_in each_in list_at number_in number_at octets_at number_of
reads_elements = refl

-- one element is missing
one_short : elements_in (number_in 1) (0 ∷ 2 ∷ 7 ∷ []) ≡ None
unfolding elements_in each_in list_at number_in number_at octets_at number_of
one_short = refl
