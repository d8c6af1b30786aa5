-- Fields of a few octets, computed by the definitions.
use Rattle.std.specs.Prelude.{◌≡◌, ℕ, List, [], ◌∷◌, ◌++◌, true, false, refl}
use Rattle.mud_base.specs.declared.number.ByteOrder.TheVariants.{Big, Little}
use Rattle.mud_base.specs.Offsets.{mac_at, is_group_at}
use Rattle.mud_base.specs.Numbers.{big_16, big_32, big_128, number_16, number_32}
use Rattle.mud_base.proofs.FieldsOnLiterals.{fields_on_literals}

abbrev eight : List ℕ
eight = 1 ∷ 2 ∷ 3 ∷ 4 ∷ 5 ∷ 6 ∷ 7 ∷ 8 ∷ []

address : mac_at 2 eight ≡ record { 0 = 3 ∷ 4 ∷ 5 ∷ 6 ∷ 7 ∷ 8 ∷ [] }
unfolding fields_on_literals
address = refl

group_address : is_group_at 2 eight ≡ true
unfolding fields_on_literals
group_address = refl

own_address : is_group_at 1 eight ≡ false
unfolding fields_on_literals
own_address = refl

two_first_high : big_16 1 eight ≡ 0x0203
unfolding fields_on_literals
two_first_high = refl

four_first_high : big_32 4 eight ≡ 0x05060708
unfolding fields_on_literals
four_first_high = refl

sixteen_first_high : big_128 0 (eight ++ eight) ≡ 0x01020304050607080102030405060708
unfolding fields_on_literals
sixteen_first_high = refl

two_in_order : number_16 Big 6 eight ≡ 0x0708
unfolding fields_on_literals
two_in_order = refl

two_in_the_other_order : number_16 Little 6 eight ≡ 0x0807
unfolding fields_on_literals
two_in_the_other_order = refl

four_in_order : number_32 Big 3 eight ≡ 0x04050607
unfolding fields_on_literals
four_in_order = refl

four_in_the_other_order : number_32 Little 3 eight ≡ 0x07060504
unfolding fields_on_literals
four_in_the_other_order = refl
