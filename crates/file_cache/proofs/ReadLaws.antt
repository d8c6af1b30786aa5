-- What each reading of a field gives, by what its parts give.
use Rattle.std.proofs.Common.{◌≡◌, ℕ, false, List, Option, Some, None, refl}
use Rattle.std.specs.Prelude.{◌==◌}
use Rattle.item_codec.specs.Records.{number_in, string_in, version_in, end_in, optional_in}
use Rattle.usage_tables.specs.declared.approval.Approval.{Approval}
use Rattle.usage_tables.specs.declared.approval.Approval.TheVariants.{Verified, Waived}
use Rattle.usage_tables.specs.Held.{HeldFile, held_file}
use Rattle.usage_tables.specs.FileItems.{held_in, approval_in, approved_in, file_row, row_of}

module _ (octets : List ℕ) where
  pub held_none : number_in 8 octets ≡ None → held_in octets ≡ None
  unfolding held_in
  held_none e = rw e refl

  pub held_half : (n : ℕ) (middle : List ℕ) → number_in 8 octets ≡ Some (n, middle) → string_in middle ≡ None → held_in octets ≡ None
  unfolding held_in
  held_half n middle e f = rw (e, f) refl

  pub held_some : (n : ℕ) (text middle rest : List ℕ) → number_in 8 octets ≡ Some (n, middle) → string_in middle ≡ Some (text, rest) → held_in octets ≡ Some (held_file text n, rest)
  unfolding held_in
  held_some n text middle rest e f = rw (e, f) refl

  pub approval_none : number_in 1 octets ≡ None → approval_in octets ≡ None
  unfolding approval_in
  approval_none e = rw e refl

  pub approval_one : (n : ℕ) (rest : List ℕ) → number_in 1 octets ≡ Some (n, rest) → n ≡ 1 → approval_in octets ≡ Some (Verified, rest)
  unfolding approval_in
  approval_one n rest e f = rw (e, f) refl

  pub approval_two : (n : ℕ) (rest : List ℕ) → number_in 1 octets ≡ Some (n, rest) → n ≡ 2 → approval_in octets ≡ Some (Waived, rest)
  unfolding approval_in
  approval_two n rest e f = rw (e, f) refl

  pub approval_other : (n : ℕ) (rest : List ℕ) → number_in 1 octets ≡ Some (n, rest) → (n == 1) ≡ false → (n == 2) ≡ false → approval_in octets ≡ None
  unfolding approval_in
  approval_other n rest e f g = rw (e, f, g) refl

  pub approved_none : number_in 8 octets ≡ None → approved_in octets ≡ None
  unfolding approved_in
  approved_none e = rw e refl

  pub approved_first : (n : ℕ) (middle : List ℕ) → number_in 8 octets ≡ Some (n, middle) → approval_in middle ≡ None → approved_in octets ≡ None
  unfolding approved_in
  approved_first n middle e f = rw (e, f) refl

  pub approved_half : (n : ℕ) (a : Approval) (middle behind : List ℕ) → number_in 8 octets ≡ Some (n, middle) → approval_in middle ≡ Some (a, behind) → string_in behind ≡ None → approved_in octets ≡ None
  unfolding approved_in
  approved_half n a middle behind e f g = rw (e, f, g) refl

  pub approved_some : (n : ℕ) (a : Approval) (text middle behind rest : List ℕ) → number_in 8 octets ≡ Some (n, middle) → approval_in middle ≡ Some (a, behind) → string_in behind ≡ Some (text, rest) → approved_in octets ≡ Some ((held_file text n, a), rest)
  unfolding approved_in
  approved_some n a text middle behind rest e f g = rw (e, f, g) refl

  -- ---- A value or none

  module _ {A : Type 0} (reading : List ℕ → Option (A × List ℕ)) where
    pub part_none : number_in 1 octets ≡ None → optional_in reading octets ≡ None
    unfolding optional_in
    part_none e = rw e refl

    pub part_zero : (n : ℕ) (rest : List ℕ) → number_in 1 octets ≡ Some (n, rest) → n ≡ 0 → optional_in reading octets ≡ Some (None, rest)
    unfolding optional_in
    part_zero n rest e f = rw (e, f) refl

    pub part_one_none : (n : ℕ) (middle : List ℕ) → number_in 1 octets ≡ Some (n, middle) → n ≡ 1 → reading middle ≡ None → optional_in reading octets ≡ None
    unfolding optional_in
    part_one_none n middle e f g = rw (e, f, g) refl

    pub part_one : (n : ℕ) (x : A) (middle rest : List ℕ) → number_in 1 octets ≡ Some (n, middle) → n ≡ 1 → reading middle ≡ Some (x, rest) → optional_in reading octets ≡ Some (Some x, rest)
    unfolding optional_in
    part_one n x middle rest e f g = rw (e, f, g) refl

    pub part_other : (n : ℕ) (rest : List ℕ) → number_in 1 octets ≡ Some (n, rest) → (n == 0) ≡ false → (n == 1) ≡ false → optional_in reading octets ≡ None
    unfolding optional_in
    part_other n rest e f g = rw (e, f, g) refl

  -- ---- Bodies

  module _ (key : List ℕ) where
    pub row_none : version_in octets ≡ None → row_of key octets ≡ None
    unfolding row_of
    row_none e = rw e refl

    pub row_first : (n : ℕ) (a : List ℕ) → version_in octets ≡ Some (n, a) → optional_in approved_in a ≡ None → row_of key octets ≡ None
    unfolding row_of
    row_first n a e f = rw (e, f) refl

    pub row_second : (n : ℕ) (a b : List ℕ) (x : Option (HeldFile × Approval)) → version_in octets ≡ Some (n, a) → optional_in approved_in a ≡ Some (x, b) → optional_in held_in b ≡ None → row_of key octets ≡ None
    unfolding row_of
    row_second n a b x e f g = rw (e, f, g) refl

    pub row_more : (n : ℕ) (a b d : List ℕ) (x : Option (HeldFile × Approval)) (y : Option HeldFile) → version_in octets ≡ Some (n, a) → optional_in approved_in a ≡ Some (x, b) → optional_in held_in b ≡ Some (y, d) → end_in d ≡ None → row_of key octets ≡ None
    unfolding row_of
    row_more n a b d x y e f g h = rw (e, f, g, h) refl

    pub row_whole : (n : ℕ) (a b d : List ℕ) (x : Option (HeldFile × Approval)) (y : Option HeldFile) → version_in octets ≡ Some (n, a) → optional_in approved_in a ≡ Some (x, b) → optional_in held_in b ≡ Some (y, d) → end_in d ≡ Some tt → row_of key octets ≡ Some (file_row key x y)
    unfolding row_of
    row_whole n a b d x y e f g h = rw (e, f, g, h) refl

pub ruleset held_rules = (held_none, held_half, held_some)

pub ruleset approval_rules = (approval_none, approval_one, approval_two, approval_other)

pub ruleset approved_rules = (approved_none, approved_first, approved_half, approved_some)

pub ruleset part_rules = (part_none, part_zero, part_one_none, part_one, part_other)

pub ruleset row_rules = (row_none, row_first, row_second, row_more, row_whole)
