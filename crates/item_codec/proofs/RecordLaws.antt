-- The forms of records: values or none, lists, and fields one behind the other.
use Rattle.std.proofs.Common.{◌≡◌, ℕ, zero, suc, ◌^◌, ◌<◌, ◌≤◌, Bool, true, false, cond, eqb, List, [], ◌∷◌, ◌++◌, length, Option, Some, None, Result, Ok, Err, refl, sym, ap, subst, ◌∙◌, append_assoc, arith, inl, inr, lit<, ◌⊎◌}
use Rattle.std.specs.Prelude.{flat_map, option_map}
use Rattle.std.specs.Result.{result_ok}
use Rattle.std.specs.List.{AllByRecursion}
use Rattle.std.proofs.lemmas.Bool.{eqb-true}
use Rattle.std.proofs.lemmas.List.{nil_from_length, append-nil}
use Rattle.item_codec.specs.declared.fault.CodecFault.{CodecFault}
use Rattle.item_codec.specs.declared.fault.CodecFault.TheVariants.{Tail}
use Rattle.mud_base.specs.Numbers.{IsOctets}
use Rattle.item_codec.specs.Spelling.{IsWidth, number, string, list, version, version_of}
use Rattle.item_codec.specs.Reading.{IsRead, number_at, string_at, list_at, version_to, version_at, end_at}
use Rattle.item_codec.specs.Records.{Reading, ◌>>=◌, number_in, string_in, version_to_in, version_in, end_in, optional, optional_in, elements, each_in, elements_in, list_body, list_body_in, IsForm, OptionFits, ListFits}
use Rattle.item_codec.proofs.FieldLaws.{then_read, read_whole, number_read, number_again, string_read, string_again, list_read, list_again, IsVersion, version_to_read, version_to_again, version_read, version_again}
use Rattle.item_codec.proofs.Parts.{some_value}

-- ---- Readings that succeed

abbrev nothing_of : (A : Type 0) → Option A
nothing_of A = None

abbrev found : {A : Type 0} → A → Option A
found x = Some x

pub some_is : {A : Type 0} (x y : A) → found x ≡ found y → x ≡ y
some_is x y e = cc

-- the value of a first reading, where the whole succeeds
pub bind_some : {A B : Type 0} (o : Option A) (f : A → Option B) (y : B) → (o >>= f) ≡ Some y → (x : A) × (o ≡ Some x) × (f x ≡ Some y)
bind_some (Some x) f y e = (x, refl, e)
bind_some None f y e = absurd cc

pub ok_some : {A : Type 0} (r : Result A CodecFault) (x : A) → result_ok r ≡ Some x → r ≡ Ok x
ok_some (Ok y) x e = ap (λ (z : _). Ok z) (some_is y x e)
ok_some (Err f) x e = absurd cc

-- a test that let pass
pub pass_some : {A : Type 0} (b : Bool) (x : A) (o : Option A) → cond b o None ≡ Some x → (b ≡ true) × (o ≡ Some x)
pass_some true x o e = (refl, e)
pass_some false x o e = absurd cc

-- which way a choice went
pub chosen : {A : Type 0} (b : Bool) (x y z : A) → cond b x y ≡ z → ((b ≡ true) × (x ≡ z)) ⊎ ((b ≡ false) × (y ≡ z))
chosen true x y z e = inl (refl, e)
chosen false x y z e = inr (refl, e)

-- ---- Single fields

pub number_form : (width : ℕ) → IsWidth width → IsForm (number width) (λ n. n < 256 ^ width) (number_in width)
unfolding number_in
number_form width h = record {
  back = λ n rest fits. ap result_ok (number_again width n rest h fits);
  alone = λ octets n rest fits e. number_read width octets n rest h fits (ok_some (number_at width octets) (n, rest) e);
}

pub string_form : IsForm string (λ s. length s < 2 ^ 32) string_in
unfolding string_in
string_form = record {
  back = λ s rest fits. ap result_ok (string_again s rest fits);
  alone = λ octets s rest fits e. string_read octets s rest fits (ok_some (string_at octets) (s, rest) e);
}

pub version_to_back : (most value : ℕ) (rest : List ℕ) → 1 ≤ value → value ≤ most → value < 256 → version_to_in most (version_of value ++ rest) ≡ Some (value, rest)
unfolding version_to_in
version_to_back most value rest least within below = ap result_ok (version_to_again most value rest least within below)

pub version_to_alone : (most : ℕ) (octets : List ℕ) (v : ℕ × List ℕ) → IsOctets octets → version_to_in most octets ≡ Some v → IsVersion most octets v.0 v.1
unfolding version_to_in
version_to_alone most octets v fits e = version_to_read most octets v.0 v.1 fits (ok_some (version_to most octets) v e)

pub version_back : (rest : List ℕ) → version_in (version ++ rest) ≡ Some (1, rest)
unfolding version_in
version_back rest = ap result_ok (version_again rest)

pub version_alone : (octets : List ℕ) (one : ℕ × List ℕ) → IsOctets octets → version_in octets ≡ Some one → IsRead octets version one.1
unfolding version_in
version_alone octets one fits e = (version_read octets one.0 one.1 fits (ok_some (version_at octets) one e)).0

-- no octets are left where the fields end
pub end_alone : (octets : List ℕ) (ended : Unit {0}) → end_in octets ≡ Some ended → octets ≡ []
unfolding end_in end_at
end_alone octets ended e =
    elim (chosen (eqb (length octets) 0) (Ok tt) (Err Tail) (Ok ended) (ok_some (cond (eqb (length octets) 0) (Ok tt) (Err Tail)) ended e)) [
      | inl at_end ↦ nil_from_length octets (eqb-true (length octets) 0 at_end.0)
      | inr more ↦ let bad = more.1 in absurd cc
    ]

-- ---- A value or none

some_behind : {A : Type 0} (o : Option (A × List ℕ)) (x : Option A × List ℕ) → option_map some_value o ≡ Some x → (y : A × List ℕ) × (o ≡ Some y) × (x ≡ some_value y)
some_behind (Some y) x e = (y, refl, sym (some_is (some_value y) x e))
some_behind None x e = absurd cc

optional_back : {A : Type 0} (spell : A → List ℕ) (Fits : A → Type 0) (reading : Reading A) → IsForm spell Fits reading → (value : Option A) (rest : List ℕ) → OptionFits Fits value → optional_in reading (optional spell value ++ rest) ≡ Some (value, rest)
unfolding optional optional_in
optional_back spell Fits reading form None rest fits = rw ((number_form 1 refl).back 0 rest (lit< tt)) refl
optional_back spell Fits reading form (Some value) rest fits =
    ap (optional_in reading) (append_assoc (number 1 1) (spell value) rest)
    ∙ rw ((number_form 1 refl).back 1 (spell value ++ rest) (lit< tt), form.back value rest fits) refl

abbrev IsOptionRead : {A : Type 0} → (A → List ℕ) → (A → Type 0) → List ℕ → Option A × List ℕ → Type 0
IsOptionRead spell Fits octets x = IsRead octets (optional spell x.0) x.1 × OptionFits Fits x.0

optional_none : {A : Type 0} (spell : A → List ℕ) (Fits : A → Type 0) (octets rest : List ℕ) → IsRead octets (number 1 0) rest → IsOptionRead spell Fits octets (None, rest)
unfolding optional
optional_none spell Fits octets rest read = (read, tt)

optional_some : {A : Type 0} (spell : A → List ℕ) (Fits : A → Type 0) (octets : List ℕ) (value : A) (rest behind : List ℕ) → IsRead octets (number 1 1) behind → IsRead behind (spell value) rest → Fits value → IsOptionRead spell Fits octets (Some value, rest)
unfolding optional
optional_some spell Fits octets value rest behind flag read fits = (then_read octets (number 1 1) behind (spell value) rest flag read, fits)

optional_alone : {A : Type 0} (spell : A → List ℕ) (Fits : A → Type 0) (reading : Reading A) → IsForm spell Fits reading → (octets : List ℕ) (x : Option A × List ℕ) → IsOctets octets → optional_in reading octets ≡ Some x → IsOptionRead spell Fits octets x
unfolding optional_in
optional_alone {A = A} spell Fits reading form octets x fits e =
    let b = bind_some (number_in 1 octets) (λ flag. cond (eqb flag.0 0) (Some (nothing_of A, flag.1)) (cond (eqb flag.0 1) (option_map some_value (reading flag.1)) None)) x e in
    let n = (number_form 1 refl).alone octets b.0.0 b.0.1 fits b.1 in
    elim (chosen (eqb b.0.0 0) (Some (nothing_of A, b.0.1)) (cond (eqb b.0.0 1) (option_map some_value (reading b.0.1)) None) (Some x) b.2) [
      | inl zero_flag ↦
          let flag : IsRead octets (number 1 0) b.0.1 = subst (λ (k : ℕ). IsRead octets (number 1 k) b.0.1) (eqb-true b.0.0 0 zero_flag.0) n.0 in
          subst (λ (y : Option A × List ℕ). IsOptionRead spell Fits octets y) (some_is (nothing_of A, b.0.1) x zero_flag.1) (optional_none spell Fits octets b.0.1 flag)
      | inr other_flag ↦
          let one = pass_some (eqb b.0.0 1) x (option_map some_value (reading b.0.1)) other_flag.1 in
          let flag : IsRead octets (number 1 1) b.0.1 = subst (λ (k : ℕ). IsRead octets (number 1 k) b.0.1) (eqb-true b.0.0 1 one.0) n.0 in
          let y = some_behind (reading b.0.1) x one.1 in
          let v = form.alone b.0.1 y.0.0 y.0.1 n.0.left y.1 in
          subst (λ (z : Option A × List ℕ). IsOptionRead spell Fits octets z) (sym y.2) (optional_some spell Fits octets y.0.0 y.0.1 b.0.1 flag v.0 v.1)
    ]

pub optional_form : {A : Type 0} (spell : A → List ℕ) (Fits : A → Type 0) (reading : Reading A) → IsForm spell Fits reading → IsForm (optional spell) (OptionFits Fits) (optional_in reading)
optional_form spell Fits reading form = record {
  back = optional_back spell Fits reading form;
  alone = λ octets value rest fits e. optional_alone spell Fits reading form octets (value, rest) fits e;
}

-- ---- Lists

each_back : {A : Type 0} (spell : A → List ℕ) (Fits : A → Type 0) (reading : Reading A) → IsForm spell Fits reading → (values : List A) (rest : List ℕ) → AllByRecursion Fits values → each_in reading (length values) (flat_map spell values ++ rest) ≡ Some (values, rest)
unfolding each_in
each_back spell Fits reading form [] rest fits = refl
each_back spell Fits reading form (x ∷ xs) rest fits =
    ap (each_in reading (suc (length xs))) (append_assoc (spell x) (flat_map spell xs) rest)
    ∙ rw (form.back x (flat_map spell xs ++ rest) fits.0, each_back spell Fits reading form xs rest fits.1) refl

abbrev AreEachRead : {A : Type 0} → (A → List ℕ) → (A → Type 0) → ℕ → List ℕ → List A × List ℕ → Type 0
AreEachRead spell Fits n octets x = IsRead octets (flat_map spell x.0) x.1 × (length x.0 ≡ n) × AllByRecursion Fits x.0

each_alone : {A : Type 0} (spell : A → List ℕ) (Fits : A → Type 0) (reading : Reading A) → IsForm spell Fits reading → (n : ℕ) (octets : List ℕ) (x : List A × List ℕ) → IsOctets octets → each_in reading n octets ≡ Some x → AreEachRead spell Fits n octets x
unfolding each_in
each_alone {A = A} spell Fits reading form zero octets x fits e =
    let nothing : IsRead octets [] octets = record { parts = refl; left = fits } in
    subst (λ (y : List A × List ℕ). AreEachRead spell Fits 0 octets y) (some_is ([], octets) x e) (nothing, refl, tt)
each_alone {A = A} spell Fits reading form (suc n) octets x fits e =
    let a = bind_some (reading octets) (λ first. each_in reading n first.1 >>= λ others. Some (first.0 ∷ others.0, others.1)) x e in
    let b = bind_some (each_in reading n a.0.1) (λ others. Some (a.0.0 ∷ others.0, others.1)) x a.2 in
    let first = form.alone octets a.0.0 a.0.1 fits a.1 in
    let others = each_alone spell Fits reading form n a.0.1 b.0 first.0.left b.1 in
    let both = then_read octets (spell a.0.0) a.0.1 (flat_map spell b.0.0) b.0.1 first.0 others.0 in
    let all : List A × List ℕ = (a.0.0 ∷ b.0.0, b.0.1) in
    subst (λ (y : List A × List ℕ). AreEachRead spell Fits (suc n) octets y) (some_is all x b.2) (both, ap suc others.1, (first.1, others.2))

elements_back : {A : Type 0} (spell : A → List ℕ) (Fits : A → Type 0) (reading : Reading A) → IsForm spell Fits reading → (values : List A) (rest : List ℕ) → ListFits Fits values → elements_in reading (elements spell values ++ rest) ≡ Some (values, rest)
unfolding elements elements_in
elements_back spell Fits reading form values rest fits =
    ap (elements_in reading) (append_assoc (list (length values)) (flat_map spell values) rest)
    ∙ rw (list_again (length values) (flat_map spell values ++ rest) fits.few) (each_back spell Fits reading form values rest fits.each)

elements_alone : {A : Type 0} (spell : A → List ℕ) (Fits : A → Type 0) (reading : Reading A) → IsForm spell Fits reading → (octets : List ℕ) (values : List A) (rest : List ℕ) → IsOctets octets → elements_in reading octets ≡ Some (values, rest) → IsRead octets (elements spell values) rest × ListFits Fits values
unfolding elements elements_in
elements_alone spell Fits reading form octets values rest fits e =
    let a = bind_some (result_ok (list_at octets)) (λ count. each_in reading count.0 count.1) (values, rest) e in
    let count = list_read octets a.0.0 a.0.1 fits (ok_some (list_at octets) a.0 a.1) in
    let each = each_alone spell Fits reading form a.0.0 a.0.1 (values, rest) count.0.left a.2 in
    let both = then_read octets (list a.0.0) a.0.1 (flat_map spell values) rest count.0 each.0 in
    (subst (λ (k : ℕ). IsRead octets (list k ++ flat_map spell values) rest) (sym each.1) both, record { few = omega (arith, each.1, count.1); each = each.2 })

pub elements_form : {A : Type 0} (spell : A → List ℕ) (Fits : A → Type 0) (reading : Reading A) → IsForm spell Fits reading → IsForm (elements spell) (ListFits Fits) (elements_in reading)
elements_form spell Fits reading form = record { back = elements_back spell Fits reading form; alone = elements_alone spell Fits reading form }

-- ---- Two fields as the parts of one value

pub pair_form : {A B C : Type 0} (spell_a : A → List ℕ) (FitsA : A → Type 0) (reading_a : Reading A) (spell_b : B → List ℕ) (FitsB : B → Type 0) (reading_b : Reading B)
    (make : A → B → C) (first : C → A) (second : C → B) → ((c : C) → make (first c) (second c) ≡ c) → ((a : A) (b : B) → first (make a b) ≡ a) → ((a : A) (b : B) → second (make a b) ≡ b)
    → IsForm spell_a FitsA reading_a → IsForm spell_b FitsB reading_b
    → IsForm (λ c. spell_a (first c) ++ spell_b (second c)) (λ c. FitsA (first c) × FitsB (second c)) (λ octets. reading_a octets >>= λ a. reading_b a.1 >>= λ b. Some (make a.0 b.0, b.1))
pair_form {C = C} spell_a FitsA reading_a spell_b FitsB reading_b make first second whole first_is second_is form_a form_b = record {
  back = λ c rest fits.
      ap (λ (t : List ℕ). reading_a t >>= λ a. reading_b a.1 >>= λ b. Some (make a.0 b.0, b.1)) (append_assoc (spell_a (first c)) (spell_b (second c)) rest)
      ∙ rw (form_a.back (first c) (spell_b (second c) ++ rest) fits.0, form_b.back (second c) rest fits.1) (ap (λ (d : C). Some (d, rest)) (whole c));
  alone = λ octets c rest fits e.
      let a = bind_some (reading_a octets) (λ a. reading_b a.1 >>= λ b. Some (make a.0 b.0, b.1)) (c, rest) e in
      let b = bind_some (reading_b a.0.1) (λ b. Some (make a.0.0 b.0, b.1)) (c, rest) a.2 in
      let read_a = form_a.alone octets a.0.0 a.0.1 fits a.1 in
      let read_b = form_b.alone a.0.1 b.0.0 b.0.1 read_a.0.left b.1 in
      let both = then_read octets (spell_a a.0.0) a.0.1 (spell_b b.0.0) b.0.1 read_a.0 read_b.0 in
      let made : C × List ℕ = (make a.0.0 b.0.0, b.0.1) in
      subst (λ (x : C × List ℕ). IsRead octets (spell_a (first x.0) ++ spell_b (second x.0)) x.1 × (FitsA (first x.0) × FitsB (second x.0))) {x = made} (some_is made (c, rest) b.2)
      (rw (first_is a.0.0 b.0.0, second_is a.0.0 b.0.0) (both, (read_a.1, read_b.1)));
}

-- ---- Bodies with one list

pub end_back : end_in [] ≡ Some tt
unfolding end_in end_at
end_back = refl

pub list_body_back : {A : Type 0} (spell : A → List ℕ) (Fits : A → Type 0) (reading : Reading A) → IsForm spell Fits reading → (values : List A) → ListFits Fits values → list_body_in reading (list_body spell values) ≡ Some values
unfolding list_body list_body_in
list_body_back spell Fits reading form values fits =
    let whole : elements_in reading (elements spell values) ≡ Some (values, []) = ap (elements_in reading) (sym (append-nil (elements spell values))) ∙ elements_back spell Fits reading form values [] fits in
    rw (version_back (elements spell values), whole, end_back) refl

pub list_body_alone : {A : Type 0} (spell : A → List ℕ) (Fits : A → Type 0) (reading : Reading A) → IsForm spell Fits reading → (octets : List ℕ) (values : List A) → IsOctets octets → list_body_in reading octets ≡ Some values → (octets ≡ list_body spell values) × ListFits Fits values
unfolding list_body list_body_in
list_body_alone {A = A} spell Fits reading form octets values fits e =
    let a = bind_some (version_in octets) (λ one. elements_in reading one.1 >>= λ vs. end_in vs.1 >>= λ ended. Some vs.0) values e in
    let b = bind_some (elements_in reading a.0.1) (λ vs. end_in vs.1 >>= λ ended. Some vs.0) values a.2 in
    let c = bind_some (end_in b.0.1) (λ ended. Some b.0.0) values b.2 in
    let one = version_alone octets a.0 fits a.1 in
    let vs = elements_alone spell Fits reading form a.0.1 b.0.0 b.0.1 one.left b.1 in
    let both = then_read octets version a.0.1 (elements spell b.0.0) b.0.1 one vs.0 in
    let whole : octets ≡ version ++ elements spell b.0.0 = read_whole octets (version ++ elements spell b.0.0) b.0.1 both (end_alone b.0.1 c.0 c.1) in
    subst (λ (v : List A). (octets ≡ version ++ elements spell v) × ListFits Fits v) (some_is b.0.0 values c.2) (whole, vs.1)
