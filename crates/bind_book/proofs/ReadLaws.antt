-- What is read of bodies, element after element, and which items are of no row.
use Rattle.std.proofs.Common.{◌≡◌, ℕ, zero, suc, ◌+◌, ◌<◌, Bool, true, false, ◌&&◌, cond, List, [], ◌∷◌, ◌++◌, length, Option, Some, None, Result, Ok, Err, refl, sym, ap, subst, ◌∙◌, append_assoc, arith}
use Rattle.std.specs.Prelude.{option_map, IfSome, ◌==◌, nat_lt, nat_le}
use Rattle.table_model.specs.Limits.{most}
use Rattle.std.specs.List.{list_all}
use Rattle.std.specs.Result.{result_ok, is_err}
use Rattle.std.proofs.lemmas.List.{append-nil}
use Rattle.mud_world.specs.declared.item.Item.{Item}
use Rattle.item_codec.specs.declared.fault.CodecFault.{CodecFault}
use Rattle.item_codec.specs.Reading.{Gives, list_at, end_at}
use Rattle.item_codec.specs.Records.{Reading, ◌>>=◌, version_in, end_in, elements_in, each_in, list_body_in}
use Rattle.mud_base.specs.declared.addr.Addr.{Addr}
use Rattle.mud_base.specs.declared.prefix.Prefix.{Prefix}
use Rattle.table_model.specs.declared.bind.Class.{Class}
use Rattle.table_model.specs.ItemFields.{address_in, network_in}
use Rattle.table_model.specs.Binds.{class_row, is_class, is_sound_class, are_prefixes, is_prefix}
use Rattle.table_model.specs.BindItems.{class_of_key, class_in, are_locals, locals_in}
use Rattle.bind_book.specs.Reading.{IsNoClass, count_in, behind}
use Rattle.table_model.proofs.Parts.{if_sound_class, if_sound_locals}

-- ---- A list in a body

module _ {A : Type 0} (value : Reading A) where
  -- the values, where nothing is left behind them
  pub whole : Option (List A × List ℕ) → Option (List A)
  whole o = o >>= λ values. end_in values.1 >>= λ _. Some values.0

  by_list : (o : Option (ℕ × List ℕ)) → ((o >>= λ count. each_in value count.0 count.1) >>= λ values. end_in values.1 >>= λ _. Some values.0) ≡ (o >>= λ count. whole (each_in value count.0 count.1))
  unfolding whole
  by_list None = refl
  by_list (Some count) = refl

  by_version : (o : Option (ℕ × List ℕ)) → (o >>= λ one. elements_in value one.1 >>= λ values. end_in values.1 >>= λ _. Some values.0) ≡ ((o >>= λ one. result_ok (list_at one.1)) >>= λ count. whole (each_in value count.0 count.1))
  unfolding elements_in
  by_version None = refl
  by_version (Some one) = by_list (result_ok (list_at one.1))

  body_split : (octets : List ℕ) → list_body_in value octets ≡ (count_in octets >>= λ count. whole (each_in value count.0 count.1))
  unfolding list_body_in count_in
  body_split octets = by_version (version_in octets)

  pub no_count : (octets : List ℕ) → count_in octets ≡ None → list_body_in value octets ≡ None
  no_count octets none = body_split octets ∙ ap (λ o. o >>= λ count. whole (each_in value count.0 count.1)) none

  -- what is read so far, and what the reader has before it
  abbrev pub IsRest : List ℕ → List A → ℕ → List ℕ → Type 0
  IsRest octets list left rest = list_body_in value octets ≡ whole (option_map (behind list) (each_in value left rest))

  option_map-nothing : (o : Option (List A × List ℕ)) → option_map (behind []) o ≡ o
  option_map-nothing None = refl
  option_map-nothing (Some x) = refl

  pub first_rest : (octets : List ℕ) (count : ℕ) (rest : List ℕ) → count_in octets ≡ Some (count, rest) → IsRest octets [] count rest
  first_rest octets count rest is = body_split octets ∙ ap (λ o. o >>= λ c. whole (each_in value c.0 c.1)) is ∙ ap whole (sym (option_map-nothing (each_in value count rest)))

  pub no_element : (octets : List ℕ) (list : List A) (left : ℕ) (rest : List ℕ) → 0 < left → IsRest octets list left rest → value rest ≡ None → list_body_in value octets ≡ None
  unfolding whole each_in
  no_element octets list zero rest some is none = absurd (omega arith)
  no_element octets list (suc left) rest some is none = is ∙ ap (λ o. whole (option_map (behind list) (o >>= λ first. each_in value left first.1 >>= λ others. Some (first.0 ∷ others.0, others.1)))) none

  one_behind : (list : List A) (x : A) (o : Option (List A × List ℕ)) → option_map (behind list) (o >>= λ others. Some (x ∷ others.0, others.1)) ≡ option_map (behind (list ++ x ∷ [])) o
  one_behind list x None = refl
  one_behind list x (Some others) = ap (λ xs. Some (xs, others.1)) (sym (append_assoc list (x ∷ []) others.0))

  more_at : (octets : List ℕ) (list : List A) (left : ℕ) (rest : List ℕ) (x : A) (after : List ℕ) → IsRest octets list (suc left) rest → value rest ≡ Some (x, after) → IsRest octets (list ++ x ∷ []) left after
  unfolding whole each_in
  more_at octets list left rest x after is found =
      is ∙ ap (λ o. whole (option_map (behind list) (o >>= λ first. each_in value left first.1 >>= λ others. Some (first.0 ∷ others.0, others.1)))) found
      ∙ ap whole (one_behind list x (each_in value left after))

  pub more_rest : (octets : List ℕ) (list : List A) (left next : ℕ) (rest : List ℕ) (x : A) (after : List ℕ) → left ≡ next + 1 → IsRest octets list left rest → value rest ≡ Some (x, after) → IsRest octets (list ++ x ∷ []) next after
  more_rest octets list left next rest x after e is found =
      let one_more : left ≡ suc next = omega arith in
      more_at octets list next rest x after (subst (λ n. IsRest octets list n rest) one_more is) found

  ended : (octets : List ℕ) (list : List A) (rest : List ℕ) → IsRest octets list zero rest → list_body_in value octets ≡ (end_in rest >>= λ _. Some list)
  unfolding whole each_in
  ended octets list rest is = is ∙ ap (λ xs. end_in rest >>= λ _. Some xs) (append-nil list)

  -- the reader is at its end, or isn't
  pub whole_list : (octets : List ℕ) (list : List A) (left : ℕ) (rest : List ℕ) (r : Result (Unit {0}) CodecFault) → left ≡ 0 → IsRest octets list left rest → Gives (λ (_ : Unit {0}). tt) r (end_at rest) → is_err r ≡ false → list_body_in value octets ≡ Some list
  unfolding end_in
  whole_list octets list left rest (Ok x) e is end ok = ended octets list rest (subst (λ n. IsRest octets list n rest) e is) ∙ ap (λ r. result_ok r >>= λ _. Some list) end
  whole_list octets list left rest (Err fault) e is end ok = absurd cc

  pub more_behind : (octets : List ℕ) (list : List A) (left : ℕ) (rest : List ℕ) (r : Result (Unit {0}) CodecFault) → left ≡ 0 → IsRest octets list left rest → Gives (λ (_ : Unit {0}). tt) r (end_at rest) → is_err r ≡ true → list_body_in value octets ≡ None
  unfolding end_in
  more_behind octets list left rest (Ok x) e is end bad = absurd cc
  more_behind octets list left rest (Err fault) e is end bad = ended octets list rest (subst (λ n. IsRest octets list n rest) e is) ∙ ap (λ r. result_ok r >>= λ _. Some list) end

-- ---- Items of no row

unsound : (class : Class) (addrs : List Addr) → is_class class ≡ false → if_sound_class (class_row class addrs) ≡ None
unfolding is_sound_class class_row
unsound class addrs fails = rw fails refl

no_row : (class : Class) (o : Option (List Addr)) → is_class class ≡ false → (o >>= λ addrs. if_sound_class (class_row class addrs)) ≡ None
no_row class None fails = refl
no_row class (Some addrs) fails = unsound class addrs fails

by_key : (o : Option Class) (body : Option (List Addr)) → IfSome o (λ class. is_class class ≡ false) → (o >>= λ class. body >>= λ addrs. if_sound_class (class_row class addrs)) ≡ None
by_key None body fails = refl
by_key (Some class) body fails = no_row class body fails

-- the item of a key that is of no class
pub no_class : (item : Item) → IsNoClass item.key → class_in item ≡ None
unfolding class_in
no_class item fails = by_kind (item.kind == 3)
  where
    by_kind : (b : Bool) → cond b (class_of_key item.key >>= λ class. list_body_in address_in item.body >>= λ addrs. if_sound_class (class_row class addrs)) None ≡ None
    by_kind true = by_key (class_of_key item.key) (list_body_in address_in item.body) fails
    by_kind false = refl

unsound_locals : (locals : List Prefix) → list_all is_prefix locals ≡ false → if_sound_locals locals ≡ None
unfolding are_locals
unsound_locals locals fails = ap (λ b. cond b (Some locals) None) (all_false (are_prefixes locals) (list_all is_prefix locals) (nat_lt 0 (length locals)) (nat_le (length locals) most.locals) fails)
  where
    all_false : (a b c d : Bool) → b ≡ false → (a && b && c && d) ≡ false
    all_false true b c d e = ap (λ x. x && c && d) e
    all_false false b c d e = refl

-- the item of local networks of which one is no prefix
pub no_locals : (item : Item) (locals : List Prefix) → list_body_in network_in item.body ≡ Some locals → list_all is_prefix locals ≡ false → locals_in item ≡ None
unfolding locals_in
no_locals item locals read fails = by_kind (item.kind == 4 && length item.key == 0)
  where
    by_kind : (b : Bool) → cond b (list_body_in network_in item.body >>= λ ls. if_sound_locals ls) None ≡ None
    by_kind true = ap (λ o. o >>= λ ls. if_sound_locals ls) read ∙ unsound_locals locals fails
    by_kind false = refl
