-- What a field is, by what was read of it.
use Rattle.std.proofs.Common.{◌≡◌, ℕ, suc, Bool, true, false, cond, not, ◌&&◌, List, [], ◌∷◌, ◌++◌, Option, Some, None, refl, sym, ap, ◌∙◌, append_assoc}
use Rattle.std.specs.Prelude.{is_some, bytes_eq}
use Rattle.std.specs.Option.{option_map}
use Rattle.std.proofs.lemmas.Bool.{false≢true}
use Rattle.std.proofs.lemmas.Option.{same_Some, none-some}
use Rattle.std.proofs.lemmas.List.{append-nil}
use Rattle.mud_base.specs.declared.addr.Addr.{Addr}
use Rattle.mud_base.specs.declared.addr.Mac.{Mac}
use Rattle.mud_url.specs.Url.{is_canonical}
use Rattle.item_codec.specs.Records.{each_in, string_in, version_to_in, end_in, optional_in, elements_in, ◌>>=◌}
use Rattle.table_model.specs.Expiries.{Expiries}
use Rattle.table_model.specs.ItemFields.{expiring_in}
use Rattle.table_model.specs.declared.thing.Thing.{Thing}
use Rattle.table_model.specs.Things.{may_wait, is_sound_thing}
use Rattle.table_model.specs.ThingItems.{hold_in, thing_of}
use Rattle.thing_book.specs.Said.{pending_said}
use Rattle.table_model.proofs.Parts.{if_sound_thing, are_leases}

-- ---- Rows that are read one behind the other

-- what is read behind these rows
unfoldable pub behind : Expiries → Expiries × List ℕ → Expiries × List ℕ
behind rows r = (rows ++ r.0, r.1)

pub first_behind : (o : Option (Expiries × List ℕ)) → o ≡ option_map (behind []) o
unfolding behind
first_behind None = refl
first_behind (Some r) = refl

-- no row is left to be read
pub last_behind : (count left : ℕ) (octets rest : List ℕ) (rows : Expiries) → each_in expiring_in count octets ≡ option_map (behind rows) (each_in expiring_in left rest) → left ≡ 0 → each_in expiring_in count octets ≡ Some (rows, rest)
unfolding behind each_in
last_behind count left octets rest rows e none = e ∙ ap (λ n. option_map (behind rows) (each_in expiring_in n rest)) none ∙ ap (λ all. Some (all, rest)) (append-nil rows)

more_behind : (rows : Expiries) (row : Addr × ℕ) (o : Option (Expiries × List ℕ)) → option_map (behind rows) (o >>= λ others. Some (row ∷ others.0, others.1)) ≡ option_map (behind (rows ++ row ∷ [])) o
unfolding behind
more_behind rows row None = refl
more_behind rows row (Some r) = ap (λ all. Some (all, r.1)) (sym (append_assoc rows (row ∷ []) r.0))

-- one row more is read
pub row_behind : (left n : ℕ) (octets rest : List ℕ) (rows : Expiries) (row : Addr × ℕ) → left ≡ suc n → expiring_in octets ≡ Some (row, rest)
    → option_map (behind rows) (each_in expiring_in left octets) ≡ option_map (behind (rows ++ row ∷ [])) (each_in expiring_in n rest)
unfolding each_in
row_behind left n octets rest rows row one e =
    ap (λ k. option_map (behind rows) (each_in expiring_in k octets)) one
    ∙ ap (λ o. option_map (behind rows) (o >>= λ first. each_in expiring_in n first.1 >>= λ others. Some (first.0 ∷ others.0, others.1))) e
    ∙ more_behind rows row (each_in expiring_in n rest)

-- a row can't be read
pub none_behind : (left n : ℕ) (octets : List ℕ) (rows : Expiries) → left ≡ suc n → expiring_in octets ≡ None → option_map (behind rows) (each_in expiring_in left octets) ≡ None
unfolding each_in
none_behind left n octets rows one e =
    ap (λ k. option_map (behind rows) (each_in expiring_in k octets)) one
    ∙ ap (λ o. option_map (behind rows) (o >>= λ first. each_in expiring_in n first.1 >>= λ others. Some (first.0 ∷ others.0, others.1))) e

-- ---- A body, field by field

some_unit : (o : Option (Unit {0})) → is_some o ≡ true → o ≡ Some tt
some_unit None e = absurd (false≢true e)
some_unit (Some ended) e = refl

none_unit : (o : Option (Unit {0})) → is_some o ≡ false → o ≡ None
none_unit None e = refl
none_unit (Some ended) e = absurd (false≢true (sym e))

module _ (key body : List ℕ) where
  pub no_version : version_to_in 2 body ≡ None → thing_of key body ≡ None
  unfolding thing_of
  no_version e = rw e refl

  module _ (version : ℕ) (r1 : List ℕ) (e1 : version_to_in 2 body ≡ Some (version, r1)) where
    pub no_url : string_in r1 ≡ None → thing_of key body ≡ None
    unfolding thing_of
    no_url e = rw (e1, e) refl

    module _ (url r2 : List ℕ) (e2 : string_in r1 ≡ Some (url, r2)) where
      pub no_pending : optional_in string_in r2 ≡ None → thing_of key body ≡ None
      unfolding thing_of
      no_pending e = rw (e1, e2, e) refl

      module _ (pending : Option (List ℕ)) (r3 : List ℕ) (e3 : optional_in string_in r2 ≡ Some (pending, r3)) where
        pub no_leases : elements_in expiring_in r3 ≡ None → thing_of key body ≡ None
        unfolding thing_of
        no_leases e = rw (e1, e2, e3, e) refl

        module _ (leases : Expiries) (r4 : List ℕ) (e4 : elements_in expiring_in r3 ≡ Some (leases, r4)) where
          pub no_hold : hold_in version r4 ≡ None → thing_of key body ≡ None
          unfolding thing_of
          no_hold e = rw (e1, e2, e3, e4, e) refl

          module _ (held : Bool) (r5 : List ℕ) (e5 : hold_in version r4 ≡ Some (held, r5)) where
            pub not_ended : is_some (end_in r5) ≡ false → thing_of key body ≡ None
            unfolding thing_of
            not_ended e = rw (e1, e2, e3, e4, e5, none_unit (end_in r5) e) refl

            pub all_read : is_some (end_in r5) ≡ true → thing_of key body ≡ Some (record { mac = record { 0 = key }; url = url; pending = pending; leases = leases; held = held })
            unfolding thing_of
            all_read e = rw (e1, e2, e3, e4, e5, some_unit (end_in r5) e) refl

-- ---- Whether it can be kept

pub canonical_none : (b : Bool) (text : List ℕ) → None ≡ cond b (Some text) None → b ≡ false
canonical_none true text e = absurd (none-some text e)
canonical_none false text e = refl

pub canonical_some : (b : Bool) (text url : List ℕ) → Some url ≡ cond b (Some text) None → url ≡ text
canonical_some true text url e = same_Some url text e
canonical_some false text url e = absurd (none-some url (sym e))

pub pending_some : (said pending : Option (List ℕ)) → Some pending ≡ pending_said said → pending ≡ said
unfolding pending_said
pending_some None pending e = same_Some pending None e
pending_some (Some text) pending e = by_test (is_canonical text) e
  where
    by_test : (b : Bool) → Some pending ≡ cond b (Some (Some text)) None → pending ≡ Some text
    by_test true f = same_Some pending (Some text) f
    by_test false f = absurd (none-some pending (sym f))

pub not_url : (thing : Thing) → is_canonical thing.url ≡ false → if_sound_thing thing ≡ None
unfolding is_sound_thing
not_url thing e = ap (λ b. cond (b && may_wait thing.url thing.pending && are_leases thing.leases) (Some thing) None) e

none_waits : (url : List ℕ) (said : Option (List ℕ)) → None ≡ pending_said said → may_wait url said ≡ false
unfolding pending_said may_wait
none_waits url None e = absurd (none-some None e)
none_waits url (Some text) e = by_test (is_canonical text) e
  where
    by_test : (b : Bool) → None ≡ cond b (Some (Some text)) None → (b && not (bytes_eq text url)) ≡ false
    by_test true f = absurd (none-some (Some text) f)
    by_test false f = refl

not_both : (b c d : Bool) → c ≡ false → (b && c && d) ≡ false
not_both true c d e = ap (λ x. x && d) e
not_both false c d e = refl

pub not_pending : (thing : Thing) → None ≡ pending_said thing.pending → if_sound_thing thing ≡ None
unfolding is_sound_thing
not_pending thing e = ap (λ b. cond b (Some thing) None) (not_both (is_canonical thing.url) (may_wait thing.url thing.pending) (are_leases thing.leases) (none_waits thing.url thing.pending e))

-- the Thing that was made of what is said
pub sound_or_not : (mac : Mac) (url url' : List ℕ) (pending pending' : Option (List ℕ)) (leases : Expiries) (held b : Bool) → url ≡ url' → pending ≡ pending'
    → b ≡ is_sound_thing (record { mac = mac; url = url; pending = pending; leases = leases; held = held })
    → cond b (Some (record { mac = mac; url = url; pending = pending; leases = leases; held = held })) None ≡ if_sound_thing (record { mac = mac; url = url'; pending = pending'; leases = leases; held = held })
sound_or_not mac url url' pending pending' leases held b e f g =
    ap (λ t. cond t (Some (record { mac = mac; url = url; pending = pending; leases = leases; held = held })) None) g
    ∙ (λ i. if_sound_thing (record { mac = mac; url = e i; pending = f i; leases = leases; held = held }))
