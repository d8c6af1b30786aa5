-- What is kept in an item is read back from it, and nothing else reads.
use Rattle.std.proofs.Common.{◌≡◌, ℕ, ◌+◌, ◌*◌, ◌/◌, ◌%◌, ◌^◌, ◌<◌, ◌≤◌, leb, Bool, true, false, ◌&&◌, cond, eqb, List, [], ◌∷◌, ◌++◌, length, Option, Some, None, refl, sym, ap, subst, ◌∙◌, append_assoc, arith, inl, inr, lit<, lit≤, ◌⊎◌}
use Rattle.std.proofs.lemmas.Bool.{eqb-true, eqb-false, cases_lt, leb-true, le-leb, and_parts}
use Rattle.std.proofs.lemmas.List.{append-nil, nil_from_length}
use Rattle.mud_base.specs.declared.addr.Addr.{Addr}
use Rattle.mud_base.specs.declared.addr.Addr.TheVariants.{V4, V6}
use Rattle.mud_base.specs.declared.prefix.Prefix.{Prefix}
use Rattle.mud_world.specs.declared.item.Item.{Item}
use Rattle.mud_world.specs.Items.{AreItemsOf}
use Rattle.mud_world.proofs.ItemLaws.{same_item}
use Rattle.mud_base.specs.Numbers.{IsOctets}
use Rattle.item_codec.specs.Spelling.{number, string, version, version_of}
use Rattle.item_codec.specs.Reading.{IsRead}
use Rattle.item_codec.specs.Records.{◌>>=◌, number_in, string_in, version_to_in, version_in, end_in, optional, optional_in, elements, elements_in, list_body, list_body_in, IsForm, OptionFits, ListFits}
use Rattle.item_codec.proofs.FieldLaws.{then_read, read_whole}
use Rattle.item_codec.proofs.RecordLaws.{some_is, bind_some, pass_some, chosen, number_form, string_form, optional_form, elements_form, version_to_back, version_to_alone, version_back, version_alone, end_alone, end_back, list_body_back, list_body_alone, pair_form}
use Rattle.table_model.specs.declared.thing.Thing.{Thing}
use Rattle.table_model.specs.declared.bind.Class.{Class}
use Rattle.table_model.specs.declared.bind.Class.TheVariants.{Uri, Mine}
use Rattle.table_model.specs.declared.bind.ClassRow.{ClassRow}
use Rattle.table_model.specs.declared.bind.NameRow.{NameRow}
use Rattle.table_model.specs.Expiries.{Expiries}
use Rattle.table_model.specs.Fits.{FitsThing}
use Rattle.table_model.specs.Things.{is_sound_thing, IsKeptThing, mac_of}
use Rattle.table_model.specs.Binds.{key_of_class, class_key, class_row, is_sound_class, name_row, is_sound_name, IsKeptClass, IsKeptName}
use Rattle.table_model.specs.BindItems.{class_item, class_of_key, class_in, locals_item, are_locals, locals_in, name_item, name_in, stamp_item, moment_of_body, stamp_in, IsKeptLocals, IsClassItem, IsLocalsItem, IsNameItem}
use Rattle.table_model.specs.ItemFields.{address, v4_in, v6_in, address_in, IsAddr, expiring, expiring_in, IsExpiring, network_in, IsNetwork}
use Rattle.table_model.specs.ThingItems.{thing_fields, hold_octet, thing_body, thing_item, first_thing_item, hold_in, thing_of, thing_in, IsThingItem}
use Rattle.table_model.proofs.Parts.{if_sound_class, if_sound_locals, if_sound_name, if_moment, network, if_sound_thing}

-- ---- Addresses

abbrev octet_form : IsForm (number 1) (λ n. n < 256 ^ 1) (number_in 1)
octet_form = number_form 1 refl

abbrev four_form : IsForm (number 4) (λ n. n < 256 ^ 4) (number_in 4)
four_form = number_form 4 refl

abbrev eight_form : IsForm (number 8) (λ n. n < 256 ^ 8) (number_in 8)
eight_form = number_form 8 refl

-- sixteen octets as two numbers
two_halves : (n : ℕ) → (n / 2 ^ 64) * 2 ^ 64 + n % 2 ^ 64 ≡ n
two_halves n = omega arith

address_back : (a : Addr) (rest : List ℕ) → IsAddr a → address_in (address a ++ rest) ≡ Some (a, rest)
unfolding address address_in v4_in v6_in
address_back (V4 n) rest fits =
    ap address_in (append_assoc (number 1 4) (number 4 n) rest)
    ∙ rw (octet_form.back 4 (number 4 n ++ rest) (lit< tt), four_form.back n rest fits) refl
address_back (V6 n) rest fits =
    let high : n / 2 ^ 64 < 256 ^ 8 = omega arith in
    let low : n % 2 ^ 64 < 256 ^ 8 = omega arith in
    ap address_in (append_assoc (number 1 6) (number 8 (n / 2 ^ 64) ++ number 8 (n % 2 ^ 64)) rest ∙ ap (λ (t : List ℕ). number 1 6 ++ t) (append_assoc (number 8 (n / 2 ^ 64)) (number 8 (n % 2 ^ 64)) rest))
    ∙ rw (octet_form.back 6 (number 8 (n / 2 ^ 64) ++ (number 8 (n % 2 ^ 64) ++ rest)) (lit< tt), eight_form.back (n / 2 ^ 64) (number 8 (n % 2 ^ 64) ++ rest) high, eight_form.back (n % 2 ^ 64) rest low)
    (ap (λ (k : ℕ). Some (V6 k, rest)) (two_halves n))

abbrev IsAddressRead : List ℕ → Addr × List ℕ → Type 0
IsAddressRead octets x = IsRead octets (address x.0) x.1 × IsAddr x.0

v4_read : (octets behind rest : List ℕ) (n : ℕ) → IsRead octets (number 1 4) behind → IsRead behind (number 4 n) rest → n < 2 ^ 32 → IsAddressRead octets (V4 n, rest)
unfolding address
v4_read octets behind rest n flag read fits = (then_read octets (number 1 4) behind (number 4 n) rest flag read, fits)

v4_alone : (octets behind : List ℕ) (x : Addr × List ℕ) → IsRead octets (number 1 4) behind → v4_in behind ≡ Some x → IsAddressRead octets x
unfolding v4_in
v4_alone octets behind x flag e =
    let a = bind_some (number_in 4 behind) (λ n. Some (V4 n.0, n.1)) x e in
    let n = four_form.alone behind a.0.0 a.0.1 flag.left a.1 in
    subst (λ (y : Addr × List ℕ). IsAddressRead octets y) (some_is (V4 a.0.0, a.0.1) x a.2) (v4_read octets behind a.0.1 a.0.0 flag n.0 n.1)

v6_read : (octets behind middle rest : List ℕ) (high low : ℕ) → IsRead octets (number 1 6) behind → IsRead behind (number 8 high) middle → IsRead middle (number 8 low) rest → high < 2 ^ 64 → low < 2 ^ 64 → IsAddressRead octets (V6 (high * 2 ^ 64 + low), rest)
unfolding address
v6_read octets behind middle rest high low flag read_high read_low fits_high fits_low =
    let high_is : (high * 2 ^ 64 + low) / 2 ^ 64 ≡ high = omega arith in
    let low_is : (high * 2 ^ 64 + low) % 2 ^ 64 ≡ low = omega arith in
    let halves = then_read behind (number 8 high) middle (number 8 low) rest read_high read_low in
    let all = then_read octets (number 1 6) behind (number 8 high ++ number 8 low) rest flag halves in (
      subst (λ (k : ℕ). IsRead octets (number 1 6 ++ (number 8 k ++ number 8 ((high * 2 ^ 64 + low) % 2 ^ 64))) rest) (sym high_is)
          (subst (λ (k : ℕ). IsRead octets (number 1 6 ++ (number 8 high ++ number 8 k)) rest) (sym low_is) all),
      omega arith,
    )

v6_alone : (octets behind : List ℕ) (x : Addr × List ℕ) → IsRead octets (number 1 6) behind → v6_in behind ≡ Some x → IsAddressRead octets x
unfolding v6_in
v6_alone octets behind x flag e =
    let a = bind_some (number_in 8 behind) (λ high. number_in 8 high.1 >>= λ low. Some (V6 (high.0 * 2 ^ 64 + low.0), low.1)) x e in
    let b = bind_some (number_in 8 a.0.1) (λ low. Some (V6 (a.0.0 * 2 ^ 64 + low.0), low.1)) x a.2 in
    let high = eight_form.alone behind a.0.0 a.0.1 flag.left a.1 in
    let low = eight_form.alone a.0.1 b.0.0 b.0.1 high.0.left b.1 in
    subst (λ (y : Addr × List ℕ). IsAddressRead octets y) (some_is (V6 (a.0.0 * 2 ^ 64 + b.0.0), b.0.1) x b.2) (v6_read octets behind a.0.1 b.0.1 a.0.0 b.0.0 flag high.0 low.0 high.1 low.1)

address_alone : (octets : List ℕ) (x : Addr × List ℕ) → IsOctets octets → address_in octets ≡ Some x → IsAddressRead octets x
unfolding address_in
address_alone octets x fits e =
    let b = bind_some (number_in 1 octets) (λ v. cond (eqb v.0 4) (v4_in v.1) (cond (eqb v.0 6) (v6_in v.1) None)) x e in
    let n = octet_form.alone octets b.0.0 b.0.1 fits b.1 in
    elim (chosen (eqb b.0.0 4) (v4_in b.0.1) (cond (eqb b.0.0 6) (v6_in b.0.1) None) (Some x) b.2) [
      | inl four ↦
          let flag : IsRead octets (number 1 4) b.0.1 = subst (λ (k : ℕ). IsRead octets (number 1 k) b.0.1) (eqb-true b.0.0 4 four.0) n.0 in
          v4_alone octets b.0.1 x flag four.1
      | inr other ↦
          let six = pass_some (eqb b.0.0 6) x (v6_in b.0.1) other.1 in
          let flag : IsRead octets (number 1 6) b.0.1 = subst (λ (k : ℕ). IsRead octets (number 1 k) b.0.1) (eqb-true b.0.0 6 six.0) n.0 in
          v6_alone octets b.0.1 x flag six.1
    ]

pub address_form : IsForm address IsAddr address_in
address_form = record { back = address_back; alone = λ octets a rest fits e. address_alone octets (a, rest) fits e }

-- ---- Addresses with expiries, and prefixes

pub expiring_form : IsForm expiring IsExpiring expiring_in
unfolding expiring expiring_in
expiring_form =
    pair_form address IsAddr address_in (number 8) (λ n. n < 256 ^ 8) (number_in 8)
    (λ (a : Addr) (n : ℕ). (a, n)) (λ (r : Addr × ℕ). r.0) (λ (r : Addr × ℕ). r.1) (λ _. refl) (λ _ _. refl) (λ _ _. refl) address_form eight_form

make_prefix : Addr → ℕ → Prefix
make_prefix a len = record { addr = a; len = len }

pub network_form : IsForm network IsNetwork network_in
unfolding network_in make_prefix
network_form =
    pair_form address IsAddr address_in (number 1) (λ n. n < 256 ^ 1) (number_in 1)
    make_prefix (λ (p : Prefix). p.addr) (λ (p : Prefix). p.len) (λ _. refl) (λ _ _. refl) (λ _ _. refl) address_form octet_form

-- ---- Things

abbrev url_form : IsForm (optional string) (OptionFits (λ s. length s < 2 ^ 32)) (optional_in string_in)
url_form = optional_form string (λ s. length s < 2 ^ 32) string_in string_form

abbrev leases_form : IsForm (elements expiring) (ListFits IsExpiring) (elements_in expiring_in)
leases_form = elements_form expiring IsExpiring expiring_in expiring_form

abbrev some_pair : Bool → Option (Bool × List ℕ)
some_pair b = Some (b, [])

second_of_two : (n : ℕ) → 1 ≤ n → n ≤ 2 → (n ≡ 1 → ⊥) → n ≡ 2
second_of_two n least most other =
    elim (cases_lt n 2) [
      | inl lt ↦ absurd (other (omega (arith, least, lt)))
      | inr le ↦ omega (arith, most, le)
    ]

-- one octet with nothing behind it
octet_alone : (n : ℕ) → n < 256 ^ 1 → number_in 1 (number 1 n) ≡ Some (n, [])
octet_alone n below = ap (number_in 1) (sym (append-nil (number 1 n))) ∙ octet_form.back n [] below

-- what both versions say, with more behind it, field by field
fields_behind : (thing : Thing) (rest : List ℕ) → thing_fields thing ++ rest ≡ string thing.url ++ (optional string thing.pending ++ (elements expiring thing.leases ++ rest))
unfolding thing_fields
fields_behind thing rest =
    append_assoc (string thing.url) (optional string thing.pending ++ elements expiring thing.leases) rest
    ∙ ap (λ (t : List ℕ). string thing.url ++ t) (append_assoc (optional string thing.pending) (elements expiring thing.leases) rest)

-- a body of either version, with its hold
thing_of_back : (version : ℕ) (thing : Thing) (hold : List ℕ) → 1 ≤ version → version ≤ 2 → FitsThing thing → hold_in version hold ≡ Some (thing.held, []) → thing_of thing.mac.0 (version_of version ++ (thing_fields thing ++ hold)) ≡ Some thing
unfolding thing_of
thing_of_back version thing hold least most fits held =
    ap (λ (t : List ℕ). thing_of thing.mac.0 (version_of version ++ t)) (fields_behind thing hold)
    ∙ rw (
      version_to_back 2 version (string thing.url ++ (optional string thing.pending ++ (elements expiring thing.leases ++ hold))) least most (omega (arith, most)),
      string_form.back thing.url (optional string thing.pending ++ (elements expiring thing.leases ++ hold)) fits.url,
      url_form.back thing.pending (elements expiring thing.leases ++ hold) fits.pending,
      leases_form.back thing.leases hold fits.leases,
      held,
      end_back,
    ) refl

hold_back : (held : Bool) → hold_in 2 (hold_octet held) ≡ Some (held, [])
unfolding hold_in hold_octet
hold_back true = rw (octet_alone 1 (lit< tt)) refl
hold_back false = rw (octet_alone 0 (lit< tt)) refl

no_hold_back : hold_in 1 [] ≡ Some (false, [])
unfolding hold_in
no_hold_back = refl

-- the octet of version 2, or none
abbrev HoldRead : ℕ → List ℕ → Bool × List ℕ → Type 0
HoldRead version octets x = ((version ≡ 1) × ((false, octets) ≡ x)) ⊎ ((version ≡ 1 → ⊥) × IsRead octets (hold_octet x.0) x.1)

flag_read : (version : ℕ) (octets : List ℕ) (x : Bool × List ℕ) → (version ≡ 1 → ⊥) → (flag : ℕ × List ℕ) → IsRead octets (number 1 flag.0) flag.1 → cond (eqb flag.0 0) (Some (false, flag.1)) (cond (eqb flag.0 1) (Some (true, flag.1)) None) ≡ Some x → HoldRead version octets x
unfolding hold_octet
flag_read version octets x second flag read e =
    elim (chosen (eqb flag.0 0) (Some (false, flag.1)) (cond (eqb flag.0 1) (Some (true, flag.1)) None) (Some x) e) [
      | inl free ↦ subst (λ (y : Bool × List ℕ). HoldRead version octets y) (some_is (false, flag.1) x free.1) (inr (second, subst (λ (k : ℕ). IsRead octets (number 1 k) flag.1) (eqb-true flag.0 0 free.0) read))
      | inr other ↦
          let held = pass_some (eqb flag.0 1) x (Some (true, flag.1)) other.1 in
          subst (λ (y : Bool × List ℕ). HoldRead version octets y) (some_is (true, flag.1) x held.1) (inr (second, subst (λ (k : ℕ). IsRead octets (number 1 k) flag.1) (eqb-true flag.0 1 held.0) read))
    ]

hold_alone : (version : ℕ) (octets : List ℕ) (x : Bool × List ℕ) → IsOctets octets → hold_in version octets ≡ Some x → HoldRead version octets x
unfolding hold_in
hold_alone version octets x fits e =
    elim (chosen (eqb version 1) (Some (false, octets)) (number_in 1 octets >>= λ flag. cond (eqb flag.0 0) (Some (false, flag.1)) (cond (eqb flag.0 1) (Some (true, flag.1)) None)) (Some x) e) [
      | inl first ↦ inl (eqb-true version 1 first.0, some_is (false, octets) x first.1)
      | inr second ↦
          let flag = bind_some (number_in 1 octets) (λ flag. cond (eqb flag.0 0) (Some (false, flag.1)) (cond (eqb flag.0 1) (Some (true, flag.1)) None)) x second.1 in
          flag_read version octets x (eqb-false version 1 second.0) flag.0 (octet_form.alone octets flag.0.0 flag.0.1 fits flag.1).0 flag.2
    ]

-- the body is that of the Thing, in version 2 or 1
abbrev IsThingBody : List ℕ → Thing → Type 0
IsThingBody body thing = (body ≡ thing_body thing) ⊎ ((body ≡ version_of 1 ++ thing_fields thing) × (thing.held ≡ false))

-- fields with a hold, or without one
by_version : (body : List ℕ) (version : ℕ) (thing : Thing) (behind : List ℕ) (hold : Bool × List ℕ) → 1 ≤ version → version ≤ 2 → IsRead body (version_of version ++ thing_fields thing) behind → HoldRead version behind hold → hold.1 ≡ [] → thing.held ≡ hold.0 → IsThingBody body thing
unfolding thing_body
by_version body version thing behind hold least most read (inl (one, none)) ended held =
    let nothing : behind ≡ [] = ap (λ (p : Bool × List ℕ). p.1) none ∙ ended in
    inr (subst (λ (k : ℕ). body ≡ version_of k ++ thing_fields thing) one (read_whole body (version_of version ++ thing_fields thing) behind read nothing), held ∙ sym (ap (λ (p : Bool × List ℕ). p.0) none))
by_version body version thing behind hold least most read (inr (second, octet)) ended held =
    let two : version ≡ 2 = second_of_two version least most second in
    let whole : body ≡ (version_of version ++ thing_fields thing) ++ hold_octet hold.0 = read_whole body ((version_of version ++ thing_fields thing) ++ hold_octet hold.0) hold.1 (then_read body (version_of version ++ thing_fields thing) behind (hold_octet hold.0) hold.1 read octet) ended in
    inl (whole ∙ append_assoc (version_of version) (thing_fields thing) (hold_octet hold.0) ∙ ap (λ (k : ℕ). version_of k ++ (thing_fields thing ++ hold_octet hold.0)) two ∙ ap (λ (b : Bool). version_of 2 ++ (thing_fields thing ++ hold_octet b)) (sym held))

-- the key and the body are those of the Thing
record IsThingRead (key body : List ℕ) (thing : Thing) : Type 0 where
  key_is : key ≡ thing.mac.0
  body_is : IsThingBody body thing
  fits : FitsThing thing

abbrev read_thing : List ℕ → List ℕ → Option (List ℕ) → Expiries → Bool → Thing
read_thing key url pending leases held = record { mac = record { 0 = key }; url = url; pending = pending; leases = leases; held = held }

thing_of_alone : (key body : List ℕ) (thing : Thing) → length key ≡ 6 → IsOctets body → thing_of key body ≡ Some thing → IsThingRead key body thing
unfolding thing_of thing_fields
thing_of_alone key body thing six fits e =
    let a = bind_some (version_to_in 2 body) (λ version. string_in version.1 >>= λ url. optional_in string_in url.1 >>= λ pending. elements_in expiring_in pending.1 >>= λ leases. hold_in version.0 leases.1 >>= λ held. end_in held.1 >>= λ ended. Some (read_thing key url.0 pending.0 leases.0 held.0)) thing e in
    let b = bind_some (string_in a.0.1) (λ url. optional_in string_in url.1 >>= λ pending. elements_in expiring_in pending.1 >>= λ leases. hold_in a.0.0 leases.1 >>= λ held. end_in held.1 >>= λ ended. Some (read_thing key url.0 pending.0 leases.0 held.0)) thing a.2 in
    let c = bind_some (optional_in string_in b.0.1) (λ pending. elements_in expiring_in pending.1 >>= λ leases. hold_in a.0.0 leases.1 >>= λ held. end_in held.1 >>= λ ended. Some (read_thing key b.0.0 pending.0 leases.0 held.0)) thing b.2 in
    let d = bind_some (elements_in expiring_in c.0.1) (λ leases. hold_in a.0.0 leases.1 >>= λ held. end_in held.1 >>= λ ended. Some (read_thing key b.0.0 c.0.0 leases.0 held.0)) thing c.2 in
    let h = bind_some (hold_in a.0.0 d.0.1) (λ held. end_in held.1 >>= λ ended. Some (read_thing key b.0.0 c.0.0 d.0.0 held.0)) thing d.2 in
    let f = bind_some (end_in h.0.1) (λ ended. Some (read_thing key b.0.0 c.0.0 d.0.0 h.0.0)) thing h.2 in
    let version = version_to_alone 2 body a.0 fits a.1 in
    let url = string_form.alone a.0.1 b.0.0 b.0.1 version.read.left b.1 in
    let pending = url_form.alone b.0.1 c.0.0 c.0.1 url.0.left c.1 in
    let leases = leases_form.alone c.0.1 d.0.0 d.0.1 pending.0.left d.1 in
    let hold = hold_alone a.0.0 d.0.1 h.0 leases.0.left h.1 in
    let read_2 = then_read b.0.1 (optional string c.0.0) c.0.1 (elements expiring d.0.0) d.0.1 pending.0 leases.0 in
    let read_1 = then_read a.0.1 (string b.0.0) b.0.1 (optional string c.0.0 ++ elements expiring d.0.0) d.0.1 url.0 read_2 in
    let made : Thing = read_thing key b.0.0 c.0.0 d.0.0 h.0.0 in
    let read_0 : IsRead body (version_of a.0.0 ++ thing_fields made) d.0.1 = then_read body (version_of a.0.0) a.0.1 (string b.0.0 ++ (optional string c.0.0 ++ elements expiring d.0.0)) d.0.1 version.read read_1 in
    subst (λ (t : Thing). IsThingRead key body t) {x = made} (some_is made thing f.2)
    (record {
      key_is = refl;
      body_is = by_version body a.0.0 made d.0.1 h.0 version.least version.most read_0 hold (end_alone h.0.1 f.0 f.1) (refl {a = h.0.0});
      fits = record { mac = six; url = url.1; pending = pending.1; leases = leases.1 };
    })

pub thing_back : (thing : Thing) → IsKeptThing thing → thing_in (thing_item thing) ≡ Some thing
unfolding thing_in thing_item thing_body
thing_back thing kept = rw (kept.fits.mac, thing_of_back 2 thing (hold_octet thing.held) (lit≤ tt) (lit≤ tt) kept.fits (hold_back thing.held), kept.sound) refl

pub first_thing_back : (thing : Thing) → IsKeptThing thing → thing.held ≡ false → thing_in (first_thing_item thing) ≡ Some thing
unfolding thing_in first_thing_item
first_thing_back thing kept free =
    let read : thing_of thing.mac.0 (version_of 1 ++ thing_fields thing) ≡ Some thing =
    ap (λ (t : List ℕ). thing_of thing.mac.0 (version_of 1 ++ t)) (sym (append-nil (thing_fields thing)))
    ∙ thing_of_back 1 thing [] (lit≤ tt) (lit≤ tt) kept.fits (no_hold_back ∙ ap (λ (b : Bool). some_pair b) (sym free)) in
    rw (kept.fits.mac, read, kept.sound) refl

-- an item with that key and body
item_of_body : (item : Item) (thing : Thing) → item.kind ≡ 1 → item.key ≡ thing.mac.0 → IsThingBody item.body thing → (item ≡ thing_item thing) ⊎ ((item ≡ first_thing_item thing) × (thing.held ≡ false))
unfolding thing_item first_thing_item
item_of_body item thing kind key (inl second) = inl (same_item item 1 thing.mac.0 (thing_body thing) kind key second)
item_of_body item thing kind key (inr (first, free)) = inr (same_item item 1 thing.mac.0 (version_of 1 ++ thing_fields thing) kind key first, free)

pub thing_alone : (item : Item) (thing : Thing) → IsOctets item.body → thing_in item ≡ Some thing → IsThingItem item thing
unfolding thing_in
thing_alone item thing octets e =
    let form = pass_some (eqb item.kind 1 && eqb (length item.key) 6) thing (thing_of item.key item.body >>= if_sound_thing) e in
    let tests = and_parts (eqb item.kind 1) (eqb (length item.key) 6) form.0 in
    let t = bind_some (thing_of item.key item.body) if_sound_thing thing form.1 in
    let s = pass_some (is_sound_thing t.0) thing (Some t.0) t.2 in
    let read = thing_of_alone item.key item.body t.0 (eqb-true (length item.key) 6 tests.1) octets t.1 in
    subst (λ (x : Thing). IsThingItem item x) (some_is t.0 thing s.1)
    (record { same = item_of_body item t.0 (eqb-true item.kind 1 tests.0) read.key_is read.body_is; kept = record { sound = s.0; fits = read.fits } })

-- ---- Classes

key_back : (c : Class) → class_of_key (key_of_class c) ≡ Some c
unfolding class_of_key key_of_class
key_back (Uri uri) = refl
key_back (Mine url) = refl

key_alone : (key : List ℕ) (c : Class) → class_of_key key ≡ Some c → key ≡ key_of_class c
unfolding class_of_key key_of_class
key_alone [] c e = absurd cc
key_alone (which ∷ text) c e =
    elim (chosen (eqb which 1) (Some (Uri text)) (cond (eqb which 2) (Some (Mine text)) None) (Some c) e) [
      | inl one ↦ subst (λ (d : Class). which ∷ text ≡ key_of_class d) (some_is (Uri text) c one.1) (ap (λ (n : ℕ). n ∷ text) (eqb-true which 1 one.0))
      | inr other ↦
          let two = pass_some (eqb which 2) c (Some (Mine text)) other.1 in
          subst (λ (d : Class). which ∷ text ≡ key_of_class d) (some_is (Mine text) c two.1) (ap (λ (n : ℕ). n ∷ text) (eqb-true which 2 two.0))
    ]

pub class_back : (row : ClassRow) → IsKeptClass row → class_in (class_item row) ≡ Some row
unfolding class_in class_item class_key class_row
class_back row kept = rw (key_back row.class, list_body_back address IsAddr address_in address_form row.addrs kept.fits, kept.sound) refl

pub class_alone : (item : Item) (row : ClassRow) → IsOctets item.body → class_in item ≡ Some row → IsClassItem item row
unfolding class_in class_item class_key class_row
class_alone item row octets e =
    let kind = pass_some (eqb item.kind 3) row (class_of_key item.key >>= λ c. list_body_in address_in item.body >>= λ addrs. if_sound_class (class_row c addrs)) e in
    let c = bind_some (class_of_key item.key) (λ c. list_body_in address_in item.body >>= λ addrs. if_sound_class (class_row c addrs)) row kind.1 in
    let addrs = bind_some (list_body_in address_in item.body) (λ addrs. if_sound_class (class_row c.0 addrs)) row c.2 in
    let s = pass_some (is_sound_class (class_row c.0 addrs.0)) row (Some (class_row c.0 addrs.0)) addrs.2 in
    let body = list_body_alone address IsAddr address_in address_form item.body addrs.0 octets addrs.1 in
    subst (λ (x : ClassRow). IsClassItem item x) (some_is (class_row c.0 addrs.0) row s.1)
    (record { same = same_item item 3 (key_of_class c.0) (list_body address addrs.0) (eqb-true item.kind 3 kind.0) (key_alone item.key c.0 c.1) body.0; kept = record { sound = s.0; fits = body.1 } })

-- ---- Local networks

pub locals_back : (locals : List Prefix) → IsKeptLocals locals → locals_in (locals_item locals) ≡ Some locals
unfolding locals_in locals_item
locals_back locals kept = rw (list_body_back network IsNetwork network_in network_form locals kept.fits, kept.sound) refl

pub locals_alone : (item : Item) (locals : List Prefix) → IsOctets item.body → locals_in item ≡ Some locals → IsLocalsItem item locals
unfolding locals_in locals_item
locals_alone item locals octets e =
    let form = pass_some (eqb item.kind 4 && eqb (length item.key) 0) locals (list_body_in network_in item.body >>= if_sound_locals) e in
    let tests = and_parts (eqb item.kind 4) (eqb (length item.key) 0) form.0 in
    let l = bind_some (list_body_in network_in item.body) if_sound_locals locals form.1 in
    let s = pass_some (are_locals l.0) locals (Some l.0) l.2 in
    let body = list_body_alone network IsNetwork network_in network_form item.body l.0 octets l.1 in
    subst (λ (x : List Prefix). IsLocalsItem item x) (some_is l.0 locals s.1)
    (record { same = same_item item 4 [] (list_body network l.0) (eqb-true item.kind 4 tests.0) (nil_from_length item.key (eqb-true (length item.key) 0 tests.1)) body.0; kept = record { sound = s.0; fits = body.1 } })

-- ---- Names

pub name_back : (row : NameRow) → IsKeptName row → name_in (name_item row) ≡ Some row
unfolding name_in name_item name_row
name_back row kept = rw (list_body_back expiring IsExpiring expiring_in expiring_form row.addrs kept.fits, kept.sound) refl

pub name_alone : (item : Item) (row : NameRow) → IsOctets item.body → name_in item ≡ Some row → IsNameItem item row
unfolding name_in name_item name_row
name_alone item row octets e =
    let kind = pass_some (eqb item.kind 5) row (list_body_in expiring_in item.body >>= λ addrs. if_sound_name (name_row item.key addrs)) e in
    let addrs = bind_some (list_body_in expiring_in item.body) (λ addrs. if_sound_name (name_row item.key addrs)) row kind.1 in
    let s = pass_some (is_sound_name (name_row item.key addrs.0)) row (Some (name_row item.key addrs.0)) addrs.2 in
    let body = list_body_alone expiring IsExpiring expiring_in expiring_form item.body addrs.0 octets addrs.1 in
    subst (λ (x : NameRow). IsNameItem item x) (some_is (name_row item.key addrs.0) row s.1)
    (record { same = same_item item 5 item.key (list_body expiring addrs.0) (eqb-true item.kind 5 kind.0) refl body.0; kept = record { sound = s.0; fits = body.1 } })

-- ---- The stamp

moment_back : (moment : ℕ) → moment < 2 ^ 64 → moment_of_body (version ++ number 8 moment) ≡ Some moment
unfolding moment_of_body
moment_back moment below =
    let whole : number_in 8 (number 8 moment) ≡ Some (moment, []) = ap (number_in 8) (sym (append-nil (number 8 moment))) ∙ eight_form.back moment [] below in
    rw (version_back (number 8 moment), whole, end_back) refl

moment_alone : (body : List ℕ) (moment : ℕ) → IsOctets body → moment_of_body body ≡ Some moment → body ≡ version ++ number 8 moment
unfolding moment_of_body
moment_alone body moment octets e =
    let a = bind_some (version_in body) (λ one. number_in 8 one.1 >>= λ m. end_in m.1 >>= λ ended. Some m.0) moment e in
    let b = bind_some (number_in 8 a.0.1) (λ m. end_in m.1 >>= λ ended. Some m.0) moment a.2 in
    let c = bind_some (end_in b.0.1) (λ ended. Some b.0.0) moment b.2 in
    let one = version_alone body a.0 octets a.1 in
    let m = eight_form.alone a.0.1 b.0.0 b.0.1 one.left b.1 in
    let both = then_read body version a.0.1 (number 8 b.0.0) b.0.1 one m.0 in
    read_whole body (version ++ number 8 b.0.0) b.0.1 both (end_alone b.0.1 c.0 c.1) ∙ ap (λ (k : ℕ). version ++ number 8 k) (some_is b.0.0 moment c.2)

pub stamp_back : (moment : ℕ) → moment ≤ 253402300799 → stamp_in (stamp_item moment) ≡ Some moment
unfolding stamp_in stamp_item
stamp_back moment within = rw (moment_back moment (omega arith), le-leb moment 253402300799 within) refl

pub stamp_alone : (item : Item) (moment : ℕ) → IsOctets item.body → stamp_in item ≡ Some moment → (item ≡ stamp_item moment) × (moment ≤ 253402300799)
unfolding stamp_in stamp_item
stamp_alone item moment octets e =
    let form = pass_some (eqb item.kind 6 && eqb (length item.key) 0) moment (moment_of_body item.body >>= if_moment) e in
    let tests = and_parts (eqb item.kind 6) (eqb (length item.key) 0) form.0 in
    let m = bind_some (moment_of_body item.body) if_moment moment form.1 in
    let s = pass_some (leb m.0 253402300799) moment (Some m.0) m.2 in
    let same : m.0 ≡ moment = some_is m.0 moment s.1 in (
      same_item item 6 [] (version ++ number 8 moment) (eqb-true item.kind 6 tests.0) (nil_from_length item.key (eqb-true (length item.key) 0 tests.1)) (moment_alone item.body m.0 octets m.1 ∙ ap (λ (k : ℕ). version ++ number 8 k) same),
      subst (λ (k : ℕ). k ≤ 253402300799) same (leb-true m.0 253402300799 s.0),
    )

pub are_things : AreItemsOf mac_of 1 thing_item
unfolding mac_of thing_item
are_things thing = refl
