-- What a tally's rows and totals are with one ruling or one packet more.
use Rattle.std.proofs.Common.{◌≡◌, ℕ, ◌+◌, ◌≤◌, Bool, true, false, cond, not, ◌&&◌, ◌||◌, List, [], ◌∷◌, ◌++◌, length, take, map, Option, Some, None, refl, sym, ap, subst, ◌∙◌, arith, length-append, append_assoc}
use Rattle.std.specs.Prelude.{is_some, option_to_list, flat_map, option_map, IsSome, nat_eq}
use Rattle.std.specs.List.{filter, filter_map, cons_option, AllByRecursion}
use Rattle.std.proofs.lemmas.Bool.{false≢true}
use Rattle.std.proofs.lemmas.Option.{same_Some, none-some}
use Rattle.std.proofs.lemmas.Grind.{flat_map-append}
use Rattle.std.proofs.lemmas.List.{map-append, length-map, append-nil}
use Rattle.std.proofs.lemmas.List.Elements.{filter_map-append}
use Rattle.std.specs.Cmp.{first_so}
use Rattle.std.proofs.Math.Bool.{and_assoc, and-false, and-true}
use Rattle.mud_base.specs.declared.addr.Mac.{Mac}
use Rattle.mud_base.specs.declared.packet.Direction.{Direction}
use Rattle.mud_base.specs.declared.packet.Direction.TheVariants.{From, To}
use Rattle.mud_base.specs.declared.packet.Fields.{Fields}
use Rattle.acl_model.specs.declared.ruling.DefaultRule.TheVariants.{Dns, Ntp}
use Rattle.acl_model.specs.declared.ruling.Ruling.{Ruling}
use Rattle.acl_model.specs.declared.ruling.Ruling.TheVariants.{Accept, AcceptDefault, Drop, DropDefault, DropHeld}
use Rattle.acl_model.specs.declared.ruling.Why.TheVariants.{NoFile, NoMatch}
use Rattle.packet_judge.specs.declared.verdict.Verdict.{Verdict}
use Rattle.packet_judge.specs.declared.verdict.Verdict.TheVariants.{Unmanaged, Link, Unreadable, Governed}
use Rattle.packet_judge.specs.Verdicts.{forwarded}
use Rattle.base_rows.specs.Sortable.{same_sort_key}
use Rattle.base_rows.proofs.Lists.{all-append, length-cond}
use Rattle.drop_ledger.proofs.FirstRows.{first_add_up}
use Rattle.drop_ledger.proofs.NumberLaws.{count_rows_total}
use Rattle.drop_ledger.specs.Counted.{AreKinds, count_of, count_rows, first_rows, late_rows, is_of, those_of, total, sum_of, count_at}
use Rattle.drop_ledger.specs.declared.rows.DeniedRow.{DeniedRow}
use Rattle.drop_ledger.specs.declared.seen.Seen.{Seen}
use Rattle.drop_ledger.specs.declared.seen.Ruled.{Ruled}
use Rattle.mud_base.specs.Directions.{side_number}
use Rattle.drop_ledger.specs.SortKeys.{six, thing_sort_key, ruling_sort_key, ruling_class, entry_number, peer_sort_key, sort_key_of_count, sort_key_of_denied, sort_key_of_other, count_of_row, denied_count, other_count, with_count}
use Rattle.drop_ledger.specs.RowTypes.{count_stays, count_told, denied_stays, denied_told, other_stays, other_told}
use Rattle.drop_ledger.specs.Seen.{hour_of, mac_on, ruling_on, ruled_on, rulings, is_governed, has_both, HasFields, HasThing, is_ruled}
use Rattle.drop_ledger.specs.Ledger.{count_row, counts_of, times_of, peer_row, denied_row, denials, denied_kinds, hour_in, times_ruled}
use Rattle.drop_ledger.proofs.SortKeyOrder.{front, length-six, length-thing_sort_key, same_length}
use Rattle.drop_ledger.proofs.Parts.{ruled, rulings_in, passes, drops, verdicts, row_with, row_by}

-- ---- Sort keys

same_sort_key-front : (xs ys us vs : List ℕ) → length xs ≡ length ys → same_sort_key (xs ++ us) (ys ++ vs) ≡ (same_sort_key xs ys && same_sort_key us vs)
same_sort_key-front [] [] us vs long = refl
same_sort_key-front [] (y ∷ ys) us vs long = absurd (omega arith)
same_sort_key-front (x ∷ xs) [] us vs long = absurd (omega arith)
same_sort_key-front (x ∷ xs) (y ∷ ys) us vs long = ap (λ b. nat_eq x y && b) (same_sort_key-front xs ys us vs (omega arith)) ∙ sym (and_assoc (nat_eq x y) (same_sort_key xs ys) (same_sort_key us vs))

-- the two sides are never at one sort key
sent_apart : (m n : Mac) → same_sort_key (thing_sort_key m From) (thing_sort_key n To) ≡ false
unfolding thing_sort_key side_number
sent_apart m n = same_sort_key-front (six m.0) (six n.0) (0 ∷ []) (1 ∷ []) (length-six m.0 ∙ sym (length-six n.0)) ∙ and-false (same_sort_key (six m.0) (six n.0))

received_apart : (m n : Mac) → same_sort_key (thing_sort_key m To) (thing_sort_key n From) ≡ false
unfolding thing_sort_key side_number
received_apart m n = same_sort_key-front (six m.0) (six n.0) (1 ∷ []) (0 ∷ []) (length-six m.0 ∙ sym (length-six n.0)) ∙ and-false (same_sort_key (six m.0) (six n.0))

-- the first seven numbers of the sort key of what was denied say its Thing and side
denied_begins : (r : DeniedRow) → take 7 (sort_key_of_denied r) ≡ thing_sort_key r.mac r.side
unfolding sort_key_of_denied
denied_begins r = front 7 (thing_sort_key r.mac r.side) (peer_sort_key r.peer r.protocol r.port) (length-thing_sort_key r.mac r.side)

pub denied_are_kinds : AreKinds denied_kinds
unfolding sort_key_of_denied sort_key_of_other
denied_are_kinds = record {
  long = λ r. let sum : length (thing_sort_key r.mac r.side ++ peer_sort_key r.peer r.protocol r.port) ≡ length (thing_sort_key r.mac r.side) + length (peer_sort_key r.peer r.protocol r.port) = length-append (thing_sort_key r.mac r.side) (peer_sort_key r.peer r.protocol r.port) in
      let seven : length (thing_sort_key r.mac r.side) ≡ 7 = length-thing_sort_key r.mac r.side in omega arith;
  exact = λ o. length-thing_sort_key o.mac o.side;
  own = λ r. sym (denied_begins r);
}

-- ---- How often a Thing's side was ruled on

ruled_more : (mac : Mac) (side : Direction) (r : Ruled) (rs : List Ruled) → times_ruled mac side (r ∷ rs) ≡ cond (same_sort_key (thing_sort_key mac side) (thing_sort_key r.mac r.side)) 1 0 + times_ruled mac side rs
unfolding times_ruled count_of
ruled_more mac side r rs = length-cond (same_sort_key (thing_sort_key mac side) (thing_sort_key r.mac r.side)) (thing_sort_key r.mac r.side) (filter (same_sort_key (thing_sort_key mac side)) (map (λ q. thing_sort_key q.mac q.side) rs))

times_none : (mac : Mac) (side : Direction) → times_ruled mac side [] ≡ 0
unfolding times_ruled count_of
times_none mac side = refl

times_append : (mac : Mac) (side : Direction) (xs ys : List Ruled) → times_ruled mac side (xs ++ ys) ≡ times_ruled mac side xs + times_ruled mac side ys
times_append mac side [] ys = let none = times_none mac side in omega (arith, none)
times_append mac side (x ∷ xs) ys =
    let rest = times_append mac side xs ys in
    let first = ruled_more mac side x xs in
    let both = ruled_more mac side x (xs ++ ys) in
    omega (arith, rest, first, both)

few_if : (b : Bool) → cond b 1 0 ≤ 1
few_if true = omega arith
few_if false = omega arith

fewer_by : {A B : Type 0} (x : A) (l : List A) (y : B) (l' : List B) → length l ≤ length l' → (b c : Bool) → (b ≡ true → c ≡ true) → length (cond b (x ∷ l) l) ≤ length (cond c (y ∷ l') l')
fewer_by x l y l' few true true both = omega arith
fewer_by x l y l' few true false both = absurd (false≢true (both refl))
fewer_by x l y l' few false true both = omega arith
fewer_by x l y l' few false false both = few

count_begins : (r q : Ruled) → same_sort_key (sort_key_of_count (count_row r)) (sort_key_of_count (count_row q)) ≡ true → same_sort_key (thing_sort_key r.mac r.side) (thing_sort_key q.mac q.side) ≡ true
unfolding sort_key_of_count count_row
count_begins r q e = first_so (same_sort_key (thing_sort_key r.mac r.side) (thing_sort_key q.mac q.side)) (same_sort_key (ruling_sort_key r.ruling) (ruling_sort_key q.ruling))
    (sym (same_sort_key-front (thing_sort_key r.mac r.side) (thing_sort_key q.mac q.side) (ruling_sort_key r.ruling) (ruling_sort_key q.ruling) (same_length r.mac q.mac r.side q.side)) ∙ e)

-- a ruling is given no more often than the Thing's side is ruled on
pub counted_few : (r : Ruled) (done : List Ruled) → count_of (sort_key_of_count (count_row r)) (map sort_key_of_count (map count_row done)) ≤ times_ruled r.mac r.side done
unfolding times_ruled count_of
counted_few r [] = omega arith
counted_few r (q ∷ done) = fewer_by (sort_key_of_count (count_row q)) (filter (same_sort_key (sort_key_of_count (count_row r))) (map sort_key_of_count (map count_row done)))
    (thing_sort_key q.mac q.side) (filter (same_sort_key (thing_sort_key r.mac r.side)) (map (λ p. thing_sort_key p.mac p.side) done)) (counted_few r done)
    (same_sort_key (sort_key_of_count (count_row r)) (sort_key_of_count (count_row q))) (same_sort_key (thing_sort_key r.mac r.side) (thing_sort_key q.mac q.side)) (count_begins r q)

with_thing : (mac : Mac) (side : Direction) (fields : Option Fields) (row : DeniedRow) → row_with mac side fields ≡ Some row → thing_sort_key row.mac row.side ≡ thing_sort_key mac side
unfolding peer_row
with_thing mac side None row e = absurd (none-some row e)
with_thing mac side (Some fields) row e = ap (λ d. thing_sort_key d.mac d.side) (sym (same_Some (peer_row mac side fields) row e))

by_thing : (ruling : Ruling) (r : Ruled) (row : DeniedRow) → row_by ruling r ≡ Some row → thing_sort_key row.mac row.side ≡ thing_sort_key r.mac r.side
by_thing (DropDefault NoMatch) r row e = with_thing r.mac r.side r.fields row e
by_thing (DropDefault NoFile) r row e = absurd (none-some row e)
by_thing (Accept n) r row e = absurd (none-some row e)
by_thing (AcceptDefault which) r row e = absurd (none-some row e)
by_thing (Drop n) r row e = absurd (none-some row e)
by_thing DropHeld r row e = absurd (none-some row e)

-- the row of what a ruling denied is of its Thing and side
row_thing : (r : Ruled) (row : DeniedRow) → denied_row r ≡ Some row → thing_sort_key row.mac row.side ≡ thing_sort_key r.mac r.side
unfolding denied_row
row_thing r row e = by_thing r.ruling r row e

those_by : (t : List ℕ) (q : Ruled) (rows : List DeniedRow) (done : List Ruled) → length t ≡ 7 → length (those_of t (map sort_key_of_denied rows)) ≤ count_of t (map (λ p. thing_sort_key p.mac p.side) done) → (o : Option DeniedRow) → denied_row q ≡ o
    → length (those_of t (map sort_key_of_denied (cons_option o rows))) ≤ count_of t (map (λ p. thing_sort_key p.mac p.side) (q ∷ done))
unfolding those_of count_of is_of
those_by t q rows done seven few None is = longer (same_sort_key t (thing_sort_key q.mac q.side)) (thing_sort_key q.mac q.side) (filter (same_sort_key t) (map (λ p. thing_sort_key p.mac p.side) done)) few
  where
    longer : {n : ℕ} (b : Bool) (x : List ℕ) (l : List (List ℕ)) → n ≤ length l → n ≤ length (cond b (x ∷ l) l)
    longer true x l less = omega arith
    longer false x l less = less
those_by t q rows done seven few (Some row) is =
    fewer_by (sort_key_of_denied row) (filter (is_of t) (map sort_key_of_denied rows)) (thing_sort_key q.mac q.side) (filter (same_sort_key t) (map (λ p. thing_sort_key p.mac p.side) done)) few
    (is_of t (sort_key_of_denied row)) (same_sort_key t (thing_sort_key q.mac q.side))
    (λ e. ap (same_sort_key t) (sym (row_thing q row is) ∙ sym (denied_begins row)) ∙ ap (λ n. same_sort_key t (take n (sort_key_of_denied row))) (sym seven) ∙ e)

those_few : (t : List ℕ) (done : List Ruled) → length t ≡ 7 → length (those_of t (map sort_key_of_denied (denials done))) ≤ count_of t (map (λ p. thing_sort_key p.mac p.side) done)
unfolding denials those_of count_of
those_few t [] seven = omega arith
those_few t (q ∷ done) seven = those_by t q (denials done) done seven (those_few t done seven) (denied_row q) refl

-- what is denied of a Thing's side is no more than it is ruled on
pub denied_few : (r : Ruled) (row : DeniedRow) (done : List Ruled) → denied_row r ≡ Some row → length (those_of (take 7 (sort_key_of_denied row)) (map sort_key_of_denied (denials done))) ≤ times_ruled r.mac r.side done
unfolding times_ruled
denied_few r row done is =
    let begins : take 7 (sort_key_of_denied row) ≡ thing_sort_key r.mac r.side = denied_begins row ∙ row_thing r row is in
    subst (λ t. length (those_of t (map sort_key_of_denied (denials done))) ≤ count_of (thing_sort_key r.mac r.side) (map (λ p. thing_sort_key p.mac p.side) done)) (sym begins)
    (those_few (thing_sort_key r.mac r.side) done (length-thing_sort_key r.mac r.side))

-- ---- One ruling more

pub counts_more : (done : List Ruled) (r : Ruled) → count_rows sort_key_of_count with_count (map count_row done ++ count_row r ∷ []) ≡ counts_of (done ++ r ∷ [])
unfolding counts_of
counts_more done r = ap (count_rows sort_key_of_count with_count) (sym (map-append count_row done (r ∷ [])))

pub denials_more : (done : List Ruled) (r : Ruled) (o : Option DeniedRow) → denied_row r ≡ o → denials (done ++ r ∷ []) ≡ denials done ++ option_to_list o
unfolding denials
denials_more done r o is = filter_map-append denied_row done (r ∷ []) ∙ ap (λ p. filter_map denied_row done ++ cons_option p []) is ∙ ap (λ l. filter_map denied_row done ++ l) (listed o)
  where
    listed : (p : Option DeniedRow) → cons_option p [] ≡ option_to_list p
    listed None = refl
    listed (Some row) = refl

-- ---- One packet more

pub rulings_more : (all : List Seen) (s : Seen) → rulings (all ++ s ∷ []) ≡ (rulings all ++ option_to_list (ruled_on s From)) ++ option_to_list (ruled_on s To)
unfolding rulings
rulings_more all s =
    flat_map-append rulings_in all (s ∷ [])
    ∙ ap (λ l. flat_map rulings_in all ++ l) (append-nil (option_to_list (ruled_on s From) ++ option_to_list (ruled_on s To)))
    ∙ sym (append_assoc (flat_map rulings_in all) (option_to_list (ruled_on s From)) (option_to_list (ruled_on s To)))

times_endpoint : (mac : Mac) (side : Direction) (o : Option Ruled) → times_ruled mac side (option_to_list o) ≤ 1
times_endpoint mac side None = let none = times_none mac side in omega (arith, none)
times_endpoint mac side (Some r) = let one = ruled_more mac side r [] in let none = times_none mac side in let few = few_if (same_sort_key (thing_sort_key mac side) (thing_sort_key r.mac r.side)) in omega (arith, one, none, few)

no_times : (mac : Mac) (side : Direction) (r : Ruled) → same_sort_key (thing_sort_key mac side) (thing_sort_key r.mac r.side) ≡ false → times_ruled mac side (r ∷ []) ≡ 0
no_times mac side r apart = ruled_more mac side r [] ∙ ap (λ b. cond b 1 0 + times_ruled mac side []) apart ∙ (let none = times_none mac side in omega (arith, none))

-- the Thing that sends isn't on the other side
sent_never : (mac : Mac) (s : Seen) (o : Option Ruling) → times_ruled mac To (option_to_list (option_map (ruled s From) o)) ≡ 0
unfolding mac_on
sent_never mac s None = times_none mac To
sent_never mac s (Some ruling) = no_times mac To (ruled s From ruling) (received_apart mac s.source)

received_never : (mac : Mac) (s : Seen) (o : Option Ruling) → times_ruled mac From (option_to_list (option_map (ruled s To) o)) ≡ 0
unfolding mac_on
received_never mac s None = times_none mac From
received_never mac s (Some ruling) = no_times mac From (ruled s To ruling) (sent_apart mac s.destination)

pub sent_unruled : (mac : Mac) (s : Seen) → times_ruled mac To (option_to_list (ruled_on s From)) ≡ 0
unfolding ruled_on
sent_unruled mac s = sent_never mac s (ruling_on s.verdict From)

received_unruled : (mac : Mac) (s : Seen) → times_ruled mac From (option_to_list (ruled_on s To)) ≡ 0
unfolding ruled_on
received_unruled mac s = received_never mac s (ruling_on s.verdict To)

-- a Thing's side is ruled on once in a packet at most
one_each : (mac : Mac) (side : Direction) (s : Seen) → times_ruled mac side (rulings_in s) ≤ 1
one_each mac From s =
    let sum = times_append mac From (option_to_list (ruled_on s From)) (option_to_list (ruled_on s To)) in
    let none = received_unruled mac s in
    let few = times_endpoint mac From (ruled_on s From) in
    omega (arith, sum, none, few)
one_each mac To s =
    let sum = times_append mac To (option_to_list (ruled_on s From)) (option_to_list (ruled_on s To)) in
    let none = sent_unruled mac s in
    let few = times_endpoint mac To (ruled_on s To) in
    omega (arith, sum, none, few)

pub ruled_few : (mac : Mac) (side : Direction) (all : List Seen) → times_ruled mac side (rulings all) ≤ length all
unfolding rulings
ruled_few mac side [] = let none = times_none mac side in omega (arith, none)
ruled_few mac side (s ∷ all) =
    let sum = times_append mac side (rulings_in s) (flat_map rulings_in all) in
    let one = one_each mac side s in
    let rest = ruled_few mac side all in
    omega (arith, sum, one, rest)

-- the same where the packet's first ruling is counted already
pub received_few : (mac : Mac) (all : List Seen) (s : Seen) → times_ruled mac To (rulings all ++ option_to_list (ruled_on s From)) ≤ length all
received_few mac all s =
    let sum = times_append mac To (rulings all) (option_to_list (ruled_on s From)) in
    let none = sent_unruled mac s in
    let few = ruled_few mac To all in
    omega (arith, sum, none, few)

-- ---- What adds up

not_counted : (t : List ℕ) (m : Mac) (d : Direction) (us : List ℕ) (done : List Ruled) → length t ≡ 7 → same_sort_key (5 ∷ 0 ∷ []) us ≡ false
    → length (cond (same_sort_key (t ++ 5 ∷ 0 ∷ []) (thing_sort_key m d ++ us)) ((thing_sort_key m d ++ us) ∷ filter (same_sort_key (t ++ 5 ∷ 0 ∷ [])) (map sort_key_of_count (map count_row done))) (filter (same_sort_key (t ++ 5 ∷ 0 ∷ [])) (map sort_key_of_count (map count_row done)))) ≡ length (filter (same_sort_key (t ++ 5 ∷ 0 ∷ [])) (map sort_key_of_count (map count_row done)))
not_counted t m d us done seven apart =
    ap (λ b. length (cond b ((thing_sort_key m d ++ us) ∷ filter (same_sort_key (t ++ 5 ∷ 0 ∷ [])) (map sort_key_of_count (map count_row done))) (filter (same_sort_key (t ++ 5 ∷ 0 ∷ [])) (map sort_key_of_count (map count_row done)))))
    (same_sort_key-front t (thing_sort_key m d) (5 ∷ 0 ∷ []) us (seven ∙ sym (length-thing_sort_key m d)) ∙ ap (λ b. same_sort_key t (thing_sort_key m d) && b) apart ∙ and-false (same_sort_key t (thing_sort_key m d)))

no_match_by : (t : List ℕ) (m : Mac) (d : Direction) (r : Ruling) (f : Option Fields) (rows : List DeniedRow) (done : List Ruled) → IsSome f → length t ≡ 7
    → length (those_of t (map sort_key_of_denied rows)) ≡ count_of (t ++ 5 ∷ 0 ∷ []) (map sort_key_of_count (map count_row done))
    → length (those_of t (map sort_key_of_denied (cons_option (row_by r (record { mac = m; side = d; ruling = r; fields = f })) rows))) ≡ count_of (t ++ 5 ∷ 0 ∷ []) (map sort_key_of_count (map count_row ((record { mac = m; side = d; ruling = r; fields = f }) ∷ done)))
unfolding those_of count_of sort_key_of_count count_row ruling_sort_key ruling_class entry_number is_of
no_match_by t m d (DropDefault NoMatch) None rows done has seven is = absurd (false≢true has)
no_match_by t m d (DropDefault NoMatch) (Some f) rows done has seven is =
    length-cond (is_of t (sort_key_of_denied (peer_row m d f))) (sort_key_of_denied (peer_row m d f)) (filter (is_of t) (map sort_key_of_denied rows))
    ∙ (λ i. cond (same i) 1 0 + is i)
    ∙ sym (length-cond (same_sort_key (t ++ 5 ∷ 0 ∷ []) (thing_sort_key m d ++ 5 ∷ 0 ∷ [])) (thing_sort_key m d ++ 5 ∷ 0 ∷ []) (filter (same_sort_key (t ++ 5 ∷ 0 ∷ [])) (map sort_key_of_count (map count_row done))))
  where
    same : is_of t (sort_key_of_denied (peer_row m d f)) ≡ same_sort_key (t ++ 5 ∷ 0 ∷ []) (thing_sort_key m d ++ 5 ∷ 0 ∷ [])
    same = ap (λ n. same_sort_key t (take n (sort_key_of_denied (peer_row m d f)))) seven
        ∙ ap (same_sort_key t) (denied_begins (peer_row m d f) ∙ with_thing m d (Some f) (peer_row m d f) refl)
        ∙ sym (and-true (same_sort_key t (thing_sort_key m d)))
        ∙ sym (same_sort_key-front t (thing_sort_key m d) (5 ∷ 0 ∷ []) (5 ∷ 0 ∷ []) (seven ∙ sym (length-thing_sort_key m d)))
no_match_by t m d (DropDefault NoFile) f rows done has seven is = is ∙ sym (not_counted t m d (4 ∷ 0 ∷ []) done seven refl)
no_match_by t m d (Accept n) f rows done has seven is = is ∙ sym (not_counted t m d (0 ∷ n ∷ []) done seven refl)
no_match_by t m d (AcceptDefault Dns) f rows done has seven is = is ∙ sym (not_counted t m d (2 ∷ 0 ∷ []) done seven refl)
no_match_by t m d (AcceptDefault Ntp) f rows done has seven is = is ∙ sym (not_counted t m d (3 ∷ 0 ∷ []) done seven refl)
no_match_by t m d (Drop n) f rows done has seven is = is ∙ sym (not_counted t m d (1 ∷ n ∷ []) done seven refl)
no_match_by t m d DropHeld f rows done has seven is = is ∙ sym (not_counted t m d (6 ∷ 0 ∷ []) done seven refl)

pub no_match_times : (t : List ℕ) (done : List Ruled) → AllByRecursion (λ r. IsSome r.fields) done → length t ≡ 7 → length (those_of t (map sort_key_of_denied (denials done))) ≡ count_of (t ++ 5 ∷ 0 ∷ []) (map sort_key_of_count (map count_row done))
unfolding denials denied_row those_of count_of
no_match_times t [] have seven = refl
no_match_times t (q ∷ done) have seven = no_match_by t q.mac q.side q.ruling q.fields (denials done) done have.0 seven (no_match_times t done have.1 seven)

fields_by : (s : Seen) (side : Direction) (o : Option Ruling) → IsSome s.fields → AllByRecursion (λ r. IsSome r.fields) (option_to_list (option_map (ruled s side) o))
fields_by s side None has = tt
fields_by s side (Some ruling) has = (has, tt)

fields_of : (s : Seen) (v : Verdict) → s.verdict ≡ v → HasFields s → AllByRecursion (λ r. IsSome r.fields) (option_to_list (option_map (ruled s From) (ruling_on v From)) ++ option_to_list (option_map (ruled s To) (ruling_on v To)))
unfolding ruling_on is_governed
fields_of s Unmanaged is has = tt
fields_of s Link is has = tt
fields_of s (Unreadable part) is has = tt
fields_of s (Governed a b) is has =
    let there : IsSome s.fields = has (ap is_governed is) in
    all-append (λ r. IsSome r.fields) (option_to_list (option_map (ruled s From) a)) (option_to_list (option_map (ruled s To) b)) (fields_by s From a there) (fields_by s To b there)

-- each ruling has the fields of its packet
pub rulings_have : (all : List Seen) → AllByRecursion HasFields all → AllByRecursion (λ r. IsSome r.fields) (rulings all)
unfolding rulings ruled_on
rulings_have [] have = tt
rulings_have (s ∷ all) have = all-append (λ r. IsSome r.fields) (rulings_in s) (flat_map rulings_in all) (fields_of s s.verdict refl have.0) (rulings_have all have.1)

-- what is denied of a Thing's side, and the others, are as many as it was ruled so
pub denied_sum : (mac : Mac) (side : Direction) (done : List Ruled) → AllByRecursion (λ r. IsSome r.fields) done
    → sum_of sort_key_of_denied denied_count (thing_sort_key mac side) (first_rows denied_kinds (denials done)) + count_at sort_key_of_other other_count (thing_sort_key mac side) (late_rows denied_kinds (denials done)) ≡ times_of mac side (DropDefault NoMatch) done
unfolding times_of sort_key_of_count ruling_sort_key ruling_class entry_number
denied_sum mac side done have =
    first_add_up denied_kinds denied_are_kinds denied_stays denied_count denied_told other_stays other_count other_told (denials done) (thing_sort_key mac side) (length-thing_sort_key mac side)
    ∙ no_match_times (thing_sort_key mac side) done have (length-thing_sort_key mac side)

-- the counts of all rulings are as many as there are
pub counts_sum : (done : List Ruled) → total count_of_row (counts_of done) ≡ length done
unfolding counts_of
counts_sum done = count_rows_total sort_key_of_count with_count count_stays count_of_row count_told (map count_row done) ∙ length-map done count_row

ruled_by : (a b : Option Ruling) (s : Seen) (f : Bool) → (is_some (option_map (ruled s From) a) || is_some (option_map (ruled s To) b)) ≡ true
    → length (option_to_list (option_map (ruled s From) a) ++ option_to_list (option_map (ruled s To) b)) ≡ cond f 1 0 + cond (not f) 1 0 + cond (is_some a && is_some b) 1 0
ruled_by None None s f e = absurd (false≢true e)
ruled_by (Some x) None s true e = refl
ruled_by (Some x) None s false e = refl
ruled_by None (Some y) s true e = refl
ruled_by None (Some y) s false e = refl
ruled_by (Some x) (Some y) s true e = refl
ruled_by (Some x) (Some y) s false e = refl

ruled_of : (s : Seen) (v : Verdict) → s.verdict ≡ v → HasThing s → length (option_to_list (option_map (ruled s From) (ruling_on v From)) ++ option_to_list (option_map (ruled s To) (ruling_on v To))) ≡ cond (passes v) 1 0 + cond (drops v) 1 0 + cond (has_both v) 1 0
unfolding ruling_on is_governed has_both ruled_on
ruled_of s Unmanaged is has = refl
ruled_of s Link is has = refl
ruled_of s (Unreadable part) is has = refl
ruled_of s (Governed a b) is has =
    let e : (is_some (option_map (ruled s From) (ruling_on s.verdict From)) || is_some (option_map (ruled s To) (ruling_on s.verdict To))) ≡ true = has (ap is_governed is) in
    ruled_by a b s (forwarded (Governed a b)) (sym (ap (λ v. is_some (option_map (ruled s From) (ruling_on v From)) || is_some (option_map (ruled s To) (ruling_on v To))) is) ∙ e)

rulings_one : (s : Seen) → HasThing s → length (rulings_in s) ≡ cond (passes s.verdict) 1 0 + cond (drops s.verdict) 1 0 + cond (has_both s.verdict) 1 0
unfolding ruled_on
rulings_one s has = ruled_of s s.verdict refl has

pub verdicts_first : (test : Verdict → Bool) (s : Seen) (all : List Seen) → verdicts test (s ∷ all) ≡ cond (test s.verdict) 1 0 + verdicts test all
verdicts_first test s all = length-cond (test s.verdict) s (filter (λ q. test q.verdict) all)

rulings_first : (s : Seen) (all : List Seen) → length (rulings (s ∷ all)) ≡ length (rulings_in s) + length (rulings all)
unfolding rulings
rulings_first s all = length-append (rulings_in s) (flat_map rulings_in all)

pub no_verdicts : (test : Verdict → Bool) → verdicts test [] ≡ 0
no_verdicts test = refl

no_rulings : length (rulings []) ≡ 0
unfolding rulings
no_rulings = refl

-- there are as many rulings as packets that were ruled on, and those with two once more
pub rulings_sum : (all : List Seen) → AllByRecursion HasThing all → length (rulings all) ≡ verdicts passes all + verdicts drops all + verdicts has_both all
rulings_sum [] have = let a = no_verdicts passes in let b = no_verdicts drops in let d = no_verdicts has_both in let e = no_rulings in omega (arith, a, b, d, e)
rulings_sum (s ∷ all) have =
    let one = rulings_one s have.0 in
    let rest = rulings_sum all have.1 in
    let first = rulings_first s all in
    let pass = verdicts_first passes s all in
    let drop = verdicts_first drops s all in
    let both = verdicts_first has_both s all in
    omega (arith, one, rest, first, pass, drop, both)

-- ---- No rulings

pub none_ruled : (s : Seen) → is_ruled s ≡ false → rulings_in s ≡ []
none_ruled s e = by (ruled_on s From) (ruled_on s To) e
  where
    by : (a b : Option Ruled) → (is_some a || is_some b) ≡ false → option_to_list a ++ option_to_list b ≡ []
    by None None is = refl
    by None (Some r) is = absurd (false≢true (sym is))
    by (Some r) b is = absurd (false≢true (sym is))

some_ruled : (s : Seen) → is_ruled s ≡ true → 1 ≤ length (rulings_in s)
some_ruled s e = by (ruled_on s From) (ruled_on s To) e
  where
    by : (a b : Option Ruled) → (is_some a || is_some b) ≡ true → 1 ≤ length (option_to_list a ++ option_to_list b)
    by None None is = absurd (false≢true is)
    by None (Some r) is = omega arith
    by (Some r) None is = omega arith
    by (Some r) (Some q) is = omega arith

hour_first : (s : Seen) (rest : List Seen) (b : Bool) → is_ruled s ≡ b → cond b (Some (hour_of s)) (hour_in rest) ≡ None → (hour_in rest ≡ None → rulings rest ≡ []) → rulings_in s ++ rulings rest ≡ []
hour_first s rest true is e others = absurd (none-some (hour_of s) (sym e))
hour_first s rest false is e others = (λ i. none_ruled s is i ++ others e i)

-- without an hour there is no ruling, and without a ruling no hour
pub hour_none : (latest : List Seen) → hour_in latest ≡ None → rulings latest ≡ []
unfolding hour_in rulings
hour_none [] e = refl
hour_none (s ∷ rest) e = hour_first s rest (is_ruled s) refl e (hour_none rest)

hour_none_by : (s : Seen) (rest : List Seen) (b : Bool) → is_ruled s ≡ b → length (rulings_in s ++ rulings rest) ≡ 0 → (length (rulings rest) ≡ 0 → hour_in rest ≡ None) → cond b (Some (hour_of s)) (hour_in rest) ≡ None
hour_none_by s rest true is e others =
    let some = some_ruled s is in
    let sum : length (rulings_in s ++ rulings rest) ≡ length (rulings_in s) + length (rulings rest) = length-append (rulings_in s) (rulings rest) in
    absurd (omega (arith, some, sum, e))
hour_none_by s rest false is e others =
    let sum : length (rulings_in s ++ rulings rest) ≡ length (rulings_in s) + length (rulings rest) = length-append (rulings_in s) (rulings rest) in
    others (omega (arith, sum, e))

pub none_hour : (latest : List Seen) → length (rulings latest) ≡ 0 → hour_in latest ≡ None
unfolding hour_in rulings
none_hour [] e = refl
none_hour (s ∷ rest) e = hour_none_by s rest (is_ruled s) refl e (none_hour rest)

no_counts : (done : List Ruled) → counts_of done ≡ [] → length done ≡ 0
unfolding total
no_counts done e = sym (counts_sum done) ∙ ap (total count_of_row) e

pub counts_none : (latest : List Seen) → hour_in latest ≡ None → counts_of (rulings latest) ≡ []
unfolding counts_of count_rows
counts_none latest e = ap (λ rs. count_rows sort_key_of_count with_count (map count_row rs)) (hour_none latest e)

pub no_counts_no_hour : (latest : List Seen) → counts_of (rulings latest) ≡ [] → hour_in latest ≡ None
no_counts_no_hour latest e = none_hour latest (no_counts (rulings latest) e)
