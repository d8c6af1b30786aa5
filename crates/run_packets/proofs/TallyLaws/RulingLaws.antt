-- What the packets that were judged are like, and the counts of all hours.
use Rattle.std.proofs.Common.{◌≡◌, ℕ, ◌+◌, ◌*◌, Bool, true, false, cond, not, ◌||◌, List, [], ◌∷◌, ◌++◌, map, length, Option, Some, None, refl, sym, ap, ◌∙◌, arith, length-append}
use Rattle.std.specs.Prelude.{is_some, ◌==◌, option_map}
use Rattle.std.specs.List.{filter, AllByRecursion}
use Rattle.std.proofs.lemmas.Bool.{false≢true, eqb-true, eq-eqb}
use Rattle.std.proofs.lemmas.List.{map-append}
use Rattle.std.proofs.lemmas.List.Elements.{filter-append}
use Rattle.mud_base.specs.declared.addr.Mac.{Mac}
use Rattle.mud_base.specs.declared.packet.Direction.{Direction}
use Rattle.mud_base.specs.declared.packet.Direction.TheVariants.{From, To}
use Rattle.mud_base.specs.declared.packet.Fields.{Fields}
use Rattle.table_model.specs.declared.thing.Thing.{Thing}
use Rattle.frame_view.specs.declared.views.Frame.{Frame}
use Rattle.frame_view.specs.declared.views.Frame.TheVariants as frame
use Rattle.frame_view.specs.Frame.{frame_of}
use Rattle.read_buffer.specs.Packets.{Packet}
use Rattle.acl_model.specs.declared.ruling.Ruling.{Ruling}
use Rattle.packet_judge.specs.declared.verdict.Verdict.{Verdict}
use Rattle.packet_judge.specs.declared.verdict.Verdict.TheVariants.{Unmanaged, Link, Unreadable, Governed}
use Rattle.packet_judge.specs.Verdicts.{Rulings, Endpoints, endpoints_of, endpoint_ruling, is_managed, if_managed, verdict_on, verdict_of}
use Rattle.base_rows.specs.Sortable.{same_sort_key}
use Rattle.drop_ledger.specs.Counted.{SortKey, count_of, total}
use Rattle.desk_model.specs.Verdicts.{verdict_at}
use Rattle.desk_model.specs.Sessions.{Session, frame_in, verdict_in}
use Rattle.run_desk.specs.Judged.{judged_packet}
use Rattle.drop_ledger.specs.declared.rows.CountRow.{CountRow}
use Rattle.drop_ledger.specs.declared.seen.Seen.{Seen}
use Rattle.drop_ledger.specs.declared.seen.Ruled.{Ruled}
use Rattle.drop_ledger.specs.SortKeys.{count_of_row, sort_key_of_count}
use Rattle.drop_ledger.specs.Seen.{hour_of, ruling_on, ruled_on, is_ruled, is_governed, rulings, HasFields, HasThing}
use Rattle.drop_ledger.specs.Ledger.{count_row, counts_of, times_of}
use Rattle.drop_ledger.proofs.LedgerLaws.{none_ruled, counts_sum}
use Rattle.run_packets.specs.Tally.Tallied.{seen_as, seen_of, seen_in, hours, in_hour}
use Rattle.drop_ledger.proofs.Parts.{ruled, rulings_in}
use Rattle.packet_judge.proofs.Parts.{governed}

-- ---- Rulings come from readable packets of Things

pub record IsRight (s : Seen) : Type 0 where
  pub fields : HasFields s
  pub thing : HasThing s

ungoverned : (s : Seen) (v : Verdict) → s.verdict ≡ v → is_governed v ≡ false → IsRight s
ungoverned s v is without_one = record {
  fields = λ given. absurd (false≢true (sym without_one ∙ ap is_governed (sym is) ∙ given));
  thing = λ given. absurd (false≢true (sym without_one ∙ ap is_governed (sym is) ∙ given));
}

without : (b : Bool) (v : Verdict) → is_governed v ≡ false → is_governed (cond b v Unmanaged) ≡ false
unfolding is_governed
without true v none = none
without false v none = refl

mapped_some : {A B : Type 0} (f : A → B) (o : Option A) → is_some (option_map f o) ≡ is_some o
mapped_some f None = refl
mapped_some f (Some a) = refl

endpoint_some : (rulings : Rulings) (side : Direction) (fields : Fields) (o : Option Thing) → is_some (endpoint_ruling rulings side fields o) ≡ is_some o
unfolding endpoint_ruling
endpoint_some rulings side fields None = refl
endpoint_some rulings side fields (Some thing) = refl

ruled_as : (s : Seen) (a b : Option Ruling) → s.verdict ≡ Governed a b → is_ruled s ≡ (is_some a || is_some b)
unfolding ruled_on ruling_on
ruled_as s a b is =
    (λ i. is_some (option_map (ruled s From) (ruling_on (is i) From)) || is_some (option_map (ruled s To) (ruling_on (is i) To)))
    ∙ (λ i. mapped_some (ruled s From) a i || mapped_some (ruled s To) b i)

governed_right : (rulings : Rulings) (s : Seen) (fields : Fields) (endpoints : Endpoints) → s.fields ≡ Some fields → (b : Bool) → is_managed endpoints ≡ b → s.verdict ≡ cond b (governed rulings fields endpoints) Unmanaged → IsRight s
unfolding is_managed is_governed
governed_right rulings s fields endpoints has false managed is = ungoverned s Unmanaged is refl
governed_right rulings s fields endpoints has true managed is = record {
  fields = λ given. ap is_some has;
  thing = λ given.
      ruled_as s (endpoint_ruling rulings From fields endpoints.source) (endpoint_ruling rulings To fields endpoints.destination) is
      ∙ (λ i. endpoint_some rulings From fields endpoints.source i || endpoint_some rulings To fields endpoints.destination i)
      ∙ managed;
}

frame_right : (rulings : Rulings) (things : List Thing) (moment : ℕ) (f : Frame) → IsRight (seen_as moment (verdict_on rulings things f) f)
unfolding seen_as verdict_on if_managed is_governed
frame_right rulings things moment (frame.Packet packet) =
    governed_right rulings (seen_as moment (verdict_on rulings things (frame.Packet packet)) (frame.Packet packet)) packet.fields (endpoints_of things packet.octets) refl (is_managed (endpoints_of things packet.octets)) refl refl
frame_right rulings things moment (frame.Link octets) =
    ungoverned (seen_as moment (verdict_on rulings things (frame.Link octets)) (frame.Link octets)) (cond (is_managed (endpoints_of things octets)) Link Unmanaged) refl (without (is_managed (endpoints_of things octets)) Link refl)
frame_right rulings things moment (frame.Unreadable None part) =
    ungoverned (seen_as moment (verdict_on rulings things (frame.Unreadable None part)) (frame.Unreadable None part)) (Unreadable part) refl refl
frame_right rulings things moment (frame.Unreadable (Some octets) part) =
    ungoverned (seen_as moment (verdict_on rulings things (frame.Unreadable (Some octets) part)) (frame.Unreadable (Some octets) part)) (cond (is_managed (endpoints_of things octets)) (Unreadable part) Unmanaged) refl (without (is_managed (endpoints_of things octets)) (Unreadable part) refl)

seen_right : (session : Session) (packet : Packet) → IsRight (seen_of (judged_packet session packet) packet)
unfolding seen_of frame_in verdict_in verdict_at verdict_of
seen_right session packet = frame_right _ _ _ (frame_of packet.octets)

pub all_fields : (session : Session) (packets : List Packet) → AllByRecursion HasFields (seen_in session packets)
unfolding seen_in
all_fields session [] = tt
all_fields session (packet ∷ packets) = ((seen_right session packet).fields, all_fields (judged_packet session packet).session packets)

pub all_things : (session : Session) (packets : List Packet) → AllByRecursion HasThing (seen_in session packets)
unfolding seen_in
all_things session [] = tt
all_things session (packet ∷ packets) = ((seen_right session packet).thing, all_things (judged_packet session packet).session packets)

-- ---- Each ruling is counted in one hour

times : ℕ → List ℕ → ℕ
times n l = total (λ h. cond (n == h) 1 0) l

gone_by : (n k h : ℕ) (l : List ℕ) → (n == k) ≡ true → times n (filter (λ g. not (g == k)) l) ≡ 0 → (b : Bool) → (h == k) ≡ b → times n (cond (not b) (h ∷ filter (λ g. not (g == k)) l) (filter (λ g. not (g == k)) l)) ≡ 0
unfolding times total
gone_by n k h l same rest true e = rest
gone_by n k h l same rest false e =
    let differ : (n == h) ≡ false = by (n == h) refl in
    ap (λ b. cond b 1 0 + total (λ g. cond (n == g) 1 0) (filter (λ g. not (g == k)) l)) differ ∙ (let none : total (λ g. cond (n == g) 1 0) (filter (λ g. not (g == k)) l) ≡ 0 = rest in omega arith)
  where
    by : (b : Bool) → (n == h) ≡ b → (n == h) ≡ false
    by true f = absurd (false≢true (sym e ∙ eq-eqb h k (sym (eqb-true n h f) ∙ eqb-true n k same)))
    by false f = f

times_gone : (n k : ℕ) (l : List ℕ) → (n == k) ≡ true → times n (filter (λ g. not (g == k)) l) ≡ 0
unfolding times total
times_gone n k [] same = refl
times_gone n k (h ∷ l) same = gone_by n k h l same (times_gone n k l same) (h == k) refl

stays_by : (n k h : ℕ) (l : List ℕ) → (n == k) ≡ false → times n (filter (λ g. not (g == k)) l) ≡ times n l → (b : Bool) → (h == k) ≡ b
    → times n (cond (not b) (h ∷ filter (λ g. not (g == k)) l) (filter (λ g. not (g == k)) l)) ≡ times n (h ∷ l)
unfolding times total
stays_by n k h l apart rest true e =
    rest ∙ (let differ : (n == h) ≡ false = by (n == h) refl in sym (ap (λ b. cond b 1 0 + total (λ g. cond (n == g) 1 0) l) differ ∙ zero_first (total (λ g. cond (n == g) 1 0) l)))
  where
    zero_first : (m : ℕ) → 0 + m ≡ m
    zero_first m = omega arith

    by : (b : Bool) → (n == h) ≡ b → (n == h) ≡ false
    by true f = absurd (false≢true (sym apart ∙ eq-eqb n k (eqb-true n h f ∙ eqb-true h k e)))
    by false f = f
stays_by n k h l apart rest false e = ap (λ m. cond (n == h) 1 0 + m) rest

times_stay : (n k : ℕ) (l : List ℕ) → (n == k) ≡ false → times n (filter (λ g. not (g == k)) l) ≡ times n l
unfolding times total
times_stay n k [] apart = refl
times_stay n k (h ∷ l) apart = stays_by n k h l apart (times_stay n k l apart) (h == k) refl

Once : List ℕ → List Seen → Type 0
Once l xs = AllByRecursion (λ x. is_ruled x ≡ true → times (hour_of x) l ≡ 1) xs

with_hour : (k n : ℕ) (l : List ℕ) → (b : Bool) → (n == k) ≡ b → (b ≡ false → times n l ≡ 1) → times n (k ∷ filter (λ g. not (g == k)) l) ≡ 1
unfolding times total
with_hour k n l true e others = ap (λ b. cond b 1 0 + total (λ h. cond (n == h) 1 0) (filter (λ g. not (g == k)) l)) e ∙ ap (λ m. 1 + m) (times_gone n k l e)
with_hour k n l false e others = ap (λ b. cond b 1 0 + total (λ h. cond (n == h) 1 0) (filter (λ g. not (g == k)) l)) e ∙ (let one : total (λ h. cond (n == h) 1 0) (filter (λ g. not (g == k)) l) ≡ 1 = times_stay n k l e ∙ others refl in omega arith)

once_more : (k : ℕ) (l : List ℕ) (xs : List Seen) → Once l xs → Once (k ∷ filter (λ g. not (g == k)) l) xs
unfolding Once
once_more k l [] once = tt
once_more k l (x ∷ xs) once = ((λ is. with_hour k (hour_of x) l (hour_of x == k) refl (λ other. once.0 is)), once_more k l xs once.1)

once_by : (s : Seen) (l : List ℕ) (xs : List Seen) → Once l xs → (b : Bool) → is_ruled s ≡ b → Once (cond b (hour_of s ∷ filter (λ g. not (g == hour_of s)) l) l) (s ∷ xs)
unfolding Once
once_by s l xs once true is = ((λ given. with_hour (hour_of s) (hour_of s) l true (eq-eqb (hour_of s) (hour_of s) refl) (λ other. absurd (false≢true (sym other)))), once_more (hour_of s) l xs once)
once_by s l xs once false is = ((λ given. absurd (false≢true (sym is ∙ given))), once)

-- the hour of each ruling is among the hours once
hours_once : (all : List Seen) → Once (hours all) all
unfolding hours Once
hours_once [] = tt
hours_once (s ∷ all) = once_by s (hours all) all (hours_once all) (is_ruled s) refl

sums_apart : (f g e : ℕ → ℕ) (n : ℕ) (l : List ℕ) → ((h : ℕ) → f h ≡ n * e h + g h) → total f l ≡ n * total e l + total g l
unfolding total
sums_apart f g e n [] each = none n
  where
    none : (m : ℕ) → 0 ≡ m * 0 + 0
    none m = omega arith
sums_apart f g e n (h ∷ l) each = (λ i. each h i + sums_apart f g e n l each i) ∙ joined n (e h) (g h) (total e l) (total g l)
  where
    joined : (m a b c d : ℕ) → (m * a + b) + (m * c + d) ≡ m * (a + c) + (b + d)
    joined m a b c d = grind arith

-- what is counted of rulings: of none it is 0, and of two lists the sum
module _ (count : List Ruled → ℕ) (of_none : count [] ≡ 0) (of_both : (xs ys : List Ruled) → count (xs ++ ys) ≡ count xs + count ys) where
  of_hour : List Seen → ℕ → ℕ
  of_hour xs h = count (rulings (in_hour h xs))

  split_by : (s : Seen) (xs : List Seen) (b : Bool) → count (rulings (cond b (s ∷ xs) xs)) ≡ count (rulings_in s) * cond b 1 0 + count (rulings xs)
  unfolding rulings
  split_by s xs true = of_both (rulings_in s) (rulings xs) ∙ once (count (rulings_in s)) (count (rulings xs))
    where
      once : (n m : ℕ) → n + m ≡ n * 1 + m
      once n m = omega arith
  split_by s xs false = never (count (rulings_in s)) (count (rulings xs))
    where
      never : (n m : ℕ) → m ≡ n * 0 + m
      never n m = omega arith

  of_hour_more : (s : Seen) (xs : List Seen) (h : ℕ) → of_hour (s ∷ xs) h ≡ count (rulings_in s) * cond (hour_of s == h) 1 0 + of_hour xs h
  unfolding of_hour in_hour
  of_hour_more s xs h = split_by s (in_hour h xs) (hour_of s == h)

  once_rulings : (s : Seen) (m : ℕ) → (is_ruled s ≡ true → m ≡ 1) → count (rulings_in s) * m ≡ count (rulings_in s)
  once_rulings s m one = by (is_ruled s) refl
    where
      by : (b : Bool) → is_ruled s ≡ b → count (rulings_in s) * m ≡ count (rulings_in s)
      by true is = ap (λ k. count (rulings_in s) * k) (one is) ∙ whole (count (rulings_in s))
        where
          whole : (k : ℕ) → k * 1 ≡ k
          whole k = omega arith
      by false is = ap (λ k. k * m) unruled ∙ nothing m ∙ sym unruled
        where
          unruled : count (rulings_in s) ≡ 0
          unruled = ap count (none_ruled s is) ∙ of_none

          nothing : (k : ℕ) → 0 * k ≡ 0
          nothing k = omega arith

  no_hours_sum : (l : List ℕ) → total (of_hour []) l ≡ 0
  unfolding total of_hour in_hour rulings
  no_hours_sum [] = refl
  no_hours_sum (h ∷ l) = (λ i. of_none i + no_hours_sum l i)

  hours_sum : (l : List ℕ) (xs : List Seen) → Once l xs → total (of_hour xs) l ≡ count (rulings xs)
  unfolding Once rulings times
  hours_sum l [] once = no_hours_sum l ∙ sym of_none
  hours_sum l (s ∷ xs) once =
      sums_apart (of_hour (s ∷ xs)) (of_hour xs) (λ h. cond (hour_of s == h) 1 0) (count (rulings_in s)) l (of_hour_more s xs)
      ∙ (λ i. once_rulings s (times (hour_of s) l) once.0 i + hours_sum l xs once.1 i)
      ∙ sym (of_both (rulings_in s) (rulings xs))

same_total : (f g : ℕ → ℕ) (l : List ℕ) → ((h : ℕ) → f h ≡ g h) → total f l ≡ total g l
unfolding total
same_total f g [] same = refl
same_total f g (h ∷ l) same = (λ i. same h i + same_total f g l same i)

-- the counts of all hours together are all rulings
pub counts_of_hours : (all : List Seen) → total (λ h. total count_of_row (counts_of (rulings (in_hour h all)))) (hours all) ≡ length (rulings all)
unfolding of_hour
counts_of_hours all =
    same_total (λ h. total count_of_row (counts_of (rulings (in_hour h all)))) (of_hour length refl length-append all) (hours all) (λ h. counts_sum (rulings (in_hour h all)))
    ∙ hours_sum length refl length-append (hours all) all (hours_once all)

-- so is each ruling on a side of a Thing
pub times_of_hours : (mac : Mac) (side : Direction) (ruling : Ruling) (all : List Seen) → total (λ h. times_of mac side ruling (rulings (in_hour h all))) (hours all) ≡ times_of mac side ruling (rulings all)
unfolding of_hour times_of count_of
times_of_hours mac side ruling all = hours_sum (times_of mac side ruling) refl both (hours all) all (hours_once all)
  where
    both : (xs ys : List Ruled) → times_of mac side ruling (xs ++ ys) ≡ times_of mac side ruling xs + times_of mac side ruling ys
    both xs ys =
        ap (λ (rows : List CountRow). length (filter (same_sort_key p) (map sort_key_of_count rows))) (map-append count_row xs ys)
        ∙ ap (λ (ps : List SortKey). length (filter (same_sort_key p) ps)) (map-append sort_key_of_count (map count_row xs) (map count_row ys))
        ∙ ap length (filter-append (same_sort_key p) (map sort_key_of_count (map count_row xs)) (map sort_key_of_count (map count_row ys)))
        ∙ length-append (filter (same_sort_key p) (map sort_key_of_count (map count_row xs))) (filter (same_sort_key p) (map sort_key_of_count (map count_row ys)))
      where
        p : SortKey
        p = sort_key_of_count (record { mac = mac; side = side; ruling = ruling; count = 0 })
