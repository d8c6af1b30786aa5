-- A tally with one packet more.
use Rattle.std.proofs.Common.{◌≡◌, ℕ, ◌+◌, ◌≤◌, ◌<◌, ◌⊎◌, inl, inr, Bool, true, false, cond, not, List, [], ◌∷◌, ◌++◌, length, Option, Some, None, refl, sym, ap, subst, ◌∙◌, arith, length-append, add-zero}
use Rattle.std.specs.Prelude.{IfSome, option_to_list, option_map}
use Rattle.std.proofs.lemmas.List.{append-nil}
use Rattle.mud_base.specs.declared.packet.Direction.TheVariants.{From, To}
use Rattle.acl_model.specs.declared.ruling.Ruling.{Ruling}
use Rattle.packet_judge.specs.declared.verdict.Verdict.{Verdict}
use Rattle.packet_judge.specs.declared.verdict.Verdict.TheVariants.{Unmanaged, Link, Unreadable, Governed}
use Rattle.packet_judge.specs.Verdicts.{forwarded}
use Rattle.drop_ledger.specs.declared.rows.CountRow.{CountRow}
use Rattle.drop_ledger.specs.declared.rows.DeniedRow.{DeniedRow}
use Rattle.drop_ledger.specs.declared.rows.OtherRow.{OtherRow}
use Rattle.drop_ledger.specs.declared.seen.Seen.{Seen}
use Rattle.drop_ledger.specs.declared.seen.Ruled.{Ruled}
use Rattle.drop_ledger.specs.declared.totals.Totals.{Totals}
use Rattle.drop_ledger.specs.Seen.{hour_of, mac_on, ruling_on, ruled_on, rulings, is_governed, has_both, totals_in, AreSums, is_ruled}
use Rattle.drop_ledger.specs.Steps.{governed_after, totals_after}
use Rattle.drop_ledger.specs.Ledger.{counts_of, AreDenied, TallyState, hour_in, StandsFor, MayFollow, times_ruled}
use Rattle.drop_ledger.proofs.LedgerLaws.{verdicts_first, no_verdicts, rulings_more, ruled_few, received_few}
use Rattle.drop_ledger.proofs.Parts.{ruled, passes, drops, verdicts, is_unmanaged, is_link, is_unreadable}

-- ---- Totals

verdicts_more : (test : Verdict → Bool) (all : List Seen) (s : Seen) → verdicts test (all ++ s ∷ []) ≡ verdicts test all + cond (test s.verdict) 1 0
verdicts_more test [] s = let first = verdicts_first test s [] in let none = no_verdicts test in omega (arith, first, none)
verdicts_more test (x ∷ all) s =
    let rest = verdicts_more test all s in
    let first = verdicts_first test x all in
    let longer = verdicts_first test x (all ++ s ∷ []) in
    omega (arith, rest, first, longer)

more_if : (b : Bool) (n : ℕ) → n + cond b 1 0 ≡ cond b (n + 1) n
more_if true n = refl
more_if false n = add-zero n

more_not : (b : Bool) (n : ℕ) → n + cond (not b) 1 0 ≡ cond b n (n + 1)
more_not true n = add-zero n
more_not false n = refl

abbrev totals : ℕ → ℕ → ℕ → ℕ → ℕ → ℕ → ℕ → Totals
totals packets unmanaged link unreadable pass drop both = record { packets = packets; unmanaged = unmanaged; link = link; unreadable = unreadable; pass = pass; drop = drop; both = both }

abbrev counted : Totals → Verdict → Totals
counted t v = totals (t.packets + 1) (t.unmanaged + cond (is_unmanaged v) 1 0) (t.link + cond (is_link v) 1 0) (t.unreadable + cond (is_unreadable v) 1 0) (t.pass + cond (passes v) 1 0) (t.drop + cond (drops v) 1 0) (t.both + cond (has_both v) 1 0)

counted_is : (t : Totals) (v : Verdict) → counted t v ≡ totals_after t v
unfolding totals_after governed_after is_governed has_both
counted_is t Unmanaged = λ i. totals (t.packets + 1) (t.unmanaged + 1) (add-zero t.link i) (add-zero t.unreadable i) (add-zero t.pass i) (add-zero t.drop i) (add-zero t.both i)
counted_is t Link = λ i. totals (t.packets + 1) (add-zero t.unmanaged i) (t.link + 1) (add-zero t.unreadable i) (add-zero t.pass i) (add-zero t.drop i) (add-zero t.both i)
counted_is t (Unreadable part) = λ i. totals (t.packets + 1) (add-zero t.unmanaged i) (add-zero t.link i) (t.unreadable + 1) (add-zero t.pass i) (add-zero t.drop i) (add-zero t.both i)
counted_is t (Governed a b) = λ i. totals (t.packets + 1) (add-zero t.unmanaged i) (add-zero t.link i) (add-zero t.unreadable i) (more_if (forwarded (Governed a b)) t.pass i) (more_not (forwarded (Governed a b)) t.drop i) (more_if (has_both (Governed a b)) t.both i)

-- the totals count one packet more by its verdict
pub totals_more : (all : List Seen) (s : Seen) → totals_in (all ++ s ∷ []) ≡ totals_after (totals_in all) s.verdict
unfolding totals_in
totals_more all s =
    (λ i. totals (length-append all (s ∷ []) i) (verdicts_more is_unmanaged all s i) (verdicts_more is_link all s i) (verdicts_more is_unreadable all s i) (verdicts_more passes all s i) (verdicts_more drops all s i) (verdicts_more has_both all s i))
    ∙ counted_is (totals_in all) s.verdict

one_of : (pass drop both : ℕ) (b c : Bool) → both ≤ pass + drop → cond c (both + 1) both ≤ cond b (pass + 1) pass + cond b drop (drop + 1)
one_of pass drop both true true few = omega arith
one_of pass drop both true false few = omega arith
one_of pass drop both false true few = omega arith
one_of pass drop both false false few = omega arith

sum_of_all : (packets unmanaged link unreadable pass drop : ℕ) (b : Bool) → packets ≡ unmanaged + link + unreadable + pass + drop → packets + 1 ≡ unmanaged + link + unreadable + cond b (pass + 1) pass + cond b drop (drop + 1)
sum_of_all packets unmanaged link unreadable pass drop true is = omega arith
sum_of_all packets unmanaged link unreadable pass drop false is = omega arith

pub sums_after : (t : Totals) (v : Verdict) → AreSums t → AreSums (totals_after t v)
unfolding totals_after governed_after
sums_after t Unmanaged sums = record { packets = omega arith; both = omega arith }
sums_after t Link sums = record { packets = omega arith; both = omega arith }
sums_after t (Unreadable part) sums = record { packets = omega arith; both = omega arith }
sums_after t (Governed a b) sums = record {
  packets = sum_of_all t.packets t.unmanaged t.link t.unreadable t.pass t.drop (forwarded (Governed a b)) sums.packets;
  both = one_of t.pass t.drop t.both (forwarded (Governed a b)) (has_both (Governed a b)) sums.both;
}

-- the totals of any packets are sums
pub totals_sums : (all : List Seen) → AreSums (totals_in all)
unfolding totals_in
totals_sums all = sums_from [] all sums_none
  where
    sums_none : AreSums (totals_in [])
    sums_none = record { packets = refl; both = omega arith }

    sums_from : (done rest : List Seen) → AreSums (totals_in done) → AreSums (totals_in (done ++ rest))
    sums_from done [] sums = subst (λ l. AreSums (totals_in l)) (sym (append-nil done)) sums
    sums_from done (s ∷ rest) sums = subst (λ l. AreSums (totals_in l)) (moved done) (sums_from (done ++ s ∷ []) rest (subst AreSums (sym (totals_more done s)) (sums_after (totals_in done) s.verdict sums)))
      where
        moved : (l : List Seen) → (l ++ s ∷ []) ++ rest ≡ l ++ s ∷ rest
        moved [] = refl
        moved (y ∷ l) = ap (λ m. y ∷ m) (moved l)

-- ---- Hours

unfoldable pub first_some : Option ℕ → Option ℕ → Option ℕ
first_some None o = o
first_some (Some h) o = Some h

chosen : (b : Bool) (h : ℕ) (o p : Option ℕ) → cond b (Some h) (first_some o p) ≡ first_some (cond b (Some h) o) p
unfolding first_some
chosen true h o p = refl
chosen false h o p = refl

pub hour-append : (xs ys : List Seen) → hour_in (xs ++ ys) ≡ first_some (hour_in xs) (hour_in ys)
unfolding hour_in first_some
hour-append [] ys = refl
hour-append (x ∷ xs) ys = ap (cond (is_ruled x) (Some (hour_of x))) (hour-append xs ys) ∙ chosen (is_ruled x) (hour_of x) (hour_in xs) (hour_in ys)

same_hour : (h : ℕ) (b : Bool) (hour : Option ℕ) → ((hour ≡ None) ⊎ (hour ≡ Some h)) → cond b (Some h) hour ≡ first_some hour (cond b (Some h) None)
unfolding first_some
same_hour h b hour (inl none) = ap (cond b (Some h)) none ∙ sym (ap (λ o. first_some o (cond b (Some h) None)) none)
same_hour h true hour (inr some) = sym (ap (λ o. first_some o (Some h)) some)
same_hour h false hour (inr some) = some ∙ sym (ap (λ o. first_some o None) some)

-- the hour stays that of the first packet with a ruling
pub hour_more : (latest : List Seen) (s : Seen) (hour : Option ℕ) → hour ≡ hour_in latest → ((hour ≡ None) ⊎ (hour ≡ Some (hour_of s))) → cond (is_ruled s) (Some (hour_of s)) hour ≡ hour_in (latest ++ s ∷ [])
unfolding hour_in
hour_more latest s hour is may =
    same_hour (hour_of s) (is_ruled s) hour may
    ∙ ap (λ o. first_some o (cond (is_ruled s) (Some (hour_of s)) None)) is
    ∙ sym (hour-append latest (s ∷ []))

-- ---- A packet

-- how often the Thing at an endpoint was ruled on before is below the number of packets
sent_fits : (o : Option Ruled) (all : List Seen) (n : ℕ) → length all ≤ n → n < 18446744073709551615 → IfSome o (λ r. times_ruled r.mac r.side (rulings all) + 1 < 18446744073709551616)
sent_fits None all n less few = tt
sent_fits (Some r) all n less few = let most = ruled_few r.mac r.side all in omega arith

received_fits_by : (s : Seen) (o : Option Ruling) (all : List Seen) (n : ℕ) → length all ≤ n → n < 18446744073709551615 → IfSome (option_map (ruled s To) o) (λ r. times_ruled r.mac r.side (rulings all ++ option_to_list (ruled_on s From)) + 1 < 18446744073709551616)
received_fits_by s None all n less few = tt
received_fits_by s (Some ruling) all n less few = let most = received_few (mac_on s To) all s in omega arith

received_fits : (s : Seen) (all : List Seen) (n : ℕ) → length all ≤ n → n < 18446744073709551615 → IfSome (ruled_on s To) (λ r. times_ruled r.mac r.side (rulings all ++ option_to_list (ruled_on s From)) + 1 < 18446744073709551616)
unfolding ruled_on
received_fits s all n less few = received_fits_by s (ruling_on s.verdict To) all n less few

module _ (all latest : List Seen) (t : TallyState) (stands : StandsFor all latest t) (s : Seen) (may : MayFollow t s) where
  packets_few : length all < 18446744073709551615
  unfolding totals_in
  packets_few = subst (λ n. n < 18446744073709551615) (ap (λ (x : Totals). x.packets) stands.totals) may.few

  module _ (sent received : Option Ruled) (sent_is : sent ≡ ruled_on s From) (received_is : received ≡ ruled_on s To) where
    abbrev SaysCounts : Option Ruled → List CountRow → List CountRow → Type 0
    SaysCounts end rows rows' = (done : List Ruled) → rows ≡ counts_of done → IfSome end (λ r. times_ruled r.mac r.side done + 1 < 18446744073709551616) → rows' ≡ counts_of (done ++ option_to_list end)

    abbrev SaysDenied : Option Ruled → List DeniedRow → List DeniedRow → List OtherRow → List OtherRow → Type 0
    SaysDenied end rows rows' others others' = (done : List Ruled) → AreDenied done rows others → IfSome end (λ r. times_ruled r.mac r.side done + 1 < 18446744073709551616) → AreDenied (done ++ option_to_list end) rows' others'

    pub counts_noted : (one two : List CountRow) → SaysCounts sent t.counts.rows one → SaysCounts received one two → two ≡ counts_of (rulings (latest ++ s ∷ []))
    counts_noted one two first second =
        let few : length latest ≤ length all = stands.few in
        let first' : one ≡ counts_of (rulings latest ++ option_to_list (ruled_on s From)) =
        first (rulings latest) stands.counts (sent_fits sent latest (length all) few packets_few) ∙ ap (λ o. counts_of (rulings latest ++ option_to_list o)) sent_is in
        second (rulings latest ++ option_to_list (ruled_on s From)) first' (subst (λ o. IfSome o (λ r. times_ruled r.mac r.side (rulings latest ++ option_to_list (ruled_on s From)) + 1 < 18446744073709551616)) (sym received_is) (received_fits s latest (length all) few packets_few))
        ∙ ap (λ o. counts_of ((rulings latest ++ option_to_list (ruled_on s From)) ++ option_to_list o)) received_is
        ∙ ap counts_of (sym (rulings_more latest s))

    pub denied_noted : (one two : List DeniedRow) (ones twos : List OtherRow) → SaysDenied sent t.denied.rows one t.others.rows ones → SaysDenied received one two ones twos → AreDenied (rulings (all ++ s ∷ [])) two twos
    denied_noted one two ones twos first second =
        let less : length all ≤ length all = omega arith in
        let first' : AreDenied (rulings all ++ option_to_list (ruled_on s From)) one ones =
        subst (λ o. AreDenied (rulings all ++ option_to_list o) one ones) sent_is (first (rulings all) stands.denied (sent_fits sent all (length all) less packets_few)) in
        subst (λ rs. AreDenied rs two twos) (sym (rulings_more all s))
        (subst (λ o. AreDenied ((rulings all ++ option_to_list (ruled_on s From)) ++ option_to_list o) two twos) received_is
        (second (rulings all ++ option_to_list (ruled_on s From)) first' (subst (λ o. IfSome o (λ r. times_ruled r.mac r.side (rulings all ++ option_to_list (ruled_on s From)) + 1 < 18446744073709551616)) (sym received_is) (received_fits s all (length all) less packets_few))))

    pub noted : (t' : TallyState) (one : List CountRow) (first : List DeniedRow) (firsts : List OtherRow)
        → t'.totals ≡ totals_after t.totals s.verdict → t'.hour ≡ cond (is_ruled s) (Some (hour_of s)) t.hour
        → SaysCounts sent t.counts.rows one → SaysCounts received one t'.counts.rows
        → SaysDenied sent t.denied.rows first t.others.rows firsts → SaysDenied received first t'.denied.rows firsts t'.others.rows
        → StandsFor (all ++ s ∷ []) (latest ++ s ∷ []) t'
    noted t' one first firsts totals_are hour_is counts_first counts_second denied_first denied_second = record {
      totals = totals_are ∙ ap (λ x. totals_after x s.verdict) stands.totals ∙ sym (totals_more all s);
      hour = hour_is ∙ hour_more latest s t.hour stands.hour may.hour;
      counts = counts_noted one t'.counts.rows counts_first counts_second;
      denied = denied_noted first t'.denied.rows firsts t'.others.rows denied_first denied_second;
      few = let more = length-append all (s ∷ []) in let more' = length-append latest (s ∷ []) in let less = stands.few in omega arith;
    }
