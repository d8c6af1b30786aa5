-- The lines as they are written are those that the list of the packets tells.
use Rattle.std.proofs.Common.{◌≡◌, ℕ, ◌/◌, ◌≤◌, ◌<◌, Bool, true, false, cond, not, List, [], ◌∷◌, ◌++◌, max, Option, Some, None, refl, sym, ap, subst, ◌∙◌, arith, append_assoc}
use Rattle.std.specs.Prelude.{flat_map, ◌==◌}
use Rattle.std.specs.List.{filter, AllByRecursion}
use Rattle.std.proofs.lemmas.Bool.{false≢true, eqb-true, eq-eqb}
use Rattle.std.proofs.lemmas.Option.{same_Some, none-some}
use Rattle.std.proofs.lemmas.Grind.{flat_map-append}
use Rattle.std.proofs.lemmas.List.Elements.{filter-append}
use Rattle.std.proofs.lemmas.List.{append-nil}
use Rattle.frame_view.specs.declared.views.Frame.{Frame}
use Rattle.frame_view.specs.declared.views.Frame.TheVariants as frame
use Rattle.frame_view.specs.Frame.{frame_of}
use Rattle.packet_judge.specs.declared.verdict.Verdict.{Verdict}
use Rattle.read_buffer.specs.Packets.{Packet}
use Rattle.run_captures.specs.Fold.{lines_from, state_after}
use Rattle.desk_model.specs.Sessions.{Session, Judged, frame_in, later}
use Rattle.run_desk.specs.Judged.{judged_packet}
use Rattle.drop_ledger.specs.declared.seen.Seen.{Seen}
use Rattle.drop_ledger.specs.declared.seen.Ruled.{Ruled}
use Rattle.drop_ledger.specs.Seen.{hour_of, is_ruled, rulings}
use Rattle.drop_ledger.specs.Ledger.{counts_of, hour_in}
use Rattle.drop_ledger.proofs.LedgerLaws.{none_ruled}
use Rattle.drop_ledger.proofs.TallyLaws.{first_some, hour-append}
use Rattle.run_packets.specs.Tally.Texts.{hour_lines}
use Rattle.run_packets.specs.Tally.Tallied.{Tallied, begun, seen_as, seen_of, seen_in, hours, in_hour, ending_of, tally_text, is_over, closing, latest_with, tally_step, tally_ending}
use Rattle.drop_ledger.proofs.Parts.{rulings_in}
use Rattle.run_packets.proofs.Parts.{text_of_hour, closed_before}
use Rattle.desk_model.proofs.Parts.{judged}

-- ---- The lines by the list of what was seen

unfoldable pub fold_text : List Seen → List Seen → List ℕ
fold_text latest [] = closing latest
fold_text latest (s ∷ rest) = closed_before latest s ++ fold_text (latest_with latest s) rest

-- the lines of the packets and those at the end, as a step over the list
pub written_as : (t : Tallied) (packets : List Packet) → lines_from tally_step t packets ++ tally_ending (state_after tally_step t packets) ≡ fold_text t.latest (seen_in t.session packets) ++ ending_of (t.all ++ seen_in t.session packets)
unfolding fold_text seen_in tally_ending tally_step
written_as t [] = ap (λ l. closing t.latest ++ ending_of l) (sym (append-nil t.all))
written_as t (packet ∷ packets) =
    let judged = judged_packet t.session packet in
    let s = seen_of judged packet in
    let next : Tallied = record { session = judged.session; all = t.all ++ s ∷ []; latest = latest_with t.latest s } in
    append_assoc (closed_before t.latest s) (lines_from tally_step next packets) (tally_ending (state_after tally_step next packets))
    ∙ ap (λ l. closed_before t.latest s ++ l) (written_as next packets)
    ∙ sym (append_assoc (closed_before t.latest s) (fold_text (latest_with t.latest s) (seen_in judged.session packets)) (ending_of ((t.all ++ s ∷ []) ++ seen_in judged.session packets)))
    ∙ ap (λ l. closed_before t.latest s ++ fold_text (latest_with t.latest s) (seen_in judged.session packets) ++ ending_of l) (append_assoc t.all (s ∷ []) (seen_in judged.session packets))

-- ---- Tests

same_number : (n : ℕ) → (n == n) ≡ true
same_number n = eq-eqb n n refl

not_same : (m n : ℕ) → (m ≡ n → ⊥) → (m == n) ≡ false
not_same m n apart = by (m == n) refl
  where
    by : (b : Bool) → (m == n) ≡ b → (m == n) ≡ false
    by true e = absurd (apart (eqb-true m n e))
    by false e = e

apart_of : (m n : ℕ) → (m == n) ≡ false → m ≡ n → ⊥
apart_of m n e same = false≢true (sym e ∙ eq-eqb m n same)

-- ---- Lists in which all rulings are of one hour

-- where there are rulings, they are of this hour
unfoldable pub One : Option ℕ → List Seen → Type 0
One o l = AllByRecursion (λ x. is_ruled x ≡ true → o ≡ Some (hour_of x)) l

-- each packet is of a later hour
unfoldable pub Above : ℕ → List Seen → Type 0
Above h l = AllByRecursion (λ x. h < hour_of x) l

-- no packet is of an earlier hour
abbrev pub NotBefore : ℕ → List Seen → Type 0
NotBefore h l = AllByRecursion (λ x. h ≤ hour_of x) l

-- hours never go back
abbrev pub IsForward : List Seen → Type 0
IsForward [] = Unit {0}
IsForward (s ∷ rest) = NotBefore (hour_of s) rest × IsForward rest

abbrev other_than : ℕ → ℕ → Bool
other_than h g = not (g == h)

-- ---- Hours

twice_by : (h g : ℕ) (l : List ℕ) → filter (other_than h) (filter (other_than h) l) ≡ filter (other_than h) l → (b : Bool) → other_than h g ≡ b
    → filter (other_than h) (cond b (g ∷ filter (other_than h) l) (filter (other_than h) l)) ≡ cond b (g ∷ filter (other_than h) l) (filter (other_than h) l)
twice_by h g l rest true e = ap (λ b. cond b (g ∷ filter (other_than h) (filter (other_than h) l)) (filter (other_than h) (filter (other_than h) l))) e ∙ ap (λ m. g ∷ m) rest
twice_by h g l rest false e = rest

filter_twice : (h : ℕ) (l : List ℕ) → filter (other_than h) (filter (other_than h) l) ≡ filter (other_than h) l
filter_twice h [] = refl
filter_twice h (g ∷ l) = twice_by h g l (filter_twice h l) (other_than h g) refl

-- nothing goes where no hour is this one
filter_none : (h : ℕ) (l : List ℕ) → AllByRecursion (λ g. (g == h) ≡ false) l → filter (other_than h) l ≡ l
filter_none h [] apart = refl
filter_none h (g ∷ l) apart = ap (λ b. cond (not b) (g ∷ filter (other_than h) l) (filter (other_than h) l)) apart.0 ∙ ap (λ m. g ∷ m) (filter_none h l apart.1)

kept_by : (h g k : ℕ) (l : List ℕ) → (g == h) ≡ false → AllByRecursion (λ n. (n == h) ≡ false) (filter (other_than k) l) → (b : Bool) → AllByRecursion (λ n. (n == h) ≡ false) (cond b (g ∷ filter (other_than k) l) (filter (other_than k) l))
kept_by h g k l first rest true = (first, rest)
kept_by h g k l first rest false = rest

apart_kept : (h k : ℕ) (l : List ℕ) → AllByRecursion (λ n. (n == h) ≡ false) l → AllByRecursion (λ n. (n == h) ≡ false) (filter (other_than k) l)
apart_kept h k [] apart = tt
apart_kept h k (g ∷ l) apart = kept_by h g k l apart.0 (apart_kept h k l apart.1) (other_than k g)

hours_by : (h n : ℕ) (l : List ℕ) → h < n → AllByRecursion (λ g. (g == h) ≡ false) l → (b : Bool) → AllByRecursion (λ g. (g == h) ≡ false) (cond b (n ∷ filter (other_than n) l) l)
hours_by h n l less apart true = (not_same n h (λ e. absurd (omega (arith, e))), apart_kept h n l apart)
hours_by h n l less apart false = apart

-- an hour before all packets is none of theirs
hours_apart : (h : ℕ) (l : List Seen) → Above h l → AllByRecursion (λ g. (g == h) ≡ false) (hours l)
unfolding hours Above
hours_apart h [] above = tt
hours_apart h (s ∷ l) above = hours_by h (hour_of s) (hours l) above.0 (hours_apart h l above.1) (is_ruled s)

-- the hours behind an hour, where the packets in front are of that hour
behind_by : (h n : ℕ) (l r : List ℕ) → filter (other_than h) l ≡ r → (b : Bool) → (b ≡ true → Some h ≡ Some n) → filter (other_than h) (cond b (n ∷ filter (other_than n) l) l) ≡ r
behind_by h n l r rest true same =
    let is : n ≡ h = sym (same_Some h n (same refl)) in
    ap (λ m. filter (other_than h) (m ∷ filter (other_than m) l)) is
    ∙ ap (λ b. cond (not b) (h ∷ filter (other_than h) (filter (other_than h) l)) (filter (other_than h) (filter (other_than h) l))) (same_number h)
    ∙ filter_twice h l ∙ rest
behind_by h n l r rest false same = rest

hours_behind : (h : ℕ) (l x : List Seen) → One (Some h) l → Above h x → filter (other_than h) (hours (l ++ x)) ≡ hours x
unfolding hours One
hours_behind h [] x one above = filter_none h (hours x) (hours_apart h x above)
hours_behind h (y ∷ l) x one above = behind_by h (hour_of y) (hours (l ++ x)) (hours x) (hours_behind h l x one.1 above) (is_ruled y) one.0

first_by : (h n : ℕ) (l r : List ℕ) (later : Option ℕ) → filter (other_than h) l ≡ r → (later ≡ Some h → l ≡ h ∷ r) → (b : Bool) → cond b (Some n) later ≡ Some h → cond b (n ∷ filter (other_than n) l) l ≡ h ∷ r
first_by h n l r later rest others true is = let e : n ≡ h = same_Some n h is in ap (λ m. m ∷ filter (other_than m) l) e ∙ ap (λ m. h ∷ m) rest
first_by h n l r later rest others false is = others is

-- the hour of the packets in front, and then those behind
hours_first : (h : ℕ) (l x : List Seen) → hour_in l ≡ Some h → One (Some h) l → Above h x → hours (l ++ x) ≡ h ∷ hours x
unfolding hours hour_in One
hours_first h [] x is one above = absurd (none-some h is)
hours_first h (y ∷ l) x is one above = first_by h (hour_of y) (hours (l ++ x)) (hours x) (hour_in l) (hours_behind h l x one.1 above) (λ later. hours_first h l x later one.1 above) (is_ruled y) is

no_hours_by : (n : ℕ) (l : List ℕ) (later : Option ℕ) → (later ≡ None → l ≡ []) → (b : Bool) → cond b (Some n) later ≡ None → cond b (n ∷ filter (other_than n) l) l ≡ []
no_hours_by n l later others true is = absurd (none-some n (sym is))
no_hours_by n l later others false is = others is

no_hours : (l : List Seen) → hour_in l ≡ None → hours l ≡ []
unfolding hours hour_in
no_hours [] is = refl
no_hours (y ∷ l) is = no_hours_by (hour_of y) (hours l) (hour_in l) (no_hours l) (is_ruled y) is

-- ---- The rulings of an hour

rulings_kept : (s : Seen) (l : List Seen) (r : List Ruled) → rulings l ≡ r → (b : Bool) → (b ≡ false → rulings_in s ≡ []) → rulings (cond b (s ∷ l) l) ≡ rulings_in s ++ r
unfolding rulings
rulings_kept s l r rest true none = ap (λ m. rulings_in s ++ m) rest
rulings_kept s l r rest false none = rest ∙ ap (λ m. m ++ r) (sym (none refl))

rulings_gone : (s : Seen) (l : List Seen) → rulings l ≡ [] → (b : Bool) → (b ≡ true → rulings_in s ≡ []) → rulings (cond b (s ∷ l) l) ≡ []
unfolding rulings
rulings_gone s l rest true none = (λ i. none refl i ++ rest i)
rulings_gone s l rest false none = rest

ruled_or_none : (s : Seen) (P : Type 0) → (is_ruled s ≡ true → P) → ((rulings_in s ≡ []) → P) → P
ruled_or_none s P ruled none = by (is_ruled s) refl
  where
    by : (b : Bool) → is_ruled s ≡ b → P
    by true e = ruled e
    by false e = none (none_ruled s e)

-- all rulings of packets of one hour are of that hour
own_rulings : (h : ℕ) (l : List Seen) → One (Some h) l → rulings (in_hour h l) ≡ rulings l
unfolding in_hour rulings One
own_rulings h [] one = refl
own_rulings h (s ∷ l) one = rulings_kept s (in_hour h l) (rulings l) (own_rulings h l one.1) (hour_of s == h)
    (λ other. ruled_or_none s (rulings_in s ≡ []) (λ ruled. absurd (apart_of (hour_of s) h other (sym (same_Some h (hour_of s) (one.0 ruled))))) (λ none. none))

-- and of no other one
no_rulings_of : (h g : ℕ) (l : List Seen) → (g == h) ≡ false → One (Some h) l → rulings (in_hour g l) ≡ []
unfolding in_hour rulings One
no_rulings_of h g [] apart one = refl
no_rulings_of h g (s ∷ l) apart one = rulings_gone s (in_hour g l) (no_rulings_of h g l apart one.1) (hour_of s == g)
    (λ same. ruled_or_none s (rulings_in s ≡ []) (λ ruled. absurd (apart_of g h apart (sym (eqb-true (hour_of s) g same) ∙ sym (same_Some h (hour_of s) (one.0 ruled))))) (λ none. none))

above_rulings : (h : ℕ) (l : List Seen) → Above h l → in_hour h l ≡ []
unfolding in_hour Above
above_rulings h [] above = refl
above_rulings h (s ∷ l) above = ap (λ b. cond b (s ∷ in_hour h l) (in_hour h l)) (not_same (hour_of s) h (λ e. absurd (omega (arith, e, above.0)))) ∙ above_rulings h l above.1

in_both : (h : ℕ) (l x : List Seen) → in_hour h (l ++ x) ≡ in_hour h l ++ in_hour h x
unfolding in_hour
in_both h l x = filter-append (λ s. hour_of s == h) l x

rulings_both : (l x : List Seen) → rulings (l ++ x) ≡ rulings l ++ rulings x
unfolding rulings
rulings_both l x = flat_map-append rulings_in l x

first_rulings : (h : ℕ) (l x : List Seen) → One (Some h) l → Above h x → rulings (in_hour h (l ++ x)) ≡ rulings l
first_rulings h l x one above = ap rulings (in_both h l x ∙ ap (λ m. in_hour h l ++ m) (above_rulings h x above) ∙ append-nil (in_hour h l)) ∙ own_rulings h l one

later_rulings : (h g : ℕ) (l x : List Seen) → (g == h) ≡ false → One (Some h) l → rulings (in_hour g (l ++ x)) ≡ rulings (in_hour g x)
later_rulings h g l x apart one = ap rulings (in_both g l x) ∙ rulings_both (in_hour g l) (in_hour g x) ∙ ap (λ m. m ++ rulings (in_hour g x)) (no_rulings_of h g l apart one)

-- ---- The text of the hours

same_texts : (f g : ℕ → List ℕ) (h : ℕ) (l : List ℕ) → AllByRecursion (λ n. (n == h) ≡ false) l → ((n : ℕ) → (n == h) ≡ false → f n ≡ g n) → flat_map f l ≡ flat_map g l
same_texts f g h [] apart same = refl
same_texts f g h (n ∷ l) apart same = (λ i. same n apart.0 i ++ same_texts f g h l apart.1 same i)

abbrev text_of_hours : List Seen → List ℕ
text_of_hours all = flat_map (text_of_hour all) (hours all)

-- the hour of the packets in front is closed before those behind it
closed_first : (h : ℕ) (l x : List Seen) → hour_in l ≡ Some h → One (Some h) l → Above h x → closing l ++ text_of_hours x ≡ text_of_hours (l ++ x)
unfolding closing
closed_first h l x is one above =
    (λ i. hour_lines (is i) (counts_of (sym (first_rulings h l x one above) i)) ++ flat_map (text_of_hour x) (hours x))
    ∙ ap (λ m. text_of_hour (l ++ x) h ++ m) (same_texts (text_of_hour x) (text_of_hour (l ++ x)) h (hours x) (hours_apart h x above) (λ g apart. ap (λ rs. hour_lines (Some g) (counts_of rs)) (sym (later_rulings h g l x apart one))))
    ∙ ap (flat_map (text_of_hour (l ++ x))) (sym (hours_first h l x is one above))

at_end : (l : List Seen) → One (hour_in l) l → (o : Option ℕ) → hour_in l ≡ o → closing l ≡ text_of_hours (l ++ [])
unfolding Above closing hour_lines hours
at_end l one None is = ap (λ o. hour_lines o (counts_of (rulings l))) is ∙ sym (ap (flat_map (text_of_hour (l ++ []))) (no_hours (l ++ []) (ap hour_in (append-nil l) ∙ is)))
at_end l one (Some h) is = sym (append-nil (closing l)) ∙ closed_first h l [] is (subst (λ o. One o l) is one) tt

-- ---- One packet more

hour_one : (s : Seen) → hour_in (s ∷ []) ≡ cond (is_ruled s) (Some (hour_of s)) None
unfolding hour_in
hour_one s = refl

one_alone : (s : Seen) → One (hour_in (s ∷ [])) (s ∷ [])
unfolding One
one_alone s = ((λ ruled. hour_one s ∙ ap (λ b. cond b (Some (hour_of s)) None) ruled), tt)

hour_of_one : (s : Seen) (h : ℕ) → hour_in (s ∷ []) ≡ Some h → hour_of s ≡ h
hour_of_one s h e = by (is_ruled s) (sym (hour_one s) ∙ e)
  where
    by : (b : Bool) → cond b (Some (hour_of s)) None ≡ Some h → hour_of s ≡ h
    by true is = same_Some (hour_of s) h is
    by false is = absurd (none-some h is)

-- with a packet of the same hour, or where no hour was begun, all rulings are of one hour
one_more_by : (o p : Option ℕ) (l : List Seen) (s : Seen) → One o l → (o ≡ None → (is_ruled s ≡ true → p ≡ Some (hour_of s))) → ((h : ℕ) → o ≡ Some h → hour_of s ≡ h) → One (first_some o p) (l ++ s ∷ [])
unfolding One first_some
one_more_by None p [] s one alone same = (alone refl, tt)
one_more_by (Some h) p [] s one alone same = ((λ ruled. ap Some (sym (same h refl))), tt)
one_more_by None p (x ∷ l) s one alone same = ((λ ruled. absurd (none-some (hour_of x) (one.0 ruled))), one_more_by None p l s one.1 alone same)
one_more_by (Some h) p (x ∷ l) s one alone same = (one.0, one_more_by (Some h) p l s one.1 alone same)

same_hour : (o : Option ℕ) (now : ℕ) → is_over o now ≡ false → (h : ℕ) → o ≡ Some h → now ≡ h
unfolding is_over
same_hour None now e h is = absurd (none-some h is)
same_hour (Some k) now e h is = by (k == now) refl
  where
    by : (b : Bool) → (k == now) ≡ b → now ≡ h
    by true f = sym (eqb-true k now f) ∙ same_Some k h is
    by false f = absurd (false≢true (sym e ∙ ap not f))

other_hour : (o : Option ℕ) (now : ℕ) → is_over o now ≡ true → (h : ℕ) × ((o ≡ Some h) × ((h == now) ≡ false))
unfolding is_over
other_hour None now e = absurd (false≢true e)
other_hour (Some k) now e = (k, (refl, by (k == now) refl))
  where
    by : (b : Bool) → (k == now) ≡ b → (k == now) ≡ false
    by true f = absurd (false≢true (sym (ap not f) ∙ e))
    by false f = f

above_from : (h n : ℕ) (l : List Seen) → h < n → NotBefore n l → Above h l
unfolding Above
above_from h n [] less from = tt
above_from h n (s ∷ l) less from = (omega (arith, from.0), above_from h n l less from.1)

own_from_by : (s : Seen) (rest : List Seen) → NotBefore (hour_of s) rest → (h : ℕ) → hour_in (s ∷ []) ≡ Some h → NotBefore h rest
own_from_by s rest later h e = subst (λ n. NotBefore n rest) (hour_of_one s h e) later

-- no packet to come is of an earlier hour than the rulings so far
unfoldable pub From : List Seen → List Seen → Type 0
From latest rest = (h : ℕ) → hour_in latest ≡ Some h → NotBefore h rest

own_from : (s : Seen) (rest : List Seen) → NotBefore (hour_of s) rest → From (s ∷ []) rest
unfolding From
own_from s rest later = own_from_by s rest later

some_hour : (o p : Option ℕ) (k h : ℕ) → first_some o p ≡ Some h → ((n : ℕ) → o ≡ Some n → k ≡ n) → ((n : ℕ) → p ≡ Some n → k ≡ n) → k ≡ h
unfolding first_some
some_hour None p k h e first second = second h e
some_hour (Some n) p k h e first second = first n refl ∙ same_Some n h e

goes_on : (latest : List Seen) (s : Seen) → One (hour_in latest) latest → is_over (hour_in latest) (hour_of s) ≡ false → One (hour_in (latest ++ s ∷ [])) (latest ++ s ∷ [])
goes_on latest s one same = subst (λ o. One o (latest ++ s ∷ [])) (sym (hour-append latest (s ∷ [])))
    (one_more_by (hour_in latest) (hour_in (s ∷ [])) latest s one (λ none ruled. hour_one s ∙ ap (λ b. cond b (Some (hour_of s)) None) ruled) (same_hour (hour_in latest) (hour_of s) same))

from_on : (latest rest : List Seen) (s : Seen) → NotBefore (hour_of s) rest → is_over (hour_in latest) (hour_of s) ≡ false → From (latest ++ s ∷ []) rest
unfolding From
from_on latest rest s later same = λ h e. subst (λ n. NotBefore n rest)
    (some_hour (hour_in latest) (hour_in (s ∷ [])) (hour_of s) h (sym (hour-append latest (s ∷ [])) ∙ e) (same_hour (hour_in latest) (hour_of s) same) (hour_of_one s)) later

less_by : (h n : ℕ) → h ≤ n → (h ≡ n → ⊥) → h < n
less_by h n le apart = omega (arith, apart)

above_all : (h : ℕ) (s : Seen) (rest : List Seen) → h ≤ hour_of s → (h == hour_of s) ≡ false → NotBefore (hour_of s) rest → Above h (s ∷ rest)
unfolding Above
above_all h s rest le apart later =
    let less : h < hour_of s = less_by h (hour_of s) le (apart_of h (hour_of s) apart) in
    (less, above_from h (hour_of s) rest less later)

written_by : (latest rest : List Seen) (s : Seen) → One (hour_in latest) latest → From latest (s ∷ rest) → NotBefore (hour_of s) rest
    → (b : Bool) → is_over (hour_in latest) (hour_of s) ≡ b
    → (is_over (hour_in latest) (hour_of s) ≡ false → fold_text (latest ++ s ∷ []) rest ≡ text_of_hours ((latest ++ s ∷ []) ++ rest))
    → fold_text (s ∷ []) rest ≡ text_of_hours (s ∷ rest)
    → closed_before latest s ++ fold_text (latest_with latest s) rest ≡ text_of_hours (latest ++ s ∷ rest)
unfolding latest_with From
written_by latest rest s one from later false is same alone =
    (λ i. cond (is i) (closing latest) [] ++ fold_text (cond (is i) [] latest ++ s ∷ []) rest)
    ∙ same is ∙ ap text_of_hours (append_assoc latest (s ∷ []) rest)
written_by latest rest s one from later true is same alone =
    let other = other_hour (hour_in latest) (hour_of s) is in
    (λ i. cond (is i) (closing latest) [] ++ fold_text (cond (is i) [] latest ++ s ∷ []) rest)
    ∙ ap (λ m. closing latest ++ m) alone
    ∙ closed_first other.0 latest (s ∷ rest) other.1.0 (subst (λ o. One o latest) other.1.0 one) (above_all other.0 s rest (from other.0 other.1.0).0 other.1.1 later)

-- the lines as they are written are those of the hours
pub hours_written : (latest rest : List Seen) → One (hour_in latest) latest → From latest rest → IsForward rest → fold_text latest rest ≡ text_of_hours (latest ++ rest)
unfolding fold_text
hours_written latest [] one from forward = at_end latest one (hour_in latest) refl
hours_written latest (s ∷ rest) one from forward =
    written_by latest rest s one from forward.0 (is_over (hour_in latest) (hour_of s)) refl
    (λ same. hours_written (latest ++ s ∷ []) rest (goes_on latest s one same) (from_on latest rest s forward.0 same) forward.1)
    (hours_written (s ∷ []) rest (one_alone s) (own_from s rest forward.0) forward.1)

-- ---- Packets of a session

hour_mono : (a b : ℕ) → a ≤ b → a / 3600 ≤ b / 3600
hour_mono a b le = omega arith

seen_moment : (moment : ℕ) (verdict : Verdict) (f : Frame) → (seen_as moment verdict f).moment ≡ moment
unfolding seen_as
seen_moment moment verdict (frame.Packet packet) = refl
seen_moment moment verdict (frame.Link octets) = refl
seen_moment moment verdict (frame.Unreadable octets part) = refl

pub seen_hour : (judged : Judged) (packet : Packet) → hour_of (seen_of judged packet) ≡ judged.session.moment / 3600
unfolding seen_of hour_of
seen_hour judged packet = ap (λ m. m / 3600) (seen_moment judged.session.moment judged.verdict (frame_of packet.octets))

pub moment_then : (session : Session) (packet : Packet) → (judged_packet session packet).session.moment ≡ max session.moment packet.seconds
unfolding frame_in later
moment_then session packet = refl

later_all : (a b : ℕ) (l : List Seen) → a ≤ b → NotBefore b l → NotBefore a l
later_all a b [] le from = tt
later_all a b (s ∷ l) le from = (omega (arith, from.0), later_all a b l le from.1)

record Ordered (session : Session) (packets : List Packet) : Type 0 where
  pub from : NotBefore (session.moment / 3600) (seen_in session packets)
  pub forward : IsForward (seen_in session packets)

-- moments never go back in a session
ordered : (session : Session) (packets : List Packet) → Ordered session packets
unfolding seen_in
ordered session [] = record { from = tt; forward = tt }
ordered session (packet ∷ packets) =
    let judged = judged_packet session packet in
    let rest = ordered judged.session packets in
    let hour = seen_hour judged packet in
    let then = moment_then session packet in
    let le : session.moment / 3600 ≤ judged.session.moment / 3600 = hour_mono session.moment judged.session.moment (omega arith) in
    record {
      from = (omega arith, later_all (session.moment / 3600) (judged.session.moment / 3600) (seen_in judged.session packets) le rest.from);
      forward = (subst (λ n. NotBefore n (seen_in judged.session packets)) (sym hour) rest.from, rest.forward);
    }

-- the lines that are written are those that the list tells
pub lines_told : (session : Session) (packets : List Packet) → lines_from tally_step (begun session) packets ++ tally_ending (state_after tally_step (begun session) packets) ≡ tally_text (seen_in session packets)
unfolding tally_text One From hour_in
lines_told session packets =
    written_as (begun session) packets
    ∙ ap (λ m. m ++ ending_of (seen_in session packets)) (hours_written [] (seen_in session packets) tt (λ h e. absurd (none-some h e)) (ordered session packets).forward)
