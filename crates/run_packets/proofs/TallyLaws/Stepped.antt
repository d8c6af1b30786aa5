-- What a run holds with one packet more.
use Rattle.std.proofs.Common.{◌≡◌, ℕ, ◌/◌, ◌⊎◌, inl, inr, Bool, true, false, cond, List, [], ◌∷◌, ◌++◌, max, Option, Some, None, refl, sym, ap, subst, ◌∙◌}
use Rattle.std.proofs.lemmas.Bool.{eqb-true}
use Rattle.std.specs.Prelude.{◌==◌, not}
use Rattle.frame_view.specs.Frame.{frame_of}
use Rattle.read_buffer.specs.Packets.{Packet}
use Rattle.packet_judge.specs.declared.verdict.Verdict.{Verdict}
use Rattle.desk_model.specs.Sessions.{Session}
use Rattle.mud_desk.specs.DeskState.{DeskState, session_of}
use Rattle.run_desk.specs.Judged.{judged_packet}
use Rattle.drop_ledger.specs.declared.seen.Seen.{Seen}
use Rattle.drop_ledger.specs.declared.rows.CountRow.{CountRow}
use Rattle.drop_ledger.specs.Seen.{hour_of, rulings}
use Rattle.drop_ledger.specs.Ledger.{TallyState, StandsFor, IsSameTally, counts_of, hour_in}
use Rattle.run_packets.specs.Tally.Tallied.{Tallied, seen_as, seen_of, is_over, closing, ending_of, latest_with, tally_step, tally_ending, IsTallied}
use Rattle.run_packets.specs.Tally.Texts.{hour_lines, end_lines}
use Rattle.run_packets.proofs.TallyLaws.TextLaws.{seen_hour, moment_then}
use Rattle.run_packets.proofs.Parts.{closed_before}

-- with more room alone it stands for the same
pub same_stands : (all latest : List Seen) (before after : TallyState) → IsSameTally before after → StandsFor all latest before → StandsFor all latest after
same_stands all latest before after same stands = record {
  totals = same.totals ∙ stands.totals;
  hour = same.hour ∙ stands.hour;
  counts = same.counts ∙ stands.counts;
  denied = record { rows = same.denied ∙ stands.denied.rows; others = same.others ∙ stands.denied.others };
  few = stands.few;
}

-- once the counts of another hour are gone, the packet may follow
pub hour_then : (old new : Option ℕ) (now : ℕ) → new ≡ cond (is_over old now) None old → (new ≡ None) ⊎ (new ≡ Some now)
unfolding is_over
hour_then None new now is = inl is
hour_then (Some hour) new now is = by (hour == now) refl
  where
    by : (b : Bool) → (hour == now) ≡ b → (new ≡ None) ⊎ (new ≡ Some now)
    by true e = inr (is ∙ ap (λ b. cond (not b) None (Some hour)) e ∙ ap Some (eqb-true hour now e))
    by false e = inl (is ∙ ap (λ b. cond (not b) None (Some hour)) e)

-- the lines before a packet, by the hour of its moment
pub closed_line : (t : Tallied) (packet : Packet) (moment : ℕ) (before after : List ℕ) → moment ≡ max t.session.moment packet.seconds
    → ((s : Seen) → hour_of s ≡ moment / 3600 → after ≡ before ++ closed_before t.latest s) → after ≡ before ++ (tally_step t packet).line
unfolding tally_step
closed_line t packet moment before after is says =
    says (seen_of (judged_packet t.session packet) packet)
    (seen_hour (judged_packet t.session packet) packet ∙ ap (λ m. m / 3600) (moment_then t.session packet ∙ sym is))

-- what is counted of a packet that was judged
pub seen_is : (session : Session) (packet : Packet) (moment : ℕ) (verdict : Verdict) (s : Seen) → moment ≡ max session.moment packet.seconds → verdict ≡ (judged_packet session packet).verdict
    → s ≡ seen_as moment verdict (frame_of packet.octets) → s ≡ seen_of (judged_packet session packet) packet
unfolding seen_of
seen_is session packet moment verdict s moment_is verdict_is is =
    is ∙ (λ i. seen_as ((moment_is ∙ sym (moment_then session packet)) i) (verdict_is i) (frame_of packet.octets))

pub next_tallied : (t : Tallied) (packet : Packet) (state : DeskState) (moment : ℕ) (tally : TallyState) (s : Seen) → moment ≡ max t.session.moment packet.seconds
    → s ≡ seen_of (judged_packet t.session packet) packet → session_of state ≡ (judged_packet t.session packet).session → StandsFor (t.all ++ s ∷ []) (latest_with t.latest s) tally
    → IsTallied (tally_step t packet).next state moment tally
unfolding tally_step
next_tallied t packet state moment tally s moment_is seen session_is stands = record {
  session = session_is;
  moment = moment_is ∙ sym (moment_then t.session packet);
  stands = subst (λ x. StandsFor (t.all ++ x ∷ []) (latest_with t.latest x) tally) seen stands;
}

pub closed_is : (latest : List Seen) (s : Seen) (hour : Option ℕ) (now : ℕ) (counts : List CountRow) → hour ≡ hour_in latest → counts ≡ counts_of (rulings latest) → hour_of s ≡ now → is_over hour now ≡ true → hour_lines hour counts ≡ closed_before latest s
unfolding closing
closed_is latest s hour now counts hour_is counts_are now_is over =
    (λ i. hour_lines (hour_is i) (counts_are i))
    ∙ ap (λ b. cond b (hour_lines (hour_in latest) (counts_of (rulings latest))) []) (sym over ∙ (λ i. is_over (hour_is i) (sym now_is i)))

pub closed_not : (latest : List Seen) (s : Seen) (hour : Option ℕ) (now : ℕ) → hour ≡ hour_in latest → hour_of s ≡ now → is_over hour now ≡ false → [] ≡ closed_before latest s
closed_not latest s hour now hour_is now_is over = ap (λ b. cond b (closing latest) []) (sym over ∙ (λ i. is_over (hour_is i) (sym now_is i)))

pub counted_seen : (all latest : List Seen) (s p : Seen) (old closed planned new : TallyState) (now : ℕ) → StandsFor all latest old → now ≡ hour_of s → StandsFor all (cond (is_over old.hour now) [] latest) closed → IsSameTally closed planned → p ≡ s
    → ((all' latest' : List Seen) → StandsFor all' latest' planned → StandsFor (all' ++ p ∷ []) (latest' ++ p ∷ []) new) → StandsFor (all ++ s ∷ []) (latest_with latest s) new
unfolding latest_with
counted_seen all latest s p old closed planned new now stands now_is stands' same is note =
    subst (λ x. StandsFor (all ++ x ∷ []) (cond (is_over (hour_in latest) (hour_of s)) [] latest ++ x ∷ []) new) is
    (note all (cond (is_over (hour_in latest) (hour_of s)) [] latest)
    (same_stands all (cond (is_over (hour_in latest) (hour_of s)) [] latest) closed planned same
    (subst (λ b. StandsFor all (cond b [] latest) closed) (λ i. is_over (stands.hour i) (now_is i)) stands')))

pub ending_is : (t : Tallied) (tally : TallyState) → StandsFor t.all t.latest tally → hour_lines tally.hour tally.counts.rows ++ end_lines tally.denied.rows tally.others.rows tally.totals ≡ tally_ending t
unfolding tally_ending closing ending_of
ending_is t tally stands = (λ i. hour_lines (stands.hour i) (stands.counts i) ++ end_lines (stands.denied.rows i) (stands.denied.others i) (stands.totals i))
