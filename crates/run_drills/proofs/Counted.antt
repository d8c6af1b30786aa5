-- The counts of a list of verdicts with one more behind it.
use Rattle.std.proofs.Common.{◌≡◌, ℕ, ◌+◌, Bool, true, false, cond, not, if◌then◌else◌, List, [], ◌∷◌, ◌++◌, Option, Some, None, refl, sym, ap, ◌∙◌, arith, append_assoc, append-nil}
use Rattle.std.specs.Prelude.{count_by, flat_map, option_to_list}
use Rattle.std.proofs.lemmas.List.Sums.{sum_by_push}
use Rattle.std.proofs.lemmas.List.Concat.{flat_map-append}
use Rattle.acl_model.specs.declared.ruling.Ruling.{Ruling}
use Rattle.acl_model.specs.declared.ruling.Ruling.TheVariants.{Accept, AcceptDefault, Drop, DropDefault, DropHeld}
use Rattle.acl_model.specs.declared.ruling.DefaultRule.TheVariants.{Dns, Ntp}
use Rattle.acl_model.specs.declared.ruling.Why.TheVariants.{NoFile, NoMatch}
use Rattle.packet_judge.specs.declared.verdict.Verdict.{Verdict}
use Rattle.packet_judge.specs.declared.verdict.Verdict.TheVariants.{Unmanaged, Link, Unreadable, Governed}
use Rattle.packet_judge.specs.Verdicts.{forwarded}
use Rattle.run_drills.specs.declared.counts.RulingCounts.{RulingCounts}
use Rattle.run_drills.specs.declared.counts.VerdictCounts.{VerdictCounts}
use Rattle.run_drills.specs.Counts.{ruling_counts, verdict_counts, with_ruling, with_rulings_in, with_verdict}
use Rattle.run_drills.proofs.Parts.{is_dropped, rulings_in, is_accept, is_default_dns, is_default_ntp, is_drop_entry, is_no_file, is_no_match}

-- ---- One test

counted : {A : Type 0} (p : A → Bool) (xs : List A) (x : A) → count_by p (xs ++ x ∷ []) ≡ count_by p xs + cond (p x) 1 0
counted p xs x = sum_by_push (λ y. cond (p y) 1 0) xs x

yes : {A : Type 0} (p : A → Bool) (xs : List A) (x : A) → p x ≡ true → count_by p (xs ++ x ∷ []) ≡ count_by p xs + 1
yes p xs x is = counted p xs x ∙ ap (λ (b : Bool). count_by p xs + cond b 1 0) is

no : {A : Type 0} (p : A → Bool) (xs : List A) (x : A) → p x ≡ false → count_by p (xs ++ x ∷ []) ≡ count_by p xs
no p xs x is = counted p xs x ∙ ap (λ (b : Bool). count_by p xs + cond b 1 0) is ∙ none (count_by p xs)
  where
    none : (n : ℕ) → n + 0 ≡ n
    none n = omega arith

-- ---- Rulings

abbrev six : ℕ → ℕ → ℕ → ℕ → ℕ → ℕ → RulingCounts
six a b c d e f = record { accept = a; default_dns = b; default_ntp = c; drop_entry = d; no_file = e; no_match = f }

same_six : (a b c d e f u v w x y z : ℕ) → a ≡ u → b ≡ v → c ≡ w → d ≡ x → e ≡ y → f ≡ z → six a b c d e f ≡ six u v w x y z
same_six a b c d e f u v w x y z p q r s t o = cc

ruling_push : (rulings : List Ruling) (ruling : Option Ruling) → ruling_counts (rulings ++ option_to_list ruling) ≡ with_ruling (ruling_counts rulings) ruling
unfolding ruling_counts
ruling_push rulings None = ap ruling_counts (append-nil rulings)
ruling_push rulings (Some (Accept number)) = same_six _ _ _ _ _ _ _ _ _ _ _ _ (yes is_accept rulings (Accept number) refl) (no is_default_dns rulings (Accept number) refl) (no is_default_ntp rulings (Accept number) refl) (no is_drop_entry rulings (Accept number) refl) (no is_no_file rulings (Accept number) refl) (no is_no_match rulings (Accept number) refl)
ruling_push rulings (Some (AcceptDefault Dns)) = same_six _ _ _ _ _ _ _ _ _ _ _ _ (no is_accept rulings (AcceptDefault Dns) refl) (yes is_default_dns rulings (AcceptDefault Dns) refl) (no is_default_ntp rulings (AcceptDefault Dns) refl) (no is_drop_entry rulings (AcceptDefault Dns) refl) (no is_no_file rulings (AcceptDefault Dns) refl) (no is_no_match rulings (AcceptDefault Dns) refl)
ruling_push rulings (Some (AcceptDefault Ntp)) = same_six _ _ _ _ _ _ _ _ _ _ _ _ (no is_accept rulings (AcceptDefault Ntp) refl) (no is_default_dns rulings (AcceptDefault Ntp) refl) (yes is_default_ntp rulings (AcceptDefault Ntp) refl) (no is_drop_entry rulings (AcceptDefault Ntp) refl) (no is_no_file rulings (AcceptDefault Ntp) refl) (no is_no_match rulings (AcceptDefault Ntp) refl)
ruling_push rulings (Some (Drop number)) = same_six _ _ _ _ _ _ _ _ _ _ _ _ (no is_accept rulings (Drop number) refl) (no is_default_dns rulings (Drop number) refl) (no is_default_ntp rulings (Drop number) refl) (yes is_drop_entry rulings (Drop number) refl) (no is_no_file rulings (Drop number) refl) (no is_no_match rulings (Drop number) refl)
ruling_push rulings (Some (DropDefault NoFile)) = same_six _ _ _ _ _ _ _ _ _ _ _ _ (no is_accept rulings (DropDefault NoFile) refl) (no is_default_dns rulings (DropDefault NoFile) refl) (no is_default_ntp rulings (DropDefault NoFile) refl) (no is_drop_entry rulings (DropDefault NoFile) refl) (yes is_no_file rulings (DropDefault NoFile) refl) (no is_no_match rulings (DropDefault NoFile) refl)
ruling_push rulings (Some (DropDefault NoMatch)) = same_six _ _ _ _ _ _ _ _ _ _ _ _ (no is_accept rulings (DropDefault NoMatch) refl) (no is_default_dns rulings (DropDefault NoMatch) refl) (no is_default_ntp rulings (DropDefault NoMatch) refl) (no is_drop_entry rulings (DropDefault NoMatch) refl) (no is_no_file rulings (DropDefault NoMatch) refl) (yes is_no_match rulings (DropDefault NoMatch) refl)
ruling_push rulings (Some DropHeld) = same_six _ _ _ _ _ _ _ _ _ _ _ _ (no is_accept rulings DropHeld refl) (no is_default_dns rulings DropHeld refl) (no is_default_ntp rulings DropHeld refl) (no is_drop_entry rulings DropHeld refl) (no is_no_file rulings DropHeld refl) (no is_no_match rulings DropHeld refl)

rulings_push : (rulings : List Ruling) (verdict : Verdict) → ruling_counts (rulings ++ rulings_in verdict) ≡ with_rulings_in (ruling_counts rulings) verdict
rulings_push rulings (Governed source destination) =
    ap ruling_counts (sym (append_assoc rulings (option_to_list source) (option_to_list destination)))
    ∙ ruling_push (rulings ++ option_to_list source) destination
    ∙ ap (λ (counts : RulingCounts). with_ruling counts destination) (ruling_push rulings source)
rulings_push rulings Unmanaged = ap ruling_counts (append-nil rulings)
rulings_push rulings Link = ap ruling_counts (append-nil rulings)
rulings_push rulings (Unreadable part) = ap ruling_counts (append-nil rulings)

-- ---- Verdicts

abbrev three : ℕ → ℕ → RulingCounts → VerdictCounts
three a b c = record { passed = a; dropped = b; rulings = c }

same_three : (a b : ℕ) (c : RulingCounts) (u v : ℕ) (w : RulingCounts) → a ≡ u → b ≡ v → c ≡ w → three a b c ≡ three u v w
same_three a b c u v w p q r = cc

passed_push : (passes : Bool) (n m : ℕ) → m ≡ n + cond passes 1 0 → m ≡ (if passes then n + 1 else n)
passed_push true n m is = is
passed_push false n m is = omega (arith, is)

dropped_push : (passes : Bool) (n m : ℕ) → m ≡ n + cond (not passes) 1 0 → m ≡ (if passes then n else n + 1)
dropped_push true n m is = omega (arith, is)
dropped_push false n m is = is

pub counts_push : (verdicts : List Verdict) (verdict : Verdict) → verdict_counts (verdicts ++ verdict ∷ []) ≡ with_verdict (verdict_counts verdicts) verdict
unfolding verdict_counts with_verdict
counts_push verdicts verdict = same_three _ _ _ _ _ _
    (passed_push (forwarded verdict) (count_by forwarded verdicts) _ (counted forwarded verdicts verdict))
    (dropped_push (forwarded verdict) (count_by is_dropped verdicts) _ (counted is_dropped verdicts verdict))
    (ap ruling_counts (flat_map-append rulings_in verdicts (verdict ∷ []) ∙ ap (λ (more : List Ruling). flat_map rulings_in verdicts ++ more) (append-nil (rulings_in verdict)))
    ∙ rulings_push (flat_map rulings_in verdicts) verdict)
