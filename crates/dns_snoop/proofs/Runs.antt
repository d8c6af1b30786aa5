-- What the first octets do to a run.
use Rattle.std.proofs.Common.{◌≡◌, ◌≢◌, ℕ, suc, zero, ◌+◌, ◌-◌, ◌*◌, ◌<◌, ◌≤◌, List, [], ◌∷◌, length, take, drop, Ok, Err, refl, ap, ◌∙◌, arith, ne_eqb, le-ltb, lt-ltb}
use Rattle.dns_snoop.specs.declared.fault.DnsFault.TheVariants as faults
use Rattle.dns_snoop.specs.declared.name.RunEnd.TheVariants.{End, Pointer}
use Rattle.dns_snoop.specs.Names.{run_from, ended, with_label}

run-skipped : (skipped offset : ℕ) (octets : List ℕ) → skipped ≤ length octets → run_from skipped offset octets ≡ run_from 0 (offset + skipped) (drop skipped octets)
run-skipped zero offset octets fits = ap (λ n. run_from 0 n octets) (omega arith)
run-skipped (suc skipped) offset [] fits = absurd (omega arith)
run-skipped (suc skipped) offset (octet ∷ behind) fits =
    run-skipped skipped (offset + 1) behind (omega arith) ∙ ap (λ n. run_from 0 n (drop skipped behind)) (omega arith)

pub run_cut : (offset : ℕ) → run_from 0 offset [] ≡ ended (Err (faults.Cut offset))
run_cut offset = refl

pub run_end : (offset code : ℕ) (behind : List ℕ) → code ≡ 0 → run_from 0 offset (code ∷ behind) ≡ ended (Ok (End (offset + 1)))
run_end offset code behind is = rw is refl

pub run_label_cut : (offset code : ℕ) (behind : List ℕ) → code ≢ 0 → code < 64 → length behind < code → run_from 0 offset (code ∷ behind) ≡ ended (Err (faults.Cut offset))
run_label_cut offset code behind some few short = rw (ne_eqb code 0 some, lt-ltb code 64 few, lt-ltb (length behind) code short) refl

pub run_label : (offset code : ℕ) (behind : List ℕ) → code ≢ 0 → code < 64 → code ≤ length behind
    → run_from 0 offset (code ∷ behind) ≡ with_label (record { offset = offset; text = take code behind }) (run_from 0 (offset + (1 + code)) (drop code behind))
run_label offset code behind some few fits =
    rw (ne_eqb code 0 some, lt-ltb code 64 few, le-ltb (length behind) code fits)
    (ap (with_label (record { offset = offset; text = take code behind })) (run-skipped code (offset + 1) behind fits ∙ ap (λ n. run_from 0 n (drop code behind)) (omega arith)))

pub run_other : (offset code : ℕ) (behind : List ℕ) → 64 ≤ code → code < 192 → run_from 0 offset (code ∷ behind) ≡ ended (Err (faults.Label offset))
run_other offset code behind many few = rw (ne_eqb code 0 (λ e. absurd (omega arith)), le-ltb code 64 many, lt-ltb code 192 few) refl

pub run_pointer_cut : (offset code : ℕ) → 192 ≤ code → run_from 0 offset (code ∷ []) ≡ ended (Err (faults.Cut offset))
run_pointer_cut offset code many = rw (ne_eqb code 0 (λ e. absurd (omega arith)), le-ltb code 64 (omega arith), le-ltb code 192 many) refl

pub run_pointer : (offset code low : ℕ) (behind : List ℕ) → 192 ≤ code → run_from 0 offset (code ∷ low ∷ behind) ≡ ended (Ok (Pointer offset (256 * (code - 192) + low)))
run_pointer offset code low behind many = rw (ne_eqb code 0 (λ e. absurd (omega arith)), le-ltb code 64 (omega arith), le-ltb code 192 many, ne_eqb (suc (length behind)) 0 (λ e. absurd (omega arith))) refl
