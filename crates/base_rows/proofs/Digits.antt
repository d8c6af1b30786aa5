-- A power of two that isn't above twice a number has no more digits than the number.
use Rattle.std.proofs.Common.{◌≡◌, ℕ, suc, ◌+◌, ◌*◌, ◌^◌, ◌≤◌, ◌<◌, ◌⊎◌, inl, inr, true, false, leb, arith}
use Rattle.std.proofs.Math.Nat.{pow-le-pow_right, pow-suc}
use Rattle.std.proofs.lemmas.Bool.Decides.{leb_tells}

few_by : (k n b : ℕ) → 2 ^ k ≤ 2 * n + 1 → n < 2 ^ b → ((leb k b ≡ true) × (k ≤ b)) ⊎ ((leb k b ≡ false) × (b < k)) → k ≤ b
few_by k n b h l (inl le) = le.1
few_by k n b h l (inr gt) =
    let lt : b < k = gt.1 in
    let up : suc b ≤ k = omega arith in
    let more : 2 ^ (suc b) ≤ 2 ^ k = pow-le-pow_right {n = 2} (omega arith) up in
    let double : 2 ^ (suc b) ≡ 2 ^ b * 2 = pow-suc 2 b in
    absurd (omega arith)

pub few_digits : (k n b : ℕ) → 2 ^ k ≤ 2 * n + 1 → n < 2 ^ b → k ≤ b
few_digits k n b h l = few_by k n b h l (leb_tells k b)
