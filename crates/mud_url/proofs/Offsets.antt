-- Where the parts of a URL begin and end.
use Rattle.std.proofs.Common.{◌≡◌, ℕ, ◌+◌, ◌≤◌, Bool, true, List, [], length, drop, Some, None, position, sym, ap, arith}
use Rattle.std.specs.List.{position_or_len, before_first, after_first}
use Rattle.std.proofs.lemmas.List.{take_all, drop_all, length-take}
use Rattle.std.specs.Prelude.{bytes_eq}
use Rattle.std.proofs.lemmas.Slice.Eq.{bytes_eq-Decides}
pub use Rattle.mud_base.proofs.Positions.{before_first_found}
use Rattle.mud_base.proofs.Positions.{position_is, position_none}
use Rattle.mud_url.specs.Url.{authority}

pub before_first_none : (p : ℕ → Bool) (xs : List ℕ) → None ≡ position p xs → xs ≡ before_first p xs
before_first_none p xs e = sym (take_all (position_or_len p xs) xs (position_none (position_or_len p xs) (length xs) e))

pub after_first_found : (p : ℕ → Bool) (xs : List ℕ) (k : ℕ) → Some k ≡ position p xs → drop (k + 1) xs ≡ after_first p xs
after_first_found p xs k e = ap (λ n. drop (n + 1) xs) (sym (position_is (position_or_len p xs) (length xs) k e).0)

pub after_first_none : (p : ℕ → Bool) (xs : List ℕ) → None ≡ position p xs → [] ≡ after_first p xs
after_first_none p xs e = let past = position_none (position_or_len p xs) (length xs) e in sym (drop_all (position_or_len p xs + 1) xs (omega (arith, past)))

-- the authority stands behind the scheme
pub authority_within : (url : List ℕ) → length (authority url) ≤ length (drop 8 url)
unfolding authority
authority_within url = omega (arith, length-take {A = ℕ})

-- equal octets are one text
pub same_octets : (xs ys : List ℕ) → bytes_eq xs ys ≡ true → xs ≡ ys
same_octets xs ys e = (bytes_eq-Decides xs ys).0 e
