-- A text is in lower case where each octet of it is.
use Rattle.std.proofs.Common.{◌≡◌, ℕ, ◌&&◌, eqb, List, [], ◌∷◌, refl, ap}
use Rattle.std.specs.Prelude.{bytes_eq}
use Rattle.std.specs.List.{list_all}
use Rattle.std.specs.Char.{to_ascii_lowercase}
use Rattle.mud_url.specs.Host.{lowered}

pub lowered_alike : (text : List ℕ) → list_all (λ c. eqb (to_ascii_lowercase c) c) text ≡ bytes_eq (lowered text) text
unfolding lowered
lowered_alike [] = refl
lowered_alike (c ∷ text) = ap (λ rest. eqb (to_ascii_lowercase c) c && rest) (lowered_alike text)
