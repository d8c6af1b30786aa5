-- How long the parts of a URL and its canonical text are.
use Rattle.std.proofs.Common.{◌≡◌, ℕ, ◌+◌, ◌<◌, ◌≤◌, eqb, ◌||◌, ◌⊎◌, inl, inr, List, [], ◌∷◌, ◌++◌, length, take, drop, refl, arith}
use Rattle.std.specs.Prelude.{codes, bytes_eq}
use Rattle.std.proofs.lemmas.Bool.{cond_both, eqb-false, or_parts}
use Rattle.std.proofs.lemmas.List.{length-take, length-drop, length-map, length-append}
use Rattle.mud_url.specs.Host.{lowered}
use Rattle.mud_url.specs.Url.{authority, path_and_query, host_part, port_part, canonical_path, scheme}
use Rattle.mud_url.proofs.Pieces.{canonical_port}

pub length-scheme : length scheme ≡ 8
unfolding scheme
length-scheme = refl

pub length-lowered : (text : List ℕ) → length (lowered text) ≡ length text
unfolding lowered
length-lowered text = length-map text _

-- the port is written with its `:`, or not at all
length-canonical_port : (port : List ℕ) → (length (canonical_port port) ≡ 0) ⊎ ((0 < length port) × (length (canonical_port port) ≡ length port + 1))
length-canonical_port port =
    cond_both (eqb (length port) 0 || bytes_eq port (codes "443")) [] (58 ∷ port) (λ (text : List ℕ). (length text ≡ 0) ⊎ ((0 < length port) × (length text ≡ length port + 1)))
    (λ t. inl refl)
    (λ t. let some = eqb-false (length port) 0 (or_parts _ _ t).0 in inr (omega (arith, some), omega arith))

pub length-canonical_path : (path : List ℕ) → length (canonical_path path) ≤ length path + 1
unfolding canonical_path
length-canonical_path [] = omega arith
length-canonical_path (c ∷ more) = cond_both (eqb c 47) (c ∷ more) (47 ∷ c ∷ more) (λ (text : List ℕ). length text ≤ length (c ∷ more) + 1) (λ t. omega arith) (λ t. omega arith)

-- the parts together are no longer than what stands behind the scheme
pub parts_fit : (url : List ℕ) → length (host_part url) + length (canonical_port (port_part url)) + length (path_and_query url) ≤ length (drop 8 url)
unfolding authority path_and_query host_part port_part
parts_fit url =
    let port = length-canonical_port (port_part url) in
    grind (arith, port, length-take {A = ℕ}, length-drop {A = ℕ})

pub authority_fits : (url : List ℕ) → length (authority url) + length (path_and_query url) ≤ length url
unfolding authority path_and_query
authority_fits url = omega (arith, length-take {A = ℕ}, length-drop {A = ℕ})

-- there is room for the path behind the rest of the canonical text
pub canonical_fits : (url : List ℕ) → length url ≤ 255 → length (scheme ++ lowered (host_part url) ++ canonical_port (port_part url)) + length (canonical_path (path_and_query url)) ≤ 256
canonical_fits url short =
    omega (arith, length-append {A = ℕ}, length-scheme, length-lowered (host_part url), length-canonical_path (path_and_query url), parts_fit url, length-drop 8 url)

pub around_slash_fits : (text : List ℕ) → length text ≤ 256 → length (take (8 + length (authority text)) text) + length (drop 1 (path_and_query text)) ≤ 256
unfolding authority path_and_query
around_slash_fits text short = omega (arith, length-take {A = ℕ}, length-drop {A = ℕ})

pub ruleset lengths = (length-scheme, length-lowered, length-canonical_path, parts_fit, authority_fits)
