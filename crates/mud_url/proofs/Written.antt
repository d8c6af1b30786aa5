-- The parts of a URL that is written from its parts.
use Rattle.std.proofs.Common.{◌≡◌, ℕ, Bool, true, false, eqb, ◌||◌, ◌⊎◌, inl, inr, List, [], ◌∷◌, ◌++◌, length, drop, not, refl, ap, ◌∙◌}
use Rattle.std.specs.List.{list_any, before_first, position_or_len}
use Rattle.std.specs.Prelude.{codes, bytes_eq}
use Rattle.std.proofs.lemmas.Bool.{cond_both, or_from}
use Rattle.std.proofs.lemmas.List.{drop_at, length-take-le}
use Rattle.std.proofs.lemmas.List.Folds.{list_any-append}
use Rattle.std.proofs.lemmas.List.Sums.{prefix_len-le-length}
use Rattle.mud_url.specs.Host.{lowered}
use Rattle.mud_url.specs.Url.{scheme, is_colon, is_slash_or_question, authority, path_and_query, host_part, port_part, canonical_path, canonical, host_of}
use Rattle.mud_url.proofs.Cuts.{begins, before_first-append, list_any-take, list_any-drop, list_any-before_first, begins-rest}
use Rattle.mud_url.proofs.Octets.{list_any-lowered, colon_lowered, slash_or_question_lowered}
use Rattle.mud_url.proofs.Pieces.{canonical_port}

-- a URL, written from its parts
unfoldable pub written : List ℕ → List ℕ → List ℕ → List ℕ
written host port path = scheme ++ host ++ canonical_port port ++ path

-- parts that can be told apart again
pub record AreParts (host port path : List ℕ) : Type 0 where
  pub host_has_no_colon : list_any is_colon host ≡ false
  pub host_is_authority : list_any is_slash_or_question host ≡ false
  pub port_is_authority : list_any is_slash_or_question port ≡ false
  pub path_begins : begins is_slash_or_question path ≡ true

behind_scheme : (host port path : List ℕ) → drop 8 (written host port path) ≡ host ++ canonical_port port ++ path
unfolding written scheme
behind_scheme host port path = refl

pub canonical_port_has_none : (q : ℕ → Bool) → q 58 ≡ false → (port : List ℕ) → list_any q port ≡ false → list_any q (canonical_port port) ≡ false
canonical_port_has_none q colon port none =
    cond_both (eqb (length port) 0 || bytes_eq port (codes "443")) [] (58 ∷ port) (λ text. list_any q text ≡ false) (λ _. refl) (λ _. or_from _ _ colon none)

pub canonical_port_cases : (port : List ℕ) → (canonical_port port ≡ []) ⊎ (canonical_port port ≡ 58 ∷ port)
canonical_port_cases port =
    cond_both (eqb (length port) 0 || bytes_eq port (codes "443")) [] (58 ∷ port) (λ text. (text ≡ []) ⊎ (text ≡ 58 ∷ port)) (λ _. inl refl) (λ _. inr refl)

canonical_port_begins : (port : List ℕ) → begins is_colon (canonical_port port) ≡ true
unfolding begins
canonical_port_begins port =
    cond_both (eqb (length port) 0 || bytes_eq port (codes "443")) [] (58 ∷ port) (λ text. begins is_colon text ≡ true) (λ _. refl) (λ _. refl)

pub authority-written : (host port path : List ℕ) → AreParts host port path → authority (written host port path) ≡ host ++ canonical_port port
unfolding authority
authority-written host port path parts =
    ap (before_first is_slash_or_question) (behind_scheme host port path)
    ∙ before_first-append is_slash_or_question (host ++ canonical_port port) path
    (list_any-append is_slash_or_question host (canonical_port port) ∙ or_from _ _ parts.host_is_authority (canonical_port_has_none is_slash_or_question refl port parts.port_is_authority)) parts.path_begins

pub path_and_query-written : (host port path : List ℕ) → AreParts host port path → path_and_query (written host port path) ≡ path
unfolding path_and_query
path_and_query-written host port path parts =
    rw (authority-written host port path parts, behind_scheme host port path) (drop_at (host ++ canonical_port port) path (length (host ++ canonical_port port)) refl)

pub host_part-written : (host port path : List ℕ) → AreParts host port path → host_part (written host port path) ≡ host
unfolding host_part
host_part-written host port path parts =
    ap (before_first is_colon) (authority-written host port path parts)
    ∙ before_first-append is_colon host (canonical_port port) parts.host_has_no_colon (canonical_port_begins port)

-- the parts of any URL
pub parts_of : (url : List ℕ) → AreParts (lowered (host_part url)) (port_part url) (path_and_query url)
unfolding authority path_and_query host_part port_part
parts_of url = record {
  host_has_no_colon = list_any-lowered is_colon colon_lowered (host_part url) ∙ list_any-before_first is_colon (authority url);
  host_is_authority = list_any-lowered is_slash_or_question slash_or_question_lowered (host_part url) ∙ list_any-take is_slash_or_question _ (authority url) (list_any-before_first is_slash_or_question (drop 8 url));
  port_is_authority = list_any-drop is_slash_or_question _ (authority url) (list_any-before_first is_slash_or_question (drop 8 url));
  path_begins =
      let rest = drop 8 url in
      rw (length-take-le (position_or_len is_slash_or_question rest) rest (prefix_len-le-length (λ c. not (is_slash_or_question c)) rest)) (begins-rest is_slash_or_question rest);
}

pub begins-canonical_path : (path : List ℕ) → begins is_slash_or_question (canonical_path path) ≡ true
unfolding begins canonical_path
begins-canonical_path [] = refl
begins-canonical_path (c ∷ more) = cond_both (eqb c 47) (c ∷ more) (47 ∷ c ∷ more) (λ text. begins is_slash_or_question text ≡ true) (λ e. ap (λ t. t || eqb c 63) e) (λ _. refl)

pub with_canonical_path : (host port path : List ℕ) → AreParts host port path → AreParts host port (canonical_path path)
with_canonical_path host port path parts = record {
  host_has_no_colon = parts.host_has_no_colon;
  host_is_authority = parts.host_is_authority;
  port_is_authority = parts.port_is_authority;
  path_begins = begins-canonical_path path;
}

pub host_of-canonical : (url : List ℕ) → host_of (canonical url) ≡ lowered (host_part url)
unfolding host_of canonical written
host_of-canonical url = host_part-written _ _ _ (with_canonical_path _ _ _ (parts_of url))
