-- Which octets a host, a port and a path have, and what lower case leaves as it is.
use Rattle.std.proofs.Common.{◌≡◌, ℕ, ◌<◌, Bool, true, false, not, eqb, ltb, ◌&&◌, ◌||◌, ⊎_elim, List, [], ◌∷◌, refl, sym, ap, ap₂, ◌∙◌, arith}
use Rattle.std.specs.Prelude.{codes}
use Rattle.std.specs.List.{list_any, list_all}
use Rattle.std.specs.Char.{to_ascii_lowercase}
use Rattle.std.proofs.lemmas.Bool.{agree_below, agree_below_at, cases_lt, and_parts, or_from, or_cases, not-true, false≢true, eqb-true}
use Rattle.std.proofs.lemmas.Bool.Decides.{nat_tests}
use Rattle.std.proofs.lemmas.Str.Ascii.{lowercase_is}
use Rattle.mud_url.specs.Host.{lowered, is_dot, is_label_octet}
use Rattle.mud_url.specs.Url.{is_colon, is_slash_or_question}
use Rattle.mud_url.proofs.Pieces.{is_path_octet}

-- a test that doesn't tell a letter's case, which computes for the octets of ASCII
pub at_lowercase : (p : ℕ → Bool) → agree_below (λ c. p (to_ascii_lowercase c)) p 128 ≡ true → (c : ℕ) → p (to_ascii_lowercase c) ≡ p c
at_lowercase p ascii c =
    ⊎_elim (λ low. agree_below_at (λ d. p (to_ascii_lowercase d)) p 128 c ascii low) (λ high. ap p ((lowercase_is c).2 (omega arith))) (cases_lt c 128)

pub list_any-lowered : (p : ℕ → Bool) → ((c : ℕ) → p (to_ascii_lowercase c) ≡ p c) → (text : List ℕ) → list_any p (lowered text) ≡ list_any p text
unfolding lowered
list_any-lowered p same [] = refl
list_any-lowered p same (c ∷ text) = ap₂ (λ s t. s || t) (same c) (list_any-lowered p same text)

pub list_all-lowered : (p : ℕ → Bool) → ((c : ℕ) → p (to_ascii_lowercase c) ≡ p c) → (text : List ℕ) → list_all p (lowered text) ≡ list_all p text
unfolding lowered
list_all-lowered p same [] = refl
list_all-lowered p same (c ∷ text) = ap₂ (λ s t. s && t) (same c) (list_all-lowered p same text)

pub colon_lowered : (c : ℕ) → is_colon (to_ascii_lowercase c) ≡ is_colon c
colon_lowered = at_lowercase is_colon refl

pub slash_or_question_lowered : (c : ℕ) → is_slash_or_question (to_ascii_lowercase c) ≡ is_slash_or_question c
slash_or_question_lowered = at_lowercase is_slash_or_question refl

-- an octet of a host
unfoldable pub is_host_octet : ℕ → Bool
is_host_octet c = is_label_octet c || is_dot c

-- an octet of a path or a query, triplets among them
unfoldable pub is_url_octet : ℕ → Bool
is_url_octet c = is_path_octet c || eqb c 37

is_ascii_host : (c : ℕ) → is_host_octet c ≡ true → c < 128
unfolding is_host_octet is_label_octet
is_ascii_host c e = ⊎_elim (λ low. low) (λ high. absurd (grind (arith, nat_tests))) (cases_lt c 128)

-- what is none of some marks below 128, and none of them
is_ascii_mark : (marks : List ℕ) (c : ℕ) → list_all (λ m. ltb m 128) marks ≡ true → list_any (λ m. eqb m c) marks ≡ true → c < 128
is_ascii_mark [] c low e = absurd (false≢true e)
is_ascii_mark (m ∷ marks) c low e =
    ⊎_elim (λ here. let same = eqb-true m c here in let below = (and_parts (ltb m 128) _ low).0 in grind (arith, nat_tests)) (λ later. is_ascii_mark marks c (and_parts (ltb m 128) _ low).1 later) (or_cases (eqb m c) _ e)

is_ascii_url : (c : ℕ) → is_url_octet c ≡ true → c < 128
unfolding is_url_octet
is_ascii_url c e =
    ⊎_elim
    (λ path. ⊎_elim (λ letter. ⊎_elim (λ low. low) (λ high. absurd (grind (arith, nat_tests))) (cases_lt c 128)) (λ mark. is_ascii_mark (codes "-._~!$&'()*+,;=:@/?") c refl mark) (or_cases _ _ path))
    (λ percent. let same = eqb-true c 37 percent in omega (arith, same))
    (or_cases (is_path_octet c) (eqb c 37) e)

-- one test implies another, which computes for the octets of ASCII
implied : (p q : ℕ → Bool) → agree_below (λ c. not (p c) || q c) (λ _. true) 128 ≡ true → (c : ℕ) → c < 128 → p c ≡ true → q c ≡ true
implied p q ascii c low e = sym (ap (λ t. not t || q c) e) ∙ agree_below_at (λ d. not (p d) || q d) (λ _. true) 128 c ascii low

none_of : (p q : ℕ → Bool) → ((c : ℕ) → p c ≡ true → not (q c) ≡ true) → (text : List ℕ) → list_all p text ≡ true → list_any q text ≡ false
none_of p q other [] all = refl
none_of p q other (c ∷ text) all =
    or_from _ _ (not-true (q c) (other c (and_parts (p c) _ all).0)) (none_of p q other text (and_parts (p c) _ all).1)

-- no octet of a host, and none of a path, passes a test
pub host_has_none : (q : ℕ → Bool) → agree_below (λ c. not (is_host_octet c) || not (q c)) (λ _. true) 128 ≡ true → (text : List ℕ) → list_all is_host_octet text ≡ true → list_any q text ≡ false
host_has_none q ascii = none_of is_host_octet q (λ c e. implied is_host_octet (λ d. not (q d)) ascii c (is_ascii_host c e) e)

pub path_has_none : (q : ℕ → Bool) → agree_below (λ c. not (is_url_octet c) || not (q c)) (λ _. true) 128 ≡ true → (text : List ℕ) → list_all is_url_octet text ≡ true → list_any q text ≡ false
path_has_none q ascii = none_of is_url_octet q (λ c e. implied is_url_octet (λ d. not (q d)) ascii c (is_ascii_url c e) e)
