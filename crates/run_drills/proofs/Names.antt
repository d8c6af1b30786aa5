-- Every Thing has a canonical URL, and every host a name in lower case: this is computed for each of the 32 models.
use Rattle.std.proofs.Common.{◌≡◌, ℕ, ◌+◌, ◌<◌, ◌%◌, Bool, true, List, ◌++◌, codes, refl, subst, ap, ◌∙◌, arith}
use Rattle.std.specs.Prelude.{decimal}
use Rattle.std.specs.Fmt.{digits}
use Rattle.std.specs.List.{list_all, range_with_len}
use Rattle.std.proofs.lemmas.List.FromFn.{length-range_with_len, get_or-range_with_len}
use Rattle.std.proofs.lemmas.List.Sums.{AllPass-from_list_all}
use Rattle.mud_url.specs.Url.{is_canonical}
use Rattle.mud_url.proofs.OnLiterals.{url_on_literals}
use Rattle.table_model.specs.Binds.{is_name}
use Rattle.run_drills.specs.Network.{usage_url, host_text}

-- a test that passes at the first so many numbers passes at each of them
each_below : (p : ℕ → Bool) (n k : ℕ) → list_all p (range_with_len 0 n) ≡ true → k < n → p k ≡ true
each_below p n k all within =
    subst (λ (m : ℕ). p m ≡ true) (get_or-range_with_len 0 n k 0 within ∙ none k)
    (AllPass-from_list_all p (range_with_len 0 n) all k 0 (omega (arith, length-range_with_len 0 n)))
  where
    none : (m : ℕ) → 0 + m ≡ m
    none m = omega arith

abbrev url_with : ℕ → ℕ → List ℕ
url_with maker model = codes "https://maker" ++ decimal maker ++ codes ".example.com/model" ++ decimal model

abbrev has_url : ℕ → Bool
has_url model = is_canonical (url_with (model % 8) model)

have_urls : list_all has_url (range_with_len 0 32) ≡ true
unfolding url_on_literals digits
have_urls = refl

maker_of : (thing : ℕ) → thing % 8 ≡ thing % 32 % 8
maker_of thing = omega arith

model_within : (thing : ℕ) → thing % 32 < 32
model_within thing = omega arith

pub url_is_canonical : (thing : ℕ) → is_canonical (usage_url thing) ≡ true
unfolding usage_url
url_is_canonical thing =
    ap (λ (maker : ℕ). is_canonical (url_with maker (thing % 32))) (maker_of thing)
    ∙ each_below has_url 32 (thing % 32) have_urls (model_within thing)

abbrev name_with : ℕ → List ℕ
name_with model = codes "host" ++ decimal model ++ codes ".example.com"

abbrev has_name : ℕ → Bool
has_name model = is_name (name_with model)

have_names : list_all has_name (range_with_len 0 32) ≡ true
unfolding url_on_literals digits is_name
have_names = refl

pub host_is_name : (thing : ℕ) → is_name (host_text thing) ≡ true
unfolding host_text
host_is_name thing = each_below has_name 32 (thing % 32) have_names (model_within thing)
