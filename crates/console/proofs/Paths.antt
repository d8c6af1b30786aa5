-- The path of a target is its own path.
use Rattle.std.proofs.Common.{◌≡◌, ℕ, suc, ◌+◌, Bool, true, false, not, cond, List, [], ◌∷◌, take, refl, sym, ap, ◌∙◌, arith}
use Rattle.std.specs.Prelude.{find, ◌==◌}
use Rattle.std.specs.List.{prefix_len}
use Rattle.httparse.specs.Grammar.{RequestHead}
use Rattle.http_requests.specs.Requests.{path_of}
use Rattle.mud_url.specs.Url.{before_query}
use Rattle.console_routes.specs.Routes.{route_of, has_path, all_routes}

-- the elements from the front on that pass
abbrev front : (ℕ → Bool) → List ℕ → List ℕ
front q cs = take (prefix_len q cs) cs

front_next : (q : ℕ → Bool) (c : ℕ) (cs : List ℕ) → q c ≡ true → front q (c ∷ cs) ≡ c ∷ front q cs
front_next q c cs is =
    let more : 1 + prefix_len q cs ≡ suc (prefix_len q cs) = omega arith in
    ap (λ (b : Bool). take (cond b (1 + prefix_len q cs) 0) (c ∷ cs)) is ∙ ap (λ n. take n (c ∷ cs)) more

front_none : (q : ℕ → Bool) (c : ℕ) (cs : List ℕ) → q c ≡ false → front q (c ∷ cs) ≡ []
front_none q c cs is = ap (λ (b : Bool). take (cond b (1 + prefix_len q cs) 0) (c ∷ cs)) is

again_by : (q : ℕ → Bool) (c : ℕ) (cs : List ℕ) (b : Bool) → q c ≡ b → front q (front q cs) ≡ front q cs → front q (front q (c ∷ cs)) ≡ front q (c ∷ cs)
again_by q c cs true is again =
    ap (front q) (front_next q c cs is) ∙ front_next q c (front q cs) is ∙ ap (λ rest. c ∷ rest) again ∙ sym (front_next q c cs is)
again_by q c cs false is again = ap (front q) (front_none q c cs is) ∙ sym (front_none q c cs is)

front_again : (q : ℕ → Bool) (cs : List ℕ) → front q (front q cs) ≡ front q cs
front_again q [] = refl
front_again q (c ∷ cs) = again_by q c cs (q c) refl (front_again q cs)

pub route_again : (head : RequestHead) → route_of (path_of head) ≡ route_of head.target
unfolding path_of route_of before_query
route_again head = ap (λ (path : List ℕ). find (has_path path) all_routes) (front_again (λ c. not (c == 63)) head.target)
