-- The sort keys that are kept: those that appear first of each beginning, and what one sort key more makes of them.
use Rattle.std.proofs.Common.{◌≡◌, ℕ, zero, suc, ◌+◌, ◌≤◌, ◌<◌, Bool, true, false, cond, not, ◌||◌, List, [], ◌∷◌, ◌++◌, length, take, refl, sym, ap, subst, ◌∙◌, arith, length-append}
use Rattle.std.specs.List.{filter, list_any}
use Rattle.std.proofs.lemmas.Bool.{false≢true}
use Rattle.std.proofs.lemmas.List.Elements.{filter-append}
use Rattle.std.proofs.lemmas.List.Folds.{list_any-append}
use Rattle.std.proofs.lemmas.List.{take-append-le, append-nil}
use Rattle.std.proofs.Math.Bool.{or-false}
use Rattle.base_rows.specs.Sortable.{same_sort_key}
use Rattle.base_rows.proofs.SortableLaws.{same_sort_key_exact, same_sort_key_itself}
use Rattle.drop_ledger.specs.Counted.{SortKey, is_of, those_of}
use Rattle.drop_ledger.proofs.CountLaws.{sort_key_turned}
use Rattle.drop_ledger.proofs.Parts.{firsts, kept_of, is_kept}

-- ---- Each sort key once

abbrev other : SortKey → SortKey → Bool
other p q = not (same_sort_key p q)

one_by : (p q : SortKey) (any b : Bool) → same_sort_key p q ≡ b → filter (other p) (cond any [] (q ∷ [])) ≡ cond (b || any) [] (q ∷ [])
one_by p q true true e = refl
one_by p q true false e = refl
one_by p q false true e = ap (λ b. cond (not b) (q ∷ []) []) e
one_by p q false false e = ap (λ b. cond (not b) (q ∷ []) []) e

pub firsts_more : (q : SortKey) (ps : List SortKey) → firsts (ps ++ q ∷ []) ≡ firsts ps ++ cond (list_any (same_sort_key q) ps) [] (q ∷ [])
firsts_more q [] = refl
firsts_more q (p ∷ ps) =
    ap (λ l. p ∷ filter (other p) l) (firsts_more q ps)
    ∙ ap (λ l. p ∷ l) (filter-append (other p) (firsts ps) (cond (list_any (same_sort_key q) ps) [] (q ∷ [])))
    ∙ ap (λ l. p ∷ (filter (other p) (firsts ps) ++ l)) (one_by p q (list_any (same_sort_key q) ps) (same_sort_key q p) (sort_key_turned p q))

filtered_by : (q p x : SortKey) (xs : List SortKey) → same_sort_key q p ≡ false → list_any (same_sort_key q) (filter (other p) xs) ≡ list_any (same_sort_key q) xs → (b c : Bool) → same_sort_key p x ≡ b → same_sort_key q x ≡ c
    → list_any (same_sort_key q) (cond (not b) (x ∷ filter (other p) xs) (filter (other p) xs)) ≡ (same_sort_key q x || list_any (same_sort_key q) xs)
filtered_by q p x xs apart rest true true e f = absurd (false≢true (sym apart ∙ subst (λ y. same_sort_key q y ≡ true) (sym (same_sort_key_exact p x e)) f))
filtered_by q p x xs apart rest true false e f = rest ∙ ap (λ b. b || list_any (same_sort_key q) xs) (sym f)
filtered_by q p x xs apart rest false c e f = ap (λ b. same_sort_key q x || b) rest

-- a test that no sort key passes which is left out
any_filtered : (q p : SortKey) (xs : List SortKey) → same_sort_key q p ≡ false → list_any (same_sort_key q) (filter (other p) xs) ≡ list_any (same_sort_key q) xs
any_filtered q p [] apart = refl
any_filtered q p (x ∷ xs) apart = filtered_by q p x xs apart (any_filtered q p xs apart) (same_sort_key p x) (same_sort_key q x) refl refl

firsts_by : (q p : SortKey) (ps : List SortKey) → list_any (same_sort_key q) (firsts ps) ≡ list_any (same_sort_key q) ps → (b : Bool) → same_sort_key q p ≡ b → (b || list_any (same_sort_key q) (filter (other p) (firsts ps))) ≡ (b || list_any (same_sort_key q) ps)
firsts_by q p ps rest true e = refl
firsts_by q p ps rest false e = any_filtered q p (firsts ps) e ∙ rest

pub any_firsts : (q : SortKey) (ps : List SortKey) → list_any (same_sort_key q) (firsts ps) ≡ list_any (same_sort_key q) ps
any_firsts q [] = refl
any_firsts q (p ∷ ps) = firsts_by q p ps (any_firsts q ps) (same_sort_key q p) refl

-- ---- Those of one beginning

pub those_more : (t q : SortKey) (ps : List SortKey) → those_of t (ps ++ q ∷ []) ≡ those_of t ps ++ cond (is_of t q) (q ∷ []) []
unfolding those_of
those_more t q ps = filter-append (is_of t) ps (q ∷ [])

those_by : (t q x : SortKey) (xs : List SortKey) → is_of t q ≡ true → list_any (same_sort_key q) (filter (is_of t) xs) ≡ list_any (same_sort_key q) xs → (b c : Bool) → is_of t x ≡ b → same_sort_key q x ≡ c
    → list_any (same_sort_key q) (cond b (x ∷ filter (is_of t) xs) (filter (is_of t) xs)) ≡ (same_sort_key q x || list_any (same_sort_key q) xs)
those_by t q x xs of rest true c e f = ap (λ b. same_sort_key q x || b) rest
those_by t q x xs of rest false true e f = absurd (false≢true (sym e ∙ subst (λ y. is_of t y ≡ true) (same_sort_key_exact q x f) of))
those_by t q x xs of rest false false e f = rest ∙ ap (λ b. b || list_any (same_sort_key q) xs) (sym f)

pub any_those : (t q : SortKey) (ps : List SortKey) → is_of t q ≡ true → list_any (same_sort_key q) (those_of t ps) ≡ list_any (same_sort_key q) ps
unfolding those_of
any_those t q [] of = refl
any_those t q (x ∷ xs) of = those_by t q x xs of (any_those t q xs of) (is_of t x) (same_sort_key q x) refl refl

-- ---- Lists cut off

or_more : (b c d : Bool) → (c ≡ true → d ≡ true) → (b || c) ≡ true → (b || d) ≡ true
or_more true c d more e = refl
or_more false c d more e = more e

pub take_any : (q : SortKey) (n : ℕ) (xs : List SortKey) → list_any (same_sort_key q) (take n xs) ≡ true → list_any (same_sort_key q) xs ≡ true
take_any q zero xs e = absurd (false≢true e)
take_any q (suc n) [] e = e
take_any q (suc n) (x ∷ xs) e = or_more (same_sort_key q x) (list_any (same_sort_key q) (take n xs)) (list_any (same_sort_key q) xs) (take_any q n xs) e

take_all : (n : ℕ) (xs : List SortKey) → length (take n xs) < n → take n xs ≡ xs
take_all zero xs e = absurd (omega arith)
take_all (suc n) [] e = refl
take_all (suc n) (x ∷ xs) e = ap (λ l. x ∷ l) (take_all n xs (omega (arith, e)))

take_short : (n : ℕ) (xs : List SortKey) → length xs ≤ n → take n xs ≡ xs
take_short zero [] e = refl
take_short zero (x ∷ xs) e = absurd (omega (arith, e))
take_short (suc n) [] e = refl
take_short (suc n) (x ∷ xs) e = ap (λ l. x ∷ l) (take_short n xs (omega (arith, e)))

take_long : (n : ℕ) (xs : List SortKey) → n ≤ length (take n xs) → n ≤ length xs
take_long zero xs e = omega arith
take_long (suc n) [] e = e
take_long (suc n) (x ∷ xs) e = let rest : n ≤ length xs = take_long n xs (omega (arith, e)) in omega arith

-- ---- Those that are kept, with one sort key more

module _ (most : ℕ) (t q : SortKey) (ps : List SortKey) where
  pub kept_other : is_of t q ≡ false → kept_of most t (ps ++ q ∷ []) ≡ kept_of most t ps
  kept_other apart = ap (λ l. take most (firsts l)) (those_more t q ps ∙ ap (λ b. those_of t ps ++ cond b (q ∷ []) []) apart ∙ append-nil (those_of t ps))

  kept_by : is_of t q ≡ true → kept_of most t (ps ++ q ∷ []) ≡ take most (firsts (those_of t ps) ++ cond (list_any (same_sort_key q) (those_of t ps)) [] (q ∷ []))
  kept_by own = ap (λ l. take most (firsts l)) (those_more t q ps ∙ ap (λ b. those_of t ps ++ cond b (q ∷ []) []) own) ∙ ap (take most) (firsts_more q (those_of t ps))

  pub kept_again : is_of t q ≡ true → is_kept most t ps q ≡ true → kept_of most t (ps ++ q ∷ []) ≡ kept_of most t ps
  kept_again own is =
      let seen : list_any (same_sort_key q) (those_of t ps) ≡ true = sym (any_firsts q (those_of t ps)) ∙ take_any q most (firsts (those_of t ps)) is in
      kept_by own ∙ ap (λ b. take most (firsts (those_of t ps) ++ cond b [] (q ∷ []))) seen ∙ ap (take most) (append-nil (firsts (those_of t ps)))

  pub unseen : is_of t q ≡ true → is_kept most t ps q ≡ false → length (kept_of most t ps) < most → list_any (same_sort_key q) (those_of t ps) ≡ false
  unseen own apart few = sym (any_firsts q (those_of t ps)) ∙ ap (list_any (same_sort_key q)) (sym (take_all most (firsts (those_of t ps)) few)) ∙ apart

  pub kept_new : is_of t q ≡ true → is_kept most t ps q ≡ false → length (kept_of most t ps) < most → kept_of most t (ps ++ q ∷ []) ≡ kept_of most t ps ++ q ∷ []
  kept_new own apart few =
      let whole : take most (firsts (those_of t ps)) ≡ firsts (those_of t ps) = take_all most (firsts (those_of t ps)) few in
      let short : length (firsts (those_of t ps)) < most = subst (λ l. length l < most) whole few in
      let sum : length (firsts (those_of t ps) ++ q ∷ []) ≡ length (firsts (those_of t ps)) + 1 = length-append (firsts (those_of t ps)) (q ∷ []) in
      kept_by own ∙ ap (λ b. take most (firsts (those_of t ps) ++ cond b [] (q ∷ []))) (unseen own apart few)
      ∙ take_short most (firsts (those_of t ps) ++ q ∷ []) (omega arith)
      ∙ ap (λ l. l ++ q ∷ []) (sym whole)

  pub kept_late : is_of t q ≡ true → most ≤ length (kept_of most t ps) → kept_of most t (ps ++ q ∷ []) ≡ kept_of most t ps
  kept_late own full = kept_by own ∙ take-append-le most (firsts (those_of t ps)) (cond (list_any (same_sort_key q) (those_of t ps)) [] (q ∷ [])) (take_long most (firsts (those_of t ps)) full)

-- ---- Beginnings

module _ (len : ℕ) (q : SortKey) (long : len ≤ length q) where
  take_len : (n : ℕ) (xs : SortKey) → n ≤ length xs → length (take n xs) ≡ n
  take_len zero xs e = refl
  take_len (suc n) [] e = absurd (omega (arith, e))
  take_len (suc n) (x ∷ xs) e = ap suc (take_len n xs (omega (arith, e)))

  pub own_length : length (take len q) ≡ len
  own_length = take_len len q long

  pub of_own : is_of (take len q) q ≡ true
  unfolding is_of
  of_own = subst (λ n. same_sort_key (take len q) (take n q) ≡ true) (sym own_length) (same_sort_key_itself (take len q))

  -- another beginning of the same length isn't its own
  pub is_own : (t : SortKey) → length t ≡ len → is_of t q ≡ true → t ≡ take len q
  unfolding is_of
  is_own t at e = same_sort_key_exact t (take len q) (subst (λ n. same_sort_key t (take n q) ≡ true) at e)

-- ---- One sort key more, as all beginnings of its length see it

module _ (len most : ℕ) (ps : List SortKey) (q : SortKey) (long : len ≤ length q) where
  abbrev own : SortKey
  own = take len q

  yes_own : is_of own q ≡ true
  yes_own = of_own len q long

  -- what is kept has appeared
  pub appeared : is_kept most own ps q ≡ true → list_any (same_sort_key q) ps ≡ true
  appeared kept = sym (any_those own q ps yes_own) ∙ sym (any_firsts q (those_of own ps)) ∙ take_any q most (firsts (those_of own ps)) kept

  -- a sort key that isn't kept, where fewer than the most are, didn't appear
  pub not_appeared : is_kept most own ps q ≡ false → length (kept_of most own ps) < most → list_any (same_sort_key q) ps ≡ false
  not_appeared apart few = sym (any_those own q ps yes_own) ∙ unseen most own q ps yes_own apart few

  -- ---- The sort keys that are kept stay

  pub kept_all : kept_of most own (ps ++ q ∷ []) ≡ kept_of most own ps → (t : SortKey) → length t ≡ len → kept_of most t (ps ++ q ∷ []) ≡ kept_of most t ps
  kept_all same t at = by (is_of t q) refl
    where
      by : (b : Bool) → is_of t q ≡ b → kept_of most t (ps ++ q ∷ []) ≡ kept_of most t ps
      by true e = subst (λ u. kept_of most u (ps ++ q ∷ []) ≡ kept_of most u ps) (sym (is_own len q long t at e)) same
      by false e = kept_other most t q ps e

  kept_at : kept_of most own (ps ++ q ∷ []) ≡ kept_of most own ps → (p : SortKey) → len ≤ length p → is_kept most (take len p) (ps ++ q ∷ []) p ≡ is_kept most (take len p) ps p
  kept_at same p long' = ap (λ l. list_any (same_sort_key p) l) (kept_all same (take len p) (own_length len p long'))

  pub again_at : is_kept most own ps q ≡ true → (p : SortKey) → len ≤ length p → is_kept most (take len p) (ps ++ q ∷ []) p ≡ is_kept most (take len p) ps p
  again_at kept = kept_at (kept_again most own q ps yes_own kept)

  pub late_at : most ≤ length (kept_of most own ps) → (p : SortKey) → len ≤ length p → is_kept most (take len p) (ps ++ q ∷ []) p ≡ is_kept most (take len p) ps p
  late_at full = kept_at (kept_late most own q ps yes_own full)

  -- ---- The sort key is kept too

  pub kept_grown : kept_of most own (ps ++ q ∷ []) ≡ kept_of most own ps ++ q ∷ [] → (t : SortKey) → length t ≡ len → kept_of most t (ps ++ q ∷ []) ≡ kept_of most t ps ++ cond (is_of t q) (q ∷ []) []
  kept_grown grown t at = by (is_of t q) refl
    where
      by : (b : Bool) → is_of t q ≡ b → kept_of most t (ps ++ q ∷ []) ≡ kept_of most t ps ++ cond b (q ∷ []) []
      by true e = subst (λ u. kept_of most u (ps ++ q ∷ []) ≡ kept_of most u ps ++ q ∷ []) (sym (is_own len q long t at e)) grown
      by false e = kept_other most t q ps e ∙ sym (append-nil (kept_of most t ps))

  grown_at : kept_of most own (ps ++ q ∷ []) ≡ kept_of most own ps ++ q ∷ [] → (p : SortKey) → len ≤ length p → is_kept most (take len p) (ps ++ q ∷ []) p ≡ (is_kept most (take len p) ps p || same_sort_key q p)
  grown_at grown p long' =
      ap (λ l. list_any (same_sort_key p) l) (kept_grown grown (take len p) (own_length len p long'))
      ∙ list_any-append (same_sort_key p) (kept_of most (take len p) ps) (cond (is_of (take len p) q) (q ∷ []) [])
      ∙ ap (λ b. list_any (same_sort_key p) (kept_of most (take len p) ps) || b) (by (same_sort_key q p) refl)
    where
      by : (b : Bool) → same_sort_key q p ≡ b → list_any (same_sort_key p) (cond (is_of (take len p) q) (q ∷ []) []) ≡ b
      by true e =
          let is : q ≡ p = same_sort_key_exact q p e in
          ap (λ c. list_any (same_sort_key p) (cond c (q ∷ []) [])) (subst (λ r. is_of (take len r) q ≡ true) is yes_own)
          ∙ or-false (same_sort_key p q) ∙ subst (λ r. same_sort_key r q ≡ true) is (same_sort_key_itself q)
      by false e = part (is_of (take len p) q)
        where
          part : (c : Bool) → list_any (same_sort_key p) (cond c (q ∷ []) []) ≡ false
          part true = or-false (same_sort_key p q) ∙ sort_key_turned p q ∙ e
          part false = refl

  pub new_at : is_kept most own ps q ≡ false → length (kept_of most own ps) < most → (p : SortKey) → len ≤ length p → is_kept most (take len p) (ps ++ q ∷ []) p ≡ (is_kept most (take len p) ps p || same_sort_key q p)
  new_at apart few = grown_at (kept_new most own q ps yes_own apart few)
