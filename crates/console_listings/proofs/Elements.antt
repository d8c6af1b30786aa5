-- The elements of a list, one after the other.
use Rattle.std.proofs.Common.{◌≡◌, ℕ, suc, zero, ◌+◌, ◌<◌, ◌≤◌, List, [], ◌∷◌, ◌++◌, length, take, get_or, refl, sym, ap, ◌∙◌, arith, append_assoc, append-nil, ne_eqb}
use Rattle.std.specs.Prelude.{flat_map, codes}
use Rattle.std.proofs.lemmas.List.{take_more, take_all}
use Rattle.std.proofs.lemmas.Grind.{flat_map-append}
use Rattle.text_values.specs.Lists.{behind_comma, with_commas}
use Rattle.console_listings.specs.Lists.{comma_before, element_text}

comma_suc : (i : ℕ) → comma_before (suc i) ≡ codes ","
unfolding comma_before
comma_suc i = rw (ne_eqb (suc i) 0 (omega arith)) refl

module _ {A : Type 0} (text : A → List ℕ) where
  more_next : (rows : List A) (i : ℕ) (row : A) → i < length rows → row ≡ get_or rows i row → flat_map (behind_comma text) (take (i + 1) rows) ≡ flat_map (behind_comma text) (take i rows) ++ (codes "," ++ text row)
  more_next rows i row within is =
      ap (flat_map (behind_comma text)) (take_more rows i row within)
      ∙ flat_map-append (behind_comma text) (take i rows) (get_or rows i row ∷ [])
      ∙ ap (λ (x : List ℕ). flat_map (behind_comma text) (take i rows) ++ x) (append-nil (codes "," ++ text (get_or rows i row)) ∙ ap (λ (a : A). codes "," ++ text a) (sym is))

  pub items_next : (rows : List A) (i : ℕ) (row : A) → i < length rows → row ≡ get_or rows i row → with_commas text (take i rows) ++ element_text text i row ≡ with_commas text (take (i + 1) rows)
  unfolding with_commas element_text comma_before
  items_next [] i row within is = absurd (omega arith)
  items_next (a ∷ rows) zero row within is = ap text is ∙ sym (append-nil (text a))
  items_next (a ∷ rows) (suc i) row within is =
      ap (λ (x : List ℕ). (text a ++ flat_map (behind_comma text) (take i rows)) ++ (x ++ text row)) (comma_suc i)
      ∙ append_assoc (text a) (flat_map (behind_comma text) (take i rows)) (codes "," ++ text row)
      ∙ ap (λ (x : List ℕ). text a ++ x) (sym (more_next rows i row (omega arith) is))
      ∙ ap (λ (n : ℕ). with_commas text (take n (a ∷ rows))) (let more : suc (i + 1) ≡ suc i + 1 = omega arith in more)

  pub items_all : (rows : List A) (i : ℕ) → length rows ≤ i → with_commas text (take i rows) ≡ with_commas text rows
  items_all rows i past = ap (with_commas text) (take_all i rows past)
