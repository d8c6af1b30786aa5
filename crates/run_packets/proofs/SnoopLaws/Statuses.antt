-- The status of a capture's end, and that of the run.
use Rattle.std.proofs.Common.{◌≡◌, ℕ, ◌⊎◌, inl, inr, Bool, true, false, refl, arith}

abbrev pub IsOfEnd : ℕ → Type 0
IsOfEnd status = (status ≡ 0) ⊎ ((status ≡ 3) ⊎ ((status ≡ 4) ⊎ (status ≡ 5)))

module _ (failed : Bool) (status result : ℕ) (of_end : IsOfEnd status) (kept : failed ≡ false → result ≡ status) (early : (status ≡ 4) ⊎ (status ≡ 5) → result ≡ status)
    (seven : failed ≡ true → (status ≡ 0) ⊎ (status ≡ 3) → result ≡ 7) where
  -- with 0, 3 and 7 the capture was read to its end
  read_of : (result ≡ 0) ⊎ ((result ≡ 3) ⊎ (result ≡ 7)) → (is : IsOfEnd status) → (status ≡ 0) ⊎ (status ≡ 3)
  read_of which (inl zero) = inl zero
  read_of which (inr (inl three)) = inr three
  read_of which (inr (inr (inl four))) = let same = early (inl four) in absurd (grind arith)
  read_of which (inr (inr (inr five))) = let same = early (inr five) in absurd (grind arith)

  pub was_read : (result ≡ 0) ⊎ ((result ≡ 3) ⊎ (result ≡ 7)) → (status ≡ 0) ⊎ (status ≡ 3)
  was_read which = read_of which of_end

  not_cut : (b : Bool) → failed ≡ b → (status ≡ 0) ⊎ (status ≡ 3) → (result ≡ 4) ⊎ (result ≡ 5) → (status ≡ 4) ⊎ (status ≡ 5)
  not_cut true e read which = let is = seven e read in absurd (grind arith)
  not_cut false e read which = let is = kept e in absurd (grind arith)

  cut_of : (result ≡ 4) ⊎ (result ≡ 5) → (is : IsOfEnd status) → (status ≡ 4) ⊎ (status ≡ 5)
  cut_of which (inl zero) = not_cut failed refl (inl zero) which
  cut_of which (inr (inl three)) = not_cut failed refl (inr three) which
  cut_of which (inr (inr (inl four))) = inl four
  cut_of which (inr (inr (inr five))) = inr five

  pub was_cut : (result ≡ 4) ⊎ (result ≡ 5) → (status ≡ 4) ⊎ (status ≡ 5)
  was_cut which = cut_of which of_end
