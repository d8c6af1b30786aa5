-- A text at the front of a buffer of 256 octets, with zeros behind it.
use Rattle.std.specs.Prelude.{◌≡◌, ℕ, ◌+◌, ◌-◌, ◌<◌, ◌≤◌, List, ◌++◌, length, take, drop, replicate}
use Rattle.std.proofs.Common.{set, arith, sym, ap, ◌∙◌, length-set}
use Rattle.std.proofs.lemmas.List.{take-append-drop, length-take-le, drop-set-lt, drop-drop, drop-replicate}

-- the octets in use
abbrev pub front : List ℕ → ℕ → List ℕ
front buffer len = take len buffer

-- the text, and zeros up to the end
abbrev pub padded : List ℕ → List ℕ
padded text = text ++ replicate (256 - length text) 0

pub record IsPadded (buffer : List ℕ) (len : ℕ) : Type 0 where
  pub within : len ≤ 256
  pub whole : length buffer ≡ 256
  pub zeros : drop len buffer ≡ replicate (256 - len) 0

pub length-front : (buffer : List ℕ) (len : ℕ) → IsPadded buffer len → length (front buffer len) ≡ len
length-front buffer len p = length-take-le len buffer (omega arith)

pub padded-front : (buffer : List ℕ) (len : ℕ) → IsPadded buffer len → padded (front buffer len) ≡ buffer
padded-front buffer len p = rw (length-front buffer len p, ← p.zeros) (take-append-drop len buffer)

pub IsPadded-push : (buffer : List ℕ) (len octet : ℕ) → IsPadded buffer len → len < 256 → IsPadded (set buffer len octet) (len + 1)
IsPadded-push buffer len octet p room = record {
  within = omega arith;
  whole = simp length-set p.whole;
  zeros = drop-set-lt (len + 1) buffer len octet (omega arith) ∙ sym (drop-drop 1 len buffer) ∙ ap (drop 1) p.zeros ∙ drop-replicate 1 (256 - len) 0 ∙ ap (λ n. replicate n 0) (omega arith);
}
