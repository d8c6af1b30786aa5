-- What a buffer keeps of texts that are added one after the other.
use Rattle.std.proofs.Common.{◌≡◌, ℕ, ◌*◌, ◌/◌, ◌%◌, ◌-◌, min, Bool, true, false, cond, lit≤, suc, zero, ◌+◌, ◌<◌, ◌≤◌, List, [], ◌∷◌, ◌++◌, length, take, get_or, refl, sym, ap, ◌∙◌, arith, append_assoc, append-nil, length-append, take-add, take-take, take_at, drop_at}
use Rattle.std.specs.Prelude.{flat_map, nat_lt}
use Rattle.std.proofs.Math.ListN.{set}
use Rattle.std.proofs.lemmas.List.{take_all, take-append-le, length-take-le, length-take}
use Rattle.std.proofs.lemmas.List.{take_more_set, take_more, take_min}
use Rattle.std.proofs.lemmas.Grind.{flat_map-append}
use Rattle.std.specs.Char.{digit_char}
use Rattle.json.specs.Print.{escape_letter, escape_byte, escape, quoted}
use Rattle.console_answers.specs.Kept.{kept}
use Rattle.console_answers.specs.Rooms.{IsFilled}

pub kept_short : (text : List ℕ) → length text ≤ 4096 → kept text ≡ text
unfolding kept
kept_short text short = take_all 4096 text short

taken_taken : (n : ℕ) (x y : List ℕ) → take n (take n x ++ y) ≡ take n (x ++ y)
taken_taken zero x y = refl
taken_taken (suc n) [] y = refl
taken_taken (suc n) (a ∷ x) y = ap (λ (more : List ℕ). a ∷ more) (taken_taken n x y)

pub kept_kept : (x y : List ℕ) → kept (kept x ++ y) ≡ kept (x ++ y)
unfolding kept
kept_kept x y = taken_taken 4096 x y

-- one text behind another
pub kept_behind : (s a b : List ℕ) → kept (kept (s ++ a) ++ b) ≡ kept (s ++ (a ++ b))
kept_behind s a b = kept_kept (s ++ a) b ∙ ap kept (append_assoc s a b)

-- no text
pub kept_none : (s : List ℕ) → length s ≤ 4096 → s ≡ kept (s ++ [])
kept_none s short = sym (kept_short s short) ∙ ap kept (sym (append-nil s))

flat_map-next : (f : ℕ → List ℕ) (t : List ℕ) (i d : ℕ) → i < length t → flat_map f (take (i + 1) t) ≡ flat_map f (take i t) ++ f (get_or t i d)
flat_map-next f t i d within = ap (flat_map f) (take_more t i d within) ∙ flat_map-append f (take i t) (get_or t i d ∷ []) ∙ ap (λ x. flat_map f (take i t) ++ x) (append-nil (f (get_or t i d)))

-- what the next octet of a text stands for
pub kept_next_by : (f : ℕ → List ℕ) (s t : List ℕ) (i d : ℕ) → i < length t → kept (kept (s ++ flat_map f (take i t)) ++ f (get_or t i d)) ≡ kept (s ++ flat_map f (take (i + 1) t))
kept_next_by f s t i d within = kept_behind s (flat_map f (take i t)) (f (get_or t i d)) ∙ ap (λ x. kept (s ++ x)) (sym (flat_map-next f t i d within))

-- a text in quotes
pub kept_quoted : (s e : List ℕ) (q : ℕ) → kept (kept (kept (s ++ q ∷ []) ++ e) ++ q ∷ []) ≡ kept (s ++ q ∷ (e ++ q ∷ []))
kept_quoted s e q = ap (λ t. kept (t ++ q ∷ [])) (kept_behind s (q ∷ []) e) ∙ kept_behind s (q ∷ e) (q ∷ [])

-- an octet that fits
pub front_pushed : (octets : List ℕ) (len octet : ℕ) → IsFilled octets len → len < 4096 → take (len + 1) (set octets len octet) ≡ kept (take len octets ++ octet ∷ [])
front_pushed octets len octet filled room =
    let front : length (take len octets) ≤ len = omega (arith, length-take len octets) in
    take_more_set octets len octet (omega (arith, filled.whole)) ∙ sym (kept_short (take len octets ++ octet ∷ []) (omega (arith, length-append (take len octets) (octet ∷ []))))

-- one that doesn't
pub front_full : (octets : List ℕ) (len octet : ℕ) → IsFilled octets len → 4096 ≤ len → take len octets ≡ kept (take len octets ++ octet ∷ [])
unfolding kept
front_full octets len octet filled full =
    let whole : length (take len octets) ≡ len = length-take-le len octets (omega (arith, filled.whole)) in
    sym (take-append-le 4096 (take len octets) (octet ∷ []) (omega arith) ∙ take_all 4096 (take len octets) (omega (arith, filled.within)))

-- as much of a text as fits
taken_behind : (n room : ℕ) (a b : List ℕ) → length a ≡ n → take (n + room) (a ++ b) ≡ a ++ take room b
taken_behind n room a b whole = take-add n room (a ++ b) ∙ (λ i. take_at a b n whole i ++ take room (drop_at a b n whole i))

front_fits : (octets text : List ℕ) (len fits : ℕ) → IsFilled octets len → fits ≡ min (4096 - len) (length text) → take len octets ++ take fits text ≡ kept (take len octets ++ text)
unfolding kept
front_fits octets text len fits filled is =
    let room = 4096 - len in
    let front : length (take len octets) ≡ len = length-take-le len octets (omega (arith, filled.within, filled.whole)) in
    let whole : 4096 ≡ len + room = omega (arith, filled.within) in
    ap (λ (t : List ℕ). take len octets ++ t) (ap (λ n. take n text) is ∙ take_min room text)
    ∙ sym (ap (λ n. take n (take len octets ++ text)) whole ∙ taken_behind len room (take len octets) text front)

-- the octets in use, once as much of a text as fits was written behind them
pub text_put_in : (octets after_put rest old text put : List ℕ) (whole len fits end : ℕ) → IsFilled octets len → whole ≡ 4096 → length after_put ≡ 4096 → fits ≡ min (4096 - len) (length text)
    → put ≡ take fits text → end ≡ len + length put → take end after_put ≡ take len octets ++ put → old ≡ take len octets → take end (take whole (after_put ++ rest)) ≡ kept (old ++ text)
text_put_in octets after_put rest old text put whole len fits end filled full long is same stop front was =
    let written : length put ≡ fits = ap length same ∙ length-take-le fits text (omega arith) in
    take-take end whole (after_put ++ rest) (omega (arith, filled.within))
    ∙ take-append-le end after_put rest (omega (arith, filled.within))
    ∙ front
    ∙ ap (λ (t : List ℕ). take len octets ++ t) same
    ∙ front_fits octets text len fits filled is
    ∙ ap (λ (t : List ℕ). kept (t ++ text)) (sym was)

pub kept_then : (s a b t u : List ℕ) → t ≡ kept (s ++ a) → u ≡ kept (t ++ b) → u ≡ kept (s ++ (a ++ b))
kept_then s a b t u first next = next ∙ ap (λ x. kept (x ++ b)) first ∙ kept_behind s a b

-- texts inside a JSON string
pub kept_escaped : (s a b : List ℕ) → kept (kept (s ++ escape a) ++ escape b) ≡ kept (s ++ escape (a ++ b))
kept_escaped s a b = kept_behind s (escape a) (escape b) ∙ ap (λ x. kept (s ++ x)) (sym (flat_map-append escape_byte a b))

-- an octet of a text is written as at most six
short_byte : (c : ℕ) → length (escape_byte c) ≤ 6
unfolding escape_byte
short_byte c = by_letter (nat_lt 0 (escape_letter c)) (nat_lt c 32)
  where
    by_letter : (b d : Bool) → length (cond b (92 ∷ escape_letter c ∷ []) (cond d (92 ∷ 117 ∷ 48 ∷ 48 ∷ digit_char (c / 16) ∷ digit_char (c % 16) ∷ []) (c ∷ []))) ≤ 6
    by_letter true d = lit≤ tt
    by_letter false true = lit≤ tt
    by_letter false false = lit≤ tt

pub short_escape : (text : List ℕ) → length (escape text) ≤ 6 * length text
short_escape [] = omega arith
short_escape (c ∷ text) = omega (arith, short_byte c, short_escape text, length-append (escape_byte c) (escape text))

pub short_quoted : (text : List ℕ) → length (quoted text) ≤ 6 * length text + 2
short_quoted text = omega (arith, short_escape text, length-append (escape text) (34 ∷ []))

pub kept_escaped_then : (s a b t u : List ℕ) → t ≡ kept (s ++ escape a) → u ≡ kept (t ++ escape b) → u ≡ kept (s ++ escape (a ++ b))
kept_escaped_then s a b t u first next = next ∙ ap (λ x. kept (x ++ escape b)) first ∙ kept_escaped s a b
