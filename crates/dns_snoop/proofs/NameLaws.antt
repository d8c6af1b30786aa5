-- One text has one list of labels, and the other way.
use Rattle.std.proofs.Common.{◌≡◌, ℕ, List, [], ◌∷◌, ◌++◌, length, take, drop, refl, sym, ap, ap₂, ◌∙◌, arith}
use Rattle.std.proofs.lemmas.List.{take-append-le, drop-append-le, take_all, drop_all}
use Rattle.mud_url.specs.Host.{lowered}
use Rattle.mud_url.proofs.Bounds.{length-lowered}
use Rattle.dns_snoop.specs.Names.{Label, labels_of, text_of}

take-front : (xs ys : List ℕ) (n : ℕ) → n ≡ length xs → take n (xs ++ ys) ≡ xs
take-front xs ys n is = take-append-le n xs ys (omega arith) ∙ take_all n xs (omega arith)

drop-front : (xs ys : List ℕ) (n : ℕ) → n ≡ length xs → drop n (xs ++ ys) ≡ ys
drop-front xs ys n is = drop-append-le n xs ys (omega arith) ∙ ap (λ (front : List ℕ). front ++ ys) (drop_all n xs (omega arith))

head-same : (a b : ℕ) (xs ys : List ℕ) → a ∷ xs ≡ b ∷ ys → a ≡ b
head-same a b xs ys is = cc

tail-same : (a b : ℕ) (xs ys : List ℕ) → a ∷ xs ≡ b ∷ ys → xs ≡ ys
tail-same a b xs ys is = cc

first-same : (a b : List ℕ) (xs ys : List (List ℕ)) → a ∷ xs ≡ b ∷ ys → a ≡ b
first-same a b xs ys is = cc

rest-same : (a b : List ℕ) (xs ys : List (List ℕ)) → a ∷ xs ≡ b ∷ ys → xs ≡ ys
rest-same a b xs ys is = cc

pub same_labels : (a b : List Label) → text_of a ≡ text_of b → labels_of a ≡ labels_of b
unfolding text_of
same_labels [] [] is = refl
same_labels [] (y ∷ b) is = cc
same_labels (x ∷ a) [] is = cc
same_labels (x ∷ a) (y ∷ b) is =
    let len = head-same (length x.text) (length y.text) (lowered x.text ++ text_of a) (lowered y.text ++ text_of b) is in
    let rest = tail-same (length x.text) (length y.text) (lowered x.text ++ text_of a) (lowered y.text ++ text_of b) is in
    let n = length x.text in
    let here : n ≡ length (lowered x.text) = sym (length-lowered x.text) in
    let there : n ≡ length (lowered y.text) = len ∙ sym (length-lowered y.text) in
    let first : lowered x.text ≡ lowered y.text = sym (take-front (lowered x.text) (text_of a) n here) ∙ ap (take n) rest ∙ take-front (lowered y.text) (text_of b) n there in
    let later : text_of a ≡ text_of b = sym (drop-front (lowered x.text) (text_of a) n here) ∙ ap (drop n) rest ∙ drop-front (lowered y.text) (text_of b) n there in
    ap₂ (λ (l : List ℕ) (ls : List (List ℕ)). l ∷ ls) first (same_labels a b later)

pub same_texts : (a b : List Label) → labels_of a ≡ labels_of b → text_of a ≡ text_of b
unfolding text_of
same_texts [] [] is = refl
same_texts [] (y ∷ b) is = cc
same_texts (x ∷ a) [] is = cc
same_texts (x ∷ a) (y ∷ b) is =
    let first = first-same (lowered x.text) (lowered y.text) (labels_of a) (labels_of b) is in
    let later = same_texts a b (rest-same (lowered x.text) (lowered y.text) (labels_of a) (labels_of b) is) in
    let len : length x.text ≡ length y.text = sym (length-lowered x.text) ∙ ap length first ∙ length-lowered y.text in
    rw (len, first, later) refl
