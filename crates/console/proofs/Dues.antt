-- The files that are due, one after the other.
use Rattle.std.proofs.Common.{◌≡◌, ℕ, ◌+◌, ◌<◌, ◌≤◌, Bool, true, false, cond, List, [], ◌∷◌, ◌++◌, length, take, get_or, sym, ap, ◌∙◌, append-nil}
use Rattle.std.specs.Prelude.{filter, map}
use Rattle.std.proofs.lemmas.List.{take_all, map-append}
use Rattle.std.proofs.lemmas.List.Elements.{filter_more}
use Rattle.usage_tables.specs.declared.cached_file.CachedFile.{CachedFile}
use Rattle.usage_tables.specs.Files.{url_of}
use Rattle.usage_tables.specs.Due.{is_due, due_urls}

-- what a row adds to the list
abbrev added : Bool → CachedFile → List CachedFile
added b row = cond b (row ∷ []) []

due_more : (now : ℕ) (files : List CachedFile) (i : ℕ) (row : CachedFile) (b : Bool) → i < length files → row ≡ get_or files i row → is_due now row ≡ b
    → due_urls now (take (i + 1) files) ≡ due_urls now (take i files) ++ map url_of (added b row)
unfolding due_urls
due_more now files i row b within is due =
    ap (map url_of) (filter_more (is_due now) files i row within)
    ∙ ap (λ (r : CachedFile). map url_of (filter (is_due now) (take i files) ++ added (is_due now r) r)) (sym is)
    ∙ ap (λ (d : Bool). map url_of (filter (is_due now) (take i files) ++ added d row)) due
    ∙ map-append url_of (filter (is_due now) (take i files)) (added b row)

pub due_next : (now : ℕ) (files : List CachedFile) (i : ℕ) (row : CachedFile) → i < length files → row ≡ get_or files i row → is_due now row ≡ true
    → due_urls now (take i files) ++ row.url ∷ [] ≡ due_urls now (take (i + 1) files)
unfolding url_of
due_next now files i row within is due = sym (due_more now files i row true within is due)

pub due_passed : (now : ℕ) (files : List CachedFile) (i : ℕ) (row : CachedFile) → i < length files → row ≡ get_or files i row → is_due now row ≡ false
    → due_urls now (take i files) ≡ due_urls now (take (i + 1) files)
due_passed now files i row within is due = sym (due_more now files i row false within is due ∙ append-nil (due_urls now (take i files)))

pub due_all : (now : ℕ) (files : List CachedFile) (i : ℕ) → length files ≤ i → due_urls now (take i files) ≡ due_urls now files
due_all now files i past = ap (due_urls now) (take_all i files past)

pub due_none : (now : ℕ) (urls : List (List ℕ)) → urls ≡ [] → urls ≡ due_urls now []
unfolding due_urls
due_none now urls none = none
