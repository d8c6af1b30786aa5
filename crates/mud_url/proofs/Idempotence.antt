-- A canonical text is read as itself.
use Rattle.std.proofs.Common.{◌≡◌, ℕ, ◌+◌, ◌<◌, ◌≤◌, Bool, true, false, not, cond, eqb, ◌||◌, ◌⊎◌, inl, inr, ⊎_elim, List, [], ◌∷◌, ◌++◌, length, take, Option, Some, None, Ok, refl, sym, ap, ◌∙◌, arith}
use Rattle.std.specs.List.{list_any, before_first, after_first}
use Rattle.std.specs.Char.{is_ascii_graphic}
use Rattle.std.proofs.lemmas.Bool.{or_left, or_right, or_from, and_from, ltb-false, le-ltb, eq-eqb, ne_eqb, not-false, cases_lt}
use Rattle.std.proofs.lemmas.List.{take_at, append-nil, length-append, length-drop}
use Rattle.std.proofs.lemmas.List.Folds.{list_any-append}
use Rattle.std.proofs.lemmas.Slice.Eq.{bytes_eq-Decides}
use Rattle.mud_base.specs.Faults.{row, row_at, first_row}
use Rattle.mud_url.specs.declared.fault.UrlFault.{UrlFault}
use Rattle.mud_url.specs.declared.fault.UrlFault.TheVariants.{Empty, Octet, Scheme, Host, Port, Path, UserInfo, Fragment, Long}
use Rattle.mud_url.specs.Host.{lowered, is_label_octet, is_host}
use Rattle.mud_url.specs.Url.{scheme, begins_with_scheme, is_colon, is_slash_or_question, authority, path_and_query, host_part, port_part, is_port, path_fault, canonical_path, canonical, faults, url_of, is_question_mark, before_query, reads_as, is_canonical}
use Rattle.mud_url.proofs.Bounds.{length-scheme, length-lowered, parts_fit}
use Rattle.mud_url.proofs.Cuts.{begins, after_first-append, after_first-none, position-none, before_first-append}
use Rattle.mud_url.proofs.Octets.{is_host_octet, is_url_octet, host_has_none, path_has_none}
use Rattle.mud_url.proofs.Written.{written, AreParts, authority-written, path_and_query-written, host_part-written, canonical_port_cases, canonical_port_has_none, parts_of, begins-canonical_path}
use Rattle.mud_url.proofs.HostNames.{lowered-lowered, is_host-lowered, host_stands, port_stands}
use Rattle.mud_url.proofs.Paths.{path_fault_from, path_stands, path_fault-canonical_path, canonical_path-canonical_path}
use Rattle.mud_url.proofs.Pieces.{without_slash, path_part, canonical_port, gave}

pub url_of_no_fault : (url : List ℕ) → first_row (faults url) ≡ None → url_of url ≡ Ok (canonical url)
unfolding url_of
url_of_no_fault url e = rw e

-- parts in which there is no fault
pub record AreSound (host port path : List ℕ) : Type 0 where
  pub host_is : is_host host ≡ true
  pub host_is_low : lowered host ≡ host
  pub port_is : is_port port ≡ true
  pub path_is : path_fault 0 path ≡ None
  pub path_begins : begins is_slash_or_question path ≡ true

-- each row of a table is off
abbrev AllOff : List (Option UrlFault) → Type 0
AllOff [] = Unit {0}
AllOff (o ∷ rows) = (o ≡ None) × AllOff rows

all_off : (rows : List (Option UrlFault)) → first_row rows ≡ None → AllOff rows
all_off [] e = tt
all_off (None ∷ rows) e = (refl, all_off rows e)
all_off (Some fault ∷ rows) e = cc

from_all_off : (rows : List (Option UrlFault)) → AllOff rows → first_row rows ≡ None
from_all_off [] off = refl
from_all_off (None ∷ rows) off = from_all_off rows off.1
from_all_off (Some fault ∷ rows) off = let first = off.0 in cc

test_is_off : (t : Bool) (fault : UrlFault) → row t fault ≡ None → t ≡ false
test_is_off true fault e = cc
test_is_off false fault e = refl

offset_is_off : (fault : ℕ → UrlFault) (o : Option ℕ) → row_at fault o ≡ None → o ≡ None
offset_is_off fault None e = refl
offset_is_off fault (Some at) e = cc

-- what a URL without a fault has
pub sound_parts : (url : List ℕ) → first_row (faults url) ≡ None → (length url ≤ 255) × AreSound (lowered (host_part url)) (port_part url) (path_and_query url)
sound_parts url none =
    let off = all_off (faults url) none in (
      ltb-false 255 (length url) (test_is_off _ Long off.1.0),
      record {
        host_is = is_host-lowered (host_part url) ∙ not-false _ (test_is_off _ Host off.1.1.1.1.1.1.0);
        host_is_low = lowered-lowered (host_part url);
        port_is = not-false _ (test_is_off _ Port off.1.1.1.1.1.1.1.0);
        path_is = path_fault_from _ 0 (path_and_query url) (offset_is_off Path _ off.1.1.1.1.1.1.1.1.0);
        path_begins = (parts_of url).path_begins;
      },
    )

told_apart : (host port path : List ℕ) → AreSound host port path → AreParts host port path
unfolding is_host_octet is_label_octet
told_apart host port path sound = record {
  host_has_no_colon = host_has_none is_colon refl host (host_stands host sound.host_is);
  host_is_authority = host_has_none is_slash_or_question refl host (host_stands host sound.host_is);
  port_is_authority = host_has_none is_slash_or_question refl port (port_stands port sound.port_is);
  path_begins = sound.path_begins;
}

no_port : is_port [] ≡ true
unfolding is_port
no_port = refl

no_port_written : canonical_port [] ≡ []
no_port_written = refl

-- the port that is read from what was written is good, and is written as before
port-written : (host port path : List ℕ) → AreSound host port path → (is_port (port_part (written host port path)) ≡ true) × (canonical_port (port_part (written host port path)) ≡ canonical_port port)
unfolding port_part
port-written host port path sound =
    let parts = told_apart host port path sound in
    let read = ap (after_first is_colon) (authority-written host port path parts) in
    ⊎_elim
    (λ none. let is_none : port_part (written host port path) ≡ [] = read ∙ ap (λ text. after_first is_colon (host ++ text)) none ∙ ap (after_first is_colon) (append-nil host) ∙ after_first-none is_colon host parts.host_has_no_colon in
    (ap is_port is_none ∙ no_port, ap canonical_port is_none ∙ no_port_written ∙ sym none))
    (λ some. let is_same : port_part (written host port path) ≡ port = read ∙ ap (λ text. after_first is_colon (host ++ text)) some ∙ after_first-append is_colon host 58 port parts.host_has_no_colon refl in
    (ap is_port is_same ∙ sound.port_is, ap canonical_port is_same))
    (canonical_port_cases port)

written_has_none : (q : ℕ → Bool) (host port path : List ℕ) → list_any q scheme ≡ false → list_any q host ≡ false → list_any q (canonical_port port) ≡ false → list_any q path ≡ false → list_any q (written host port path) ≡ false
unfolding written
written_has_none q host port path s h p r =
    rw (list_any-append q (scheme ++ host ++ canonical_port port) path, list_any-append q (scheme ++ host) (canonical_port port), list_any-append q scheme host)
    (or_from _ _ (or_from _ _ (or_from _ _ s h) p) r)

written_is_some : (host port path : List ℕ) → eqb (length (written host port path)) 0 ≡ false
unfolding written scheme
written_is_some host port path = ne_eqb (length (written host port path)) 0 (λ e. omega (arith, e))

written_has_scheme : (host port path : List ℕ) → begins_with_scheme (written host port path) ≡ true
unfolding written begins_with_scheme scheme lowered
written_has_scheme host port path = refl

written_is_graphic : (host port path : List ℕ) → AreSound host port path → list_any (λ c. not (is_ascii_graphic c)) (written host port path) ≡ false
unfolding scheme is_host_octet is_label_octet is_url_octet
written_is_graphic host port path sound =
    let q : ℕ → Bool = λ c. not (is_ascii_graphic c) in
    written_has_none q host port path refl
    (host_has_none q refl host (host_stands host sound.host_is))
    (canonical_port_has_none q refl port (host_has_none q refl port (port_stands port sound.port_is)))
    (path_has_none q refl path (path_stands 0 path sound.path_is))

written_has_no_fragment : (host port path : List ℕ) → AreSound host port path → list_any (λ c. eqb c 35) (written host port path) ≡ false
unfolding scheme is_host_octet is_label_octet is_url_octet
written_has_no_fragment host port path sound =
    let q : ℕ → Bool = λ c. eqb c 35 in
    written_has_none q host port path refl
    (host_has_none q refl host (host_stands host sound.host_is))
    (canonical_port_has_none q refl port (host_has_none q refl port (port_stands port sound.port_is)))
    (path_has_none q refl path (path_stands 0 path sound.path_is))

written_has_no_user : (host port path : List ℕ) → AreSound host port path → list_any (λ c. eqb c 64) (authority (written host port path)) ≡ false
unfolding is_host_octet is_label_octet
written_has_no_user host port path sound =
    let q : ℕ → Bool = λ c. eqb c 64 in
    ap (list_any q) (authority-written host port path (told_apart host port path sound))
    ∙ list_any-append q host (canonical_port port)
    ∙ or_from _ _ (host_has_none q refl host (host_stands host sound.host_is)) (canonical_port_has_none q refl port (host_has_none q refl port (port_stands port sound.port_is)))

written_is : (host port path : List ℕ) → scheme ++ host ++ canonical_port port ++ path ≡ written host port path
unfolding written
written_is host port path = refl

canonical-written : (host port path : List ℕ) → AreSound host port path → canonical (written host port path) ≡ written host port (canonical_path path)
unfolding canonical
canonical-written host port path sound =
    let parts = told_apart host port path sound in
    rw (host_part-written host port path parts, sound.host_is_low, (port-written host port path sound).1, path_and_query-written host port path parts) (written_is host port (canonical_path path))

-- what is written of sound parts is a URL
pub url_of-written : (host port path : List ℕ) → AreSound host port path → length (written host port path) ≤ 255 → url_of (written host port path) ≡ Ok (written host port (canonical_path path))
url_of-written host port path sound short =
    let parts = told_apart host port path sound in
    let url = written host port path in
    url_of_no_fault url (from_all_off (faults url) (
      ap (λ t. row t Empty) (written_is_some host port path),
      (
        ap (λ t. row t Long) (le-ltb 255 (length url) short),
        (
          ap (row_at Octet) (position-none (λ c. not (is_ascii_graphic c)) url (written_is_graphic host port path sound)),
          (
            ap (λ t. row (not t) Scheme) (written_has_scheme host port path),
            (
              ap (λ t. row t Fragment) (written_has_no_fragment host port path sound),
              (
                ap (λ t. row t UserInfo) (written_has_no_user host port path sound),
                (
                  ap (λ t. row (not t) Host) (ap is_host (host_part-written host port path parts) ∙ sound.host_is),
                  (
                    ap (λ t. row (not t) Port) (port-written host port path sound).0,
                    (
                      ap (row_at Path) (ap (path_fault (8 + length (authority url))) (path_and_query-written host port path parts) ∙ path_fault_from 0 (8 + length (authority url)) path sound.path_is),
                      tt,
                    ),
                  ),
                ),
              ),
            ),
          ),
        ),
      ),
    ))
    ∙ ap (λ text. Ok text) (canonical-written host port path sound)

canonical_path_cases : (path : List ℕ) → begins is_slash_or_question path ≡ true → (canonical_path path ≡ path) ⊎ ((canonical_path path ≡ 47 ∷ path) × (begins is_question_mark path ≡ true))
unfolding canonical_path begins
canonical_path_cases [] e = inr (refl, refl)
canonical_path_cases (c ∷ more) e = by (eqb c 47) refl e
  where
    by : (t : Bool) → eqb c 47 ≡ t → (t || eqb c 63) ≡ true → (cond t (c ∷ more) (47 ∷ c ∷ more) ≡ c ∷ more) ⊎ ((cond t (c ∷ more) (47 ∷ c ∷ more) ≡ 47 ∷ c ∷ more) × (eqb c 63 ≡ true))
    by true e h = inl refl
    by false e h = inr (refl, h)

length-written : (host port path : List ℕ) → length (written host port path) ≡ 8 + length host + length (canonical_port port) + length path
unfolding written
length-written host port path = omega (arith, length-append {A = ℕ}, length-scheme)

front-written : (host port path rest : List ℕ) → take (8 + length (host ++ canonical_port port)) (written host port path) ++ rest ≡ written host port rest
unfolding written
front-written host port path rest =
    ap (λ front. front ++ rest) (take_at (scheme ++ host ++ canonical_port port) path (8 + length (host ++ canonical_port port)) (omega (arith, length-append {A = ℕ}, length-scheme)))

-- the text without its path `/`
without_slash-written : (host port path : List ℕ) → AreParts host port (47 ∷ path) → without_slash (written host port (47 ∷ path)) ≡ written host port path
without_slash-written host port path parts =
    rw (authority-written host port (47 ∷ path) parts, path_and_query-written host port (47 ∷ path) parts) (front-written host port (47 ∷ path) path)

path_part-written : (host port path : List ℕ) → AreParts host port (47 ∷ path) → begins is_question_mark path ≡ true → path_part (written host port (47 ∷ path)) ≡ 47 ∷ []
unfolding before_query
path_part-written host port path parts query =
    ap (before_first is_question_mark) (path_and_query-written host port (47 ∷ path) parts) ∙ before_first-append is_question_mark (47 ∷ []) path refl query

reads_as_given : (url text : List ℕ) → url_of url ≡ Ok text → reads_as url text ≡ true
unfolding reads_as
reads_as_given url text e = ap (λ read. gave read text) e ∙ (bytes_eq-Decides text text).1 refl

canonical_by_itself : (text : List ℕ) → url_of text ≡ Ok text → is_canonical text ≡ true
unfolding is_canonical
canonical_by_itself text e = or_left _ _ (reads_as_given text text e)

canonical_by_slash : (text : List ℕ) → length text ≡ 256 → path_part text ≡ 47 ∷ [] → url_of (without_slash text) ≡ Ok text → is_canonical text ≡ true
unfolding is_canonical
canonical_by_slash text long slash e =
    or_right (reads_as text text) _
    (and_from _ _ (and_from _ _ (eq-eqb (length text) 256 long) ((bytes_eq-Decides (path_part text) (47 ∷ [])).1 slash)) (reads_as_given (without_slash text) text e))

canonical_with_slash : (host port path : List ℕ) → AreParts host port (47 ∷ path) → begins is_question_mark path ≡ true → 255 < length (written host port (47 ∷ path)) → length (written host port path) ≤ 255 → url_of (written host port path) ≡ Ok (written host port (47 ∷ path)) → is_canonical (written host port (47 ∷ path)) ≡ true
canonical_with_slash host port path parts query long short e =
    canonical_by_slash (written host port (47 ∷ path)) (omega (arith, length-written host port path, length-written host port (47 ∷ path))) (path_part-written host port path parts query) (ap url_of (without_slash-written host port path parts) ∙ e)

is_canonical-written : (host port path : List ℕ) → AreSound host port path → length (written host port path) ≤ 255 → is_canonical (written host port (canonical_path path)) ≡ true
is_canonical-written host port path sound short =
    let text = written host port (canonical_path path) in
    let sound' : AreSound host port (canonical_path path) = record {
      host_is = sound.host_is;
      host_is_low = sound.host_is_low;
      port_is = sound.port_is;
      path_is = path_fault-canonical_path 0 path sound.path_is;
      path_begins = begins-canonical_path path;
    } in
    let by_itself : length text ≤ 255 → is_canonical text ≡ true = λ fits. canonical_by_itself text (url_of-written host port (canonical_path path) sound' fits ∙ ap (λ p. Ok (written host port p)) (canonical_path-canonical_path path)) in
    ⊎_elim
    (λ same. by_itself (rw same short))
    (λ slash. ⊎_elim
    (λ long. let parts = told_apart host port (canonical_path path) sound' in
    rw slash.0 (canonical_with_slash host port path (rw slash.0 at parts) slash.1 (rw slash.0 at long) short (url_of-written host port path sound short ∙ ap (λ p. Ok (written host port p)) slash.0)))
    (λ fits. by_itself fits)
    (cases_lt 255 (length text)))
    (canonical_path_cases path sound.path_begins)

-- the canonical text of a URL is canonical
pub is_canonical-canonical : (url : List ℕ) → first_row (faults url) ≡ None → is_canonical (canonical url) ≡ true
unfolding canonical written
is_canonical-canonical url none = let sound = sound_parts url none in is_canonical-written _ _ _ sound.1 (omega (arith, sound.0, length-written (lowered (host_part url)) (port_part url) (path_and_query url), length-lowered (host_part url), parts_fit url, length-drop 8 url))
