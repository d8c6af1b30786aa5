-- What a run and a chain make of the text before them.
use Rattle.std.proofs.Common.{◌≡◌, inl, inr, ltb, ltb-true, ltb-false, ℕ, zero, suc, ◌+◌, ◌<◌, ◌≤◌, List, [], ◌∷◌, ◌++◌, length, Option, Some, None, Result, Ok, Err, refl, sym, ap, ◌∙◌, arith, length-append, append_assoc, append-nil, le-ltb, lt-ltb}
use Rattle.mud_base.specs.Faults.{row_at, first_row, unless, unless_fault}
use Rattle.dns_snoop.specs.declared.fault.DnsFault.{DnsFault}
use Rattle.dns_snoop.specs.declared.fault.DnsFault.TheVariants as faults
use Rattle.dns_snoop.specs.declared.name.RunEnd.{RunEnd}
use Rattle.dns_snoop.specs.declared.name.RunEnd.TheVariants.{End, Pointer}
use Rattle.mud_url.specs.Host.{lowered}
use Rattle.mud_url.proofs.Bounds.{length-lowered}
use Rattle.dns_snoop.specs.declared.name.ReadName.{ReadName}
use Rattle.dns_snoop.specs.Names.{Label, Run, Chain, run_at, ended, with_label, broken, chained, chain_behind, first_beyond, text_of, behind_run, read_name_of}
use Rattle.dns_snoop.specs.Steps.{RunRead, run_answer, chain_answer, with_end}
use Rattle.std.proofs.lemmas.Bool.{cases_Bool}
use Rattle.dns_snoop.proofs.Parts.{chained_by, chain_at, name_rows, behind_first}

-- ---- Labels one after the other

pub text_of-append : (a b : List Label) → text_of (a ++ b) ≡ text_of a ++ text_of b
unfolding text_of
text_of-append [] b = refl
text_of-append (label ∷ a) b =
    ap (λ (t : List ℕ). (length label.text ∷ lowered label.text) ++ t) (text_of-append a b)
    ∙ sym (append_assoc (length label.text ∷ lowered label.text) (text_of a) (text_of b))

-- ---- A run

pub run_fails : (text : List ℕ) (fault : DnsFault) → run_answer text (ended (Err fault)) ≡ Err fault
unfolding run_answer first_beyond
run_fails text fault = refl

pub run_ends : (text : List ℕ) (end : RunEnd) → run_answer text (ended (Ok end)) ≡ Ok (record { text = text; end = end })
unfolding run_answer first_beyond text_of
run_ends text end = ap (λ (t : List ℕ). Ok (record { text = t; end = end })) (append-nil text)

with_end-more : (text : List ℕ) (label : Label) (labels : List Label) (end : Result RunEnd DnsFault)
    → with_end (text ++ text_of (label ∷ labels)) end ≡ with_end ((text ++ (length label.text ∷ lowered label.text)) ++ text_of labels) end
unfolding text_of
with_end-more text label labels (Err fault) = refl
with_end-more text label labels (Ok end) =
    ap (λ (t : List ℕ). Ok (record { text = t; end = end })) (sym (append_assoc text (length label.text ∷ lowered label.text) (text_of labels)))

pub run_goes_on : (text : List ℕ) (label : Label) (later : Run) → length text + 1 + length label.text ≤ 254
    → run_answer text (with_label label later) ≡ run_answer (text ++ (length label.text ∷ lowered label.text)) later
unfolding run_answer first_beyond
run_goes_on text label later fits =
    let size : length (text ++ (length label.text ∷ lowered label.text)) ≡ length text + (1 + length label.text) =
    length-append text (length label.text ∷ lowered label.text) ∙ ap (λ n. length text + suc n) (length-lowered label.text) ∙ omega arith in
    rw (le-ltb 255 (1 + length text + (1 + length label.text)) (omega arith), with_end-more text label later.labels later.end, size)
    (ap (λ n. unless (row_at faults.NameLong (first_beyond n later.labels) ∷ []) (with_end ((text ++ (length label.text ∷ lowered label.text)) ++ text_of later.labels) later.end)) (omega arith))

pub run_too_long : (text : List ℕ) (label : Label) (later : Run) → 254 < length text + 1 + length label.text
    → run_answer text (with_label label later) ≡ Err (faults.NameLong label.offset)
unfolding run_answer first_beyond
run_too_long text label later long = rw (lt-ltb 255 (1 + length text + (1 + length label.text)) (omega arith)) refl

-- ---- The ways out of a run

pub run_end_here : (text : List ℕ) (run : Run) (end : RunEnd) (answer : Result RunRead DnsFault) → run ≡ ended (Ok end) → run_answer text run ≡ answer → Ok (record { text = text; end = end }) ≡ answer
run_end_here text run end answer is same = sym (run_ends text end) ∙ ap (run_answer text) (sym is) ∙ same

pub run_fault_here : (text : List ℕ) (run : Run) (fault : DnsFault) (answer : Result RunRead DnsFault) → run ≡ ended (Err fault) → run_answer text run ≡ answer → Err fault ≡ answer
run_fault_here text run fault answer is same = sym (run_fails text fault) ∙ ap (run_answer text) (sym is) ∙ same

pub run_long_here : (text : List ℕ) (run : Run) (label : Label) (later : Run) (answer : Result RunRead DnsFault) → run ≡ with_label label later → 254 < length text + 1 + length label.text
    → run_answer text run ≡ answer → Err (faults.NameLong label.offset) ≡ answer
run_long_here text run label later answer is long same = sym (run_too_long text label later long) ∙ ap (run_answer text) (sym is) ∙ same

pub run_label_here : (text read : List ℕ) (run : Run) (label : Label) (later : Run) (answer : Result RunRead DnsFault) → run ≡ with_label label later → length text + 1 + length label.text ≤ 254
    → read ≡ text ++ (length label.text ∷ lowered label.text) → run_answer text run ≡ answer → run_answer read later ≡ answer
run_label_here text read run label later answer is fits added same =
    ap (λ (t : List ℕ). run_answer t later) added ∙ sym (run_goes_on text label later fits) ∙ ap (run_answer text) (sym is) ∙ same

pub length_added : (text read label : List ℕ) → read ≡ text ++ (length label ∷ lowered label) → length read ≡ length text + (1 + length label)
length_added text read label added = ap length added ∙ length-append text (length label ∷ lowered label) ∙ ap (λ n. length text + suc n) (length-lowered label) ∙ omega arith

-- ---- A chain

with_first : Label → Chain → Chain
with_first label chain = record { labels = label ∷ chain.labels; fault = chain.fault }

chain_goes_on : (text : List ℕ) (label : Label) (chain : Chain) → length text + 1 + length label.text ≤ 254
    → chain_answer text (with_first label chain) ≡ chain_answer (text ++ (length label.text ∷ lowered label.text)) chain
unfolding chain_answer first_beyond text_of with_first
chain_goes_on text label chain fits =
    let more = length label.text ∷ lowered label.text in
    let size : length (text ++ more) ≡ length text + (1 + length label.text) = length_added text (text ++ more) label.text refl in
    rw (le-ltb 255 (1 + length text + (1 + length label.text)) (omega arith), size, ← append_assoc text more (text_of chain.labels))
    (ap (λ n. unless (row_at faults.NameLong (first_beyond n chain.labels) ∷ chain.fault ∷ []) (Ok ((text ++ more) ++ text_of chain.labels))) (omega arith))

chain_too_long : (text : List ℕ) (label : Label) (chain : Chain) → 254 < length text + 1 + length label.text
    → chain_answer text (with_first label chain) ≡ Err (faults.NameLong label.offset)
unfolding chain_answer first_beyond with_first
chain_too_long text label chain long = rw (lt-ltb 255 (1 + length text + (1 + length label.text)) (omega arith)) refl

chain_fails : (text : List ℕ) (fault : DnsFault) → chain_answer text (broken fault) ≡ Err fault
unfolding chain_answer first_beyond
chain_fails text fault = refl

chain_ends : (text : List ℕ) (most run offset : ℕ) (message : List ℕ) → chain_answer text (chain_behind most message run (End offset)) ≡ Ok text
unfolding chain_answer first_beyond chain_behind text_of
chain_ends text zero run offset message = ap Ok (append-nil text)
chain_ends text (suc most) run offset message = ap Ok (append-nil text)

-- a run that was read, in front of what comes behind it
ok-at : (labels : List Label) (end : Result RunEnd DnsFault) (text : List ℕ) (behind : RunEnd → Chain) (read : RunRead) → Ok read ≡ run_answer text (record { labels = labels; end = end })
    → chain_answer text (chained_by labels end behind) ≡ chain_answer read.text (behind read.end)
unfolding with_first
ok-at [] (Err fault) text behind read is = let no : Ok read ≡ Err fault = is ∙ run_fails text fault in cc
ok-at [] (Ok end) text behind read is =
    let same : Ok read ≡ Ok (record { text = text; end = end }) = is ∙ run_ends text end in
    let same-read : read ≡ record { text = text; end = end } = cc in
    rw same-read refl
ok-at (label ∷ labels) (Err fault) text behind read is =
    elim (cases_Bool (ltb 254 (length text + 1 + length label.text))) [
      | inl e ↦ let no : Ok read ≡ Err (faults.NameLong label.offset) = is ∙ run_too_long text label (record { labels = labels; end = Err fault }) (ltb-true 254 (length text + 1 + length label.text) e) in cc
      | inr e ↦ let fits = ltb-false 254 (length text + 1 + length label.text) e in
          chain_goes_on text label (chained_by labels (Err fault) behind) fits
          ∙ ok-at labels (Err fault) (text ++ (length label.text ∷ lowered label.text)) behind read (is ∙ run_goes_on text label (record { labels = labels; end = Err fault }) fits)
    ]
ok-at (label ∷ labels) (Ok end) text behind read is =
    elim (cases_Bool (ltb 254 (length text + 1 + length label.text))) [
      | inl e ↦ let no : Ok read ≡ Err (faults.NameLong label.offset) = is ∙ run_too_long text label (record { labels = labels; end = Ok end }) (ltb-true 254 (length text + 1 + length label.text) e) in cc
      | inr e ↦ let fits = ltb-false 254 (length text + 1 + length label.text) e in
          chain_goes_on text label (chained_by labels (Ok end) behind) fits
          ∙ ok-at labels (Ok end) (text ++ (length label.text ∷ lowered label.text)) behind read (is ∙ run_goes_on text label (record { labels = labels; end = Ok end }) fits)
    ]

err_not_ok : {P : Type 0} (fault : DnsFault) (read : RunRead) → ◌≡◌ {A = Result RunRead DnsFault} (Err fault) (Ok read) → P
err_not_ok fault read never = cc

err_inj : (a b : DnsFault) → ◌≡◌ {A = Result RunRead DnsFault} (Err a) (Err b) → a ≡ b
err_inj a b same = cc

err-at : (labels : List Label) (end : Result RunEnd DnsFault) (text : List ℕ) (behind : RunEnd → Chain) (fault : DnsFault) → Err fault ≡ run_answer text (record { labels = labels; end = end })
    → chain_answer text (chained_by labels end behind) ≡ Err fault
unfolding with_first
err-at [] (Err other) text behind fault is = chain_fails text other ∙ ap Err (sym (err_inj fault other (is ∙ run_fails text other)))
err-at [] (Ok end) text behind fault is = err_not_ok fault (record { text = text; end = end }) (is ∙ run_ends text end)
err-at (label ∷ labels) (Err other) text behind fault is =
    elim (cases_Bool (ltb 254 (length text + 1 + length label.text))) [
      | inl e ↦ let long = ltb-true 254 (length text + 1 + length label.text) e in
          let same : Err fault ≡ Err (faults.NameLong label.offset) = is ∙ run_too_long text label (record { labels = labels; end = Err other }) long in
          let this : fault ≡ faults.NameLong label.offset = err_inj fault (faults.NameLong label.offset) same in
          chain_too_long text label (chained_by labels (Err other) behind) long ∙ ap Err (sym this)
      | inr e ↦ let fits = ltb-false 254 (length text + 1 + length label.text) e in
          chain_goes_on text label (chained_by labels (Err other) behind) fits
          ∙ err-at labels (Err other) (text ++ (length label.text ∷ lowered label.text)) behind fault (is ∙ run_goes_on text label (record { labels = labels; end = Err other }) fits)
    ]
err-at (label ∷ labels) (Ok end) text behind fault is =
    elim (cases_Bool (ltb 254 (length text + 1 + length label.text))) [
      | inl e ↦ let long = ltb-true 254 (length text + 1 + length label.text) e in
          let same : Err fault ≡ Err (faults.NameLong label.offset) = is ∙ run_too_long text label (record { labels = labels; end = Ok end }) long in
          let this : fault ≡ faults.NameLong label.offset = err_inj fault (faults.NameLong label.offset) same in
          chain_too_long text label (chained_by labels (Ok end) behind) long ∙ ap Err (sym this)
      | inr e ↦ let fits = ltb-false 254 (length text + 1 + length label.text) e in
          chain_goes_on text label (chained_by labels (Ok end) behind) fits
          ∙ err-at labels (Ok end) (text ++ (length label.text ∷ lowered label.text)) behind fault (is ∙ run_goes_on text label (record { labels = labels; end = Ok end }) fits)
    ]

pub chained_ok : (text : List ℕ) (run : Run) (behind : RunEnd → Chain) (read : RunRead) → Ok read ≡ run_answer text run → chain_answer text (chained run behind) ≡ chain_answer read.text (behind read.end)
chained_ok text run behind read is = ok-at run.labels run.end text behind read is

pub chained_err : (text : List ℕ) (run : Run) (behind : RunEnd → Chain) (fault : DnsFault) → Err fault ≡ run_answer text run → chain_answer text (chained run behind) ≡ Err fault
chained_err text run behind fault is = err-at run.labels run.end text behind fault is

-- ---- How many runs there are at most

chained-same : (labels : List Label) (end : Result RunEnd DnsFault) (f g : RunEnd → Chain) → ((next : RunEnd) → f next ≡ g next) → chained_by labels end f ≡ chained_by labels end g
chained-same labels (Err fault) f g same = refl
chained-same labels (Ok end) f g same = ap (λ (chain : Chain). record { labels = labels ++ chain.labels; fault = chain.fault }) (same end)

most-same : (most other : ℕ) (message : List ℕ) (start : ℕ) (end : RunEnd) → start ≤ most → start ≤ other → chain_behind most message start end ≡ chain_behind other message start end
unfolding chain_behind
most-same zero zero message start (End offset) a b = refl
most-same zero (suc other) message start (End offset) a b = refl
most-same (suc most) zero message start (End offset) a b = refl
most-same (suc most) (suc other) message start (End offset) a b = refl
most-same zero zero message start (Pointer at target) a b = refl
most-same zero (suc other) message start (Pointer at target) a b = rw (le-ltb target start (omega arith)) refl
most-same (suc most) zero message start (Pointer at target) a b = rw (le-ltb target start (omega arith)) refl
most-same (suc most) (suc other) message start (Pointer at target) a b =
    elim (cases_Bool (ltb target start)) [
      | inl e ↦ let below = ltb-true target start e in rw e (chained-same (run_at message target).labels (run_at message target).end (chain_behind most message target) (chain_behind other message target) (λ next. most-same most other message target next (omega arith) (omega arith)))
      | inr e ↦ rw e refl
    ]

pointer_beyond : (run at target : ℕ) (message : List ℕ) → run ≤ target → chain_behind run message run (Pointer at target) ≡ broken (faults.Pointer at)
unfolding chain_behind
pointer_beyond zero at target message beyond = refl
pointer_beyond (suc run) at target message beyond = rw (le-ltb target (suc run) beyond) refl

pub pointer_below : (run at target : ℕ) (message : List ℕ) → target < run → chain_behind run message run (Pointer at target) ≡ chained (run_at message target) (chain_behind target message target)
unfolding chain_behind
pointer_below zero at target message below = absurd (omega arith)
pointer_below (suc run) at target message below =
    rw (lt-ltb target (suc run) below) (chained-same (run_at message target).labels (run_at message target).end (chain_behind run message target) (chain_behind target message target) (λ next. most-same run target message target next (omega arith) (omega arith)))

-- ---- The ways out of a chain

pub chain_end_here : (text : List ℕ) (most run offset : ℕ) (message : List ℕ) (answer : Result (List ℕ) DnsFault) → chain_answer text (chain_behind most message run (End offset)) ≡ answer → Ok text ≡ answer
chain_end_here text most run offset message answer same = sym (chain_ends text most run offset message) ∙ same

pub chain_pointer_here : (text : List ℕ) (run at target : ℕ) (message : List ℕ) (answer : Result (List ℕ) DnsFault) → run ≤ target
    → chain_answer text (chain_behind run message run (Pointer at target)) ≡ answer → Err (faults.Pointer at) ≡ answer
chain_pointer_here text run at target message answer beyond same = sym (chain_fails text (faults.Pointer at)) ∙ ap (chain_answer text) (sym (pointer_beyond run at target message beyond)) ∙ same

pub chain_err_here : (text : List ℕ) (run at target : ℕ) (message : List ℕ) (fault : DnsFault) (answer : Result (List ℕ) DnsFault) → target < run
    → Err fault ≡ run_answer text (run_at message target) → chain_answer text (chain_behind run message run (Pointer at target)) ≡ answer → Err fault ≡ answer
chain_err_here text run at target message fault answer below is same =
    sym (chained_err text (run_at message target) (chain_behind target message target) fault is) ∙ ap (chain_answer text) (sym (pointer_below run at target message below)) ∙ same

pub chain_ok_here : (text : List ℕ) (run at target : ℕ) (message : List ℕ) (read : RunRead) (answer : Result (List ℕ) DnsFault) → target < run
    → Ok read ≡ run_answer text (run_at message target) → chain_answer text (chain_behind run message run (Pointer at target)) ≡ answer
    → chain_answer read.text (chain_behind target message target read.end) ≡ answer
chain_ok_here text run at target message read answer below is same =
    sym (chained_ok text (run_at message target) (chain_behind target message target) read is) ∙ ap (chain_answer text) (sym (pointer_below run at target message below)) ∙ same

-- ---- A name

run_end-at : (o : Option DnsFault) (text : List ℕ) (labels : List Label) (end : Result RunEnd DnsFault) (read : RunRead) → Ok read ≡ unless_fault o (with_end (text ++ text_of labels) end) → end ≡ Ok read.end
run_end-at (Some fault) text labels end read is = cc
run_end-at None text labels (Err fault) read is = cc
run_end-at None text labels (Ok end) read is = let same : read ≡ record { text = text ++ text_of labels; end = end } = cc in ap (λ (r : RunRead). Ok r.end) (sym same)

pub run_ended : (text : List ℕ) (run : Run) (read : RunRead) → Ok read ≡ run_answer text run → run.end ≡ Ok read.end
unfolding run_answer
run_ended text run read is = run_end-at (first_row (row_at faults.NameLong (first_beyond (1 + length text) run.labels) ∷ [])) text run.labels run.end read is

as_read : List ℕ → ℕ → ReadName
as_read text behind = record { text = text; behind = behind }

name_ok-at : (o : Option DnsFault) (text said : List ℕ) (behind : ℕ) → Ok text ≡ unless_fault o (Ok said) → Ok (as_read text behind) ≡ unless_fault o (Ok (as_read said behind))
name_ok-at (Some fault) text said behind is = cc
name_ok-at None text said behind is = let same : text ≡ said = cc in ap (λ (t : List ℕ). Ok (as_read t behind)) same

name_err-at : (o : Option DnsFault) (said : List ℕ) (behind : ℕ) (fault : DnsFault) → Err fault ≡ unless_fault o (Ok said) → Err fault ≡ unless_fault o (Ok (as_read said behind))
name_err-at (Some other) said behind fault is = let same : fault ≡ other = cc in ap Err same
name_err-at None said behind fault is = cc

name_ok : (message : List ℕ) (offset : ℕ) (text : List ℕ) → Ok text ≡ chain_answer [] (chain_at message offset) → Ok (as_read text (behind_first (run_at message offset).end)) ≡ read_name_of message offset
unfolding read_name_of chain_answer as_read
name_ok message offset text is = name_ok-at (first_row (name_rows (chain_at message offset))) text (text_of (chain_at message offset).labels) (behind_first (run_at message offset).end) is

name_err : (message : List ℕ) (offset : ℕ) (fault : DnsFault) → Err fault ≡ chain_answer [] (chain_at message offset) → Err fault ≡ read_name_of message offset
unfolding read_name_of chain_answer as_read
name_err message offset fault is = name_err-at (first_row (name_rows (chain_at message offset))) (text_of (chain_at message offset).labels) (behind_first (run_at message offset).end) fault is

pub name_first_fails : (message : List ℕ) (offset : ℕ) (fault : DnsFault) → Err fault ≡ run_answer [] (run_at message offset) → Err fault ≡ read_name_of message offset
name_first_fails message offset fault is = name_err message offset fault (sym (chained_err [] (run_at message offset) (chain_behind offset message offset) fault is))

pub name_later_fails : (message : List ℕ) (offset : ℕ) (first : RunRead) (fault : DnsFault) → Ok first ≡ run_answer [] (run_at message offset) → Err fault ≡ chain_answer first.text (chain_behind offset message offset first.end)
    → Err fault ≡ read_name_of message offset
name_later_fails message offset first fault is later = name_err message offset fault (later ∙ sym (chained_ok [] (run_at message offset) (chain_behind offset message offset) first is))

pub name_read : (message : List ℕ) (offset : ℕ) (first : RunRead) (text : List ℕ) (behind : ℕ) → Ok first ≡ run_answer [] (run_at message offset) → Ok text ≡ chain_answer first.text (chain_behind offset message offset first.end)
    → behind ≡ behind_run first.end → Ok (record { text = text; behind = behind }) ≡ read_name_of message offset
unfolding as_read
name_read message offset first text behind is later end =
    ap (λ (n : ℕ). Ok (as_read text n)) (end ∙ sym (ap behind_first (run_ended [] (run_at message offset) first is)))
    ∙ name_ok message offset text (later ∙ sym (chained_ok [] (run_at message offset) (chain_behind offset message offset) first is))
