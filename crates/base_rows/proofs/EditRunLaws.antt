-- Runs of edits: what they make of rows is one run of rows put in or taken away.
use Rattle.std.proofs.Common.{◌≡◌, ℕ, zero, suc, ◌+◌, ◌-◌, ◌≤◌, ◌<◌, Bool, true, false, cond, List, [], ◌∷◌, ◌++◌, length, map, take, drop, get_or, Some, Ok, Err, refl, sym, ap, subst, ◌∙◌, arith, append_assoc, append-nil, length-append, length-drop, length-take-le}
use Rattle.std.specs.Prelude.{nat_lt}
use Rattle.std.specs.List.{AllByRecursion, slice_get}
use Rattle.std.proofs.lemmas.Bool.{false≢true, lt-ltb}
use Rattle.std.proofs.lemmas.List.{drop_more, drop-drop, take-append-drop, drop-append-le, drop_all, take_at, drop_at}
use Rattle.base_rows.specs.Sortable.{index_in, set_row, without_row, SortKeysAbove, SortKeysBelow, SortKeysAscend}
use Rattle.base_rows.proofs.SortableLaws.{found_within, missed_within}
use Rattle.base_rows.proofs.RowLaws.{ascend-map}
use Rattle.base_rows.proofs.IndexLaws.{set_row-behind, set_row-before, without_row-behind, without_row-before}
use Rattle.base_rows.proofs.RunLaws.{AllBelongAt, above_run, put_front, taken_front, ascend-drop}
use Rattle.base_rows.specs.declared.edit.Edit.{Edit}
use Rattle.base_rows.specs.Edits.{edit_sort_key, edit_made, edited, AreFound}
use Rattle.base_rows.specs.Runs.{found_next, AreRun, AreMade}
use Rattle.base_rows.proofs.EditLaws.{ascend-edited, found_kept, last_split, below_last}

-- ---- Lists

all_drop : {X : Type 0} (P : X → Type 0) (n : ℕ) (xs : List X) → AllByRecursion P xs → AllByRecursion P (drop n xs)
all_drop P zero xs all = all
all_drop P (suc n) [] all = tt
all_drop P (suc n) (x ∷ xs) all = all_drop P n xs all.1

pub all_right : {X : Type 0} (P : X → Type 0) (xs ys : List X) → AllByRecursion P (xs ++ ys) → AllByRecursion P ys
all_right P [] ys all = all
all_right P (x ∷ xs) ys all = all_right P xs ys all.1

later : {X : Type 0} (m n : ℕ) (xs : List X) → m ≤ n → drop (n - m) (drop m xs) ≡ drop n xs
later m n xs le = let same : m + (n - m) ≡ n = omega arith in drop-drop (n - m) m xs ∙ ap (λ k. drop k xs) same

-- what stands at an index is the first of those from it on
pub first_is : {X : Type 0} (xs : List X) (n : ℕ) (x : X) → n < length xs → x ≡ get_or xs n x → drop n xs ≡ x ∷ drop (n + 1) xs
first_is xs n x lt is = drop_more xs n x lt ∙ ap (λ y. y ∷ drop (n + 1) xs) (sym is)

-- nothing stands behind the last
pub none_behind : {X : Type 0} (xs : List X) (first n : ℕ) → n + first ≡ length xs → take first xs ++ drop (first + n) xs ≡ take first xs
none_behind xs first n long = ap (λ ys. take first xs ++ ys) (drop_all (first + n) xs (omega arith)) ∙ append-nil (take first xs)

-- an empty list in front changes nothing
pub empty_out : {X : Type 0} (xs rest : List X) → nat_lt 0 (length xs) ≡ false → rest ≡ xs ++ rest
empty_out [] rest e = refl
empty_out (x ∷ xs) rest e = absurd (false≢true (sym e ∙ lt-ltb 0 (suc (length xs)) (omega arith)))

-- ---- One edit more in front of a run

pub run_last : {R : Type 0} (es : List (Edit R)) (n : ℕ) → n + 1 ≡ length es → AreRun (drop n es)
run_last [] n long = absurd (omega arith)
run_last (e ∷ []) zero long = (tt, tt)
run_last (e ∷ (f ∷ es)) zero long = absurd (omega arith)
run_last (e ∷ es) (suc n) long = run_last es n (omega arith)

module _ {R : Type 0} (sort_key : R → List ℕ) where
  above_left : (p : List ℕ) (xs ys : List R) → SortKeysAbove sort_key p (xs ++ ys) → SortKeysAbove sort_key p xs
  above_left p [] ys above = tt
  above_left p (x ∷ xs) ys above = (above.0, above_left p xs ys above.1)

  pub ascend_left : (xs ys : List R) → SortKeysAscend sort_key (xs ++ ys) → SortKeysAscend sort_key xs
  ascend_left [] ys up = tt
  ascend_left (x ∷ xs) ys up = (above_left (sort_key x) xs ys up.0, ascend_left xs ys up.1)

module _ {R : Type 0} (sort_key : R → List ℕ) where
  -- ---- Edits behind others

  pub edited-append : (xs ys : List (Edit R)) (rows : List R) → edited sort_key (xs ++ ys) rows ≡ edited sort_key xs (edited sort_key ys rows)
  unfolding edited
  edited-append [] ys rows = refl
  edited-append (x ∷ xs) ys rows = ap (edit_made sort_key x) (edited-append xs ys rows)

  -- ---- Edits leave the rows that stand behind or before all of their sort keys

  before_by : (e : Edit R) (xs ys : List R) → SortKeysAbove sort_key (sort_key e.row) ys → (b : Bool) → cond b (set_row sort_key e.row (xs ++ ys)) (without_row sort_key (sort_key e.row) (xs ++ ys)) ≡ cond b (set_row sort_key e.row xs) (without_row sort_key (sort_key e.row) xs) ++ ys
  before_by e xs ys above true = set_row-before sort_key e.row xs ys above
  before_by e xs ys above false = without_row-before sort_key (sort_key e.row) xs ys above

  behind_by : (e : Edit R) (xs ys : List R) → SortKeysBelow sort_key (sort_key e.row) xs → (b : Bool) → cond b (set_row sort_key e.row (xs ++ ys)) (without_row sort_key (sort_key e.row) (xs ++ ys)) ≡ xs ++ cond b (set_row sort_key e.row ys) (without_row sort_key (sort_key e.row) ys)
  behind_by e xs ys below true = set_row-behind sort_key e.row xs ys below
  behind_by e xs ys below false = without_row-behind sort_key (sort_key e.row) xs ys below

  pub edited_before : (es : List (Edit R)) (xs ys : List R) → AllByRecursion (λ e. SortKeysAbove sort_key (sort_key e.row) ys) es → edited sort_key es (xs ++ ys) ≡ edited sort_key es xs ++ ys
  unfolding edited edit_made
  edited_before [] xs ys above = refl
  edited_before (e ∷ es) xs ys above = ap (edit_made sort_key e) (edited_before es xs ys above.1) ∙ before_by e (edited sort_key es xs) ys above.0 e.comes

  pub edited_behind : (es : List (Edit R)) (xs ys : List R) → AllByRecursion (λ e. SortKeysBelow sort_key (sort_key e.row) xs) es → edited sort_key es (xs ++ ys) ≡ xs ++ edited sort_key es ys
  unfolding edited edit_made
  edited_behind [] xs ys below = refl
  edited_behind (e ∷ es) xs ys below = ap (edit_made sort_key e) (edited_behind es xs ys below.1) ∙ behind_by e xs (edited sort_key es ys) below.0 e.comes

  below_next : (es : List (Edit R)) (e : Edit R) (run : List (Edit R)) (rows : List R) → SortKeysAscend sort_key rows → SortKeysAscend (edit_sort_key sort_key) ((es ++ e ∷ []) ++ run) → AreFound sort_key (edited sort_key run rows) (es ++ e ∷ []) → AreFound sort_key (edit_made sort_key e (edited sort_key run rows)) es
  unfolding edit_sort_key
  below_next es e run rows up order found = found_kept sort_key es e (edited sort_key run rows) (ascend-edited sort_key run rows up) (below_last (edit_sort_key sort_key) es e (ascend_left (edit_sort_key sort_key) (es ++ e ∷ []) run order)) found

  -- those before keep their indices
  pub found_before : (es run : List (Edit R)) (rows : List R) → SortKeysAscend sort_key rows → SortKeysAscend (edit_sort_key sort_key) (es ++ run) → AreFound sort_key rows (es ++ run) → AreFound sort_key (edited sort_key run rows) es
  unfolding edited
  found_before es [] rows up order found = subst (AreFound sort_key rows) (append-nil es) found
  found_before es (e ∷ run) rows up order found =
      let one = sym (append_assoc es (e ∷ []) run) in
      let order' : SortKeysAscend (edit_sort_key sort_key) ((es ++ e ∷ []) ++ run) = subst (SortKeysAscend (edit_sort_key sort_key)) one order in
      below_next es e run rows up order' (found_before (es ++ e ∷ []) run rows up order' (subst (AreFound sort_key rows) one found))

  pub found_from : (es : List (Edit R)) (rows : List R) (start first : ℕ) → start ≤ first → AreFound sort_key rows (drop start es) → AreFound sort_key rows (drop first es)
  found_from es rows start first le found = subst (AreFound sort_key rows) (later start first es le) (all_drop (λ e. e.found ≡ index_in sort_key (sort_key e.row) rows) (first - start) (drop start es) found)

  -- ---- Rows that come

  made_put : (e : Edit R) (rows : List R) → e.comes ≡ true → edit_made sort_key e rows ≡ set_row sort_key e.row rows
  unfolding edit_made
  made_put e rows comes = ap (λ (b : Bool). cond b (set_row sort_key e.row rows) (without_row sort_key (sort_key e.row) rows)) comes

  abbrev AllPut : ℕ → List (Edit R) → Type 0
  AllPut i es = AllByRecursion (λ e. (e.comes ≡ true) × (e.found ≡ Err i)) es

  all_put : (e : Edit R) (es : List (Edit R)) (i : ℕ) → AreRun (e ∷ es) → e.comes ≡ true → e.found ≡ Err i → AllPut i (e ∷ es)
  all_put e [] i run comes found = ((comes, found), tt)
  all_put e (n ∷ ns) i run comes found = ((comes, found), all_put n ns i run.1 (run.0.comes ∙ comes) (run.0.found ∙ ap found_next found))

  abbrev rows_of : List (Edit R) → List R
  rows_of es = map (λ e. e.row) es

  put_made : (es : List (Edit R)) (rows : List R) (i : ℕ) → SortKeysAscend sort_key rows → SortKeysAscend sort_key (rows_of es) → AllPut i es → AreFound sort_key rows es → edited sort_key es rows ≡ take i rows ++ (rows_of es ++ drop i rows)
  unfolding edited
  put_made [] rows i up own put found = sym (take-append-drop i rows)
  put_made (e ∷ es) rows i up own put found =
      let at : index_in sort_key (sort_key e.row) rows ≡ Err i = sym found.0 ∙ put.0.1 in
      made_put e (edited sort_key es rows) put.0.0
      ∙ ap (set_row sort_key e.row) (put_made es rows i up own.1 put.1 found.1)
      ∙ put_front sort_key e.row rows (rows_of es ++ drop i rows) i at (above_run sort_key (sort_key e.row) (rows_of es) rows i up own.0 at)

  put_belong : (es : List (Edit R)) (rows : List R) (i : ℕ) → AllPut i es → AreFound sort_key rows es → AllBelongAt sort_key i rows (rows_of es)
  put_belong [] rows i put found = tt
  put_belong (e ∷ es) rows i put found = (sym found.0 ∙ put.0.1, put_belong es rows i put.1 found.1)

  -- the edits from an index on are one run of rows that come
  pub record IsPut (rows : List R) (run : List (Edit R)) (i : ℕ) : Type 0 where
    pub within : i ≤ length rows
    pub ascend : SortKeysAscend sort_key (rows_of run)
    pub belong : AllBelongAt sort_key i rows (rows_of run)
    pub made : take i rows ++ rows_of run ++ drop i rows ≡ edited sort_key run rows

  by_put : (rows : List R) (run tail : List (Edit R)) (e : Edit R) (i : ℕ) → SortKeysAscend sort_key rows → SortKeysAscend sort_key (rows_of run) → run ≡ e ∷ tail → AreRun run → AreFound sort_key rows run → e.comes ≡ true → e.found ≡ Err i → IsPut rows run i
  by_put rows run tail e i up own is one found comes at =
      let all : AllPut i run = subst (AllPut i) (sym is) (all_put e tail i (subst AreRun is one) comes at) in
      let here : AreFound sort_key rows (e ∷ tail) = subst (AreFound sort_key rows) is found in
      record {
        within = missed_within sort_key (sort_key e.row) rows i (sym here.0 ∙ at);
        ascend = own;
        belong = put_belong run rows i all found;
        made = append_assoc (take i rows) (rows_of run) (drop i rows) ∙ sym (put_made run rows i up own all found);
      }

  rows_ascend : (run : List (Edit R)) → SortKeysAscend (edit_sort_key sort_key) run → SortKeysAscend sort_key (rows_of run)
  unfolding edit_sort_key
  rows_ascend run up = ascend-map (edit_sort_key sort_key) sort_key (λ e. e.row) (λ x y. refl) run up

  pub put_run : (rows : List R) (es : List (Edit R)) (start first : ℕ) (e : Edit R) (i : ℕ) → SortKeysAscend sort_key rows → SortKeysAscend (edit_sort_key sort_key) es → start ≤ first → first < length es → e ≡ get_or es first e → AreRun (drop first es) → AreFound sort_key rows (drop start es) → e.comes ≡ true → e.found ≡ Err i → IsPut rows (drop first es) i
  put_run rows es start first e i up order le lt is one found comes at =
      by_put rows (drop first es) (drop (first + 1) es) e i up (rows_ascend (drop first es) (ascend-drop (edit_sort_key sort_key) first es order)) (first_is es first e lt is) one (found_from es rows start first le found) comes at

  -- ---- Rows that go

  made_taken : (e : Edit R) (rows : List R) → e.comes ≡ false → edit_made sort_key e rows ≡ without_row sort_key (sort_key e.row) rows
  unfolding edit_made
  made_taken e rows goes = ap (λ (b : Bool). cond b (set_row sort_key e.row rows) (without_row sort_key (sort_key e.row) rows)) goes

  abbrev AllTaken : ℕ → List (Edit R) → Type 0
  AllTaken i [] = Unit {0}
  AllTaken i (e ∷ es) = ((e.comes ≡ false) × (e.found ≡ Ok i)) × AllTaken (suc i) es

  all_taken : (e : Edit R) (es : List (Edit R)) (i : ℕ) → AreRun (e ∷ es) → e.comes ≡ false → e.found ≡ Ok i → AllTaken i (e ∷ es)
  all_taken e [] i run goes found = ((goes, found), tt)
  all_taken e (n ∷ ns) i run goes found = ((goes, found), all_taken n ns (suc i) run.1 (run.0.comes ∙ goes) (run.0.found ∙ ap found_next found))

  further : (i n : ℕ) (rows : List R) → drop n (drop (suc i) rows) ≡ drop (suc n) (drop i rows)
  further i n rows = let same : suc i + n ≡ i + suc n = omega arith in drop-drop n (suc i) rows ∙ ap (λ k. drop k rows) same ∙ sym (drop-drop (suc n) i rows)

  taken_made : (es : List (Edit R)) (rows : List R) (i : ℕ) → AllTaken i es → AreFound sort_key rows es → edited sort_key es rows ≡ take i rows ++ drop (length es) (drop i rows)
  unfolding edited
  taken_made [] rows i taken found = sym (take-append-drop i rows)
  taken_made (e ∷ es) rows i taken found =
      made_taken e (edited sort_key es rows) taken.0.0
      ∙ ap (without_row sort_key (sort_key e.row)) (taken_made es rows (suc i) taken.1 found.1)
      ∙ taken_front sort_key (sort_key e.row) rows (drop (length es) (drop (suc i) rows)) i (sym found.0 ∙ taken.0.1)
      ∙ ap (λ ys. take i rows ++ ys) (further i (length es) rows)

  taken_within : (es : List (Edit R)) (rows : List R) (i : ℕ) → i ≤ length rows → AllTaken i es → AreFound sort_key rows es → i + length es ≤ length rows
  taken_within [] rows i le taken found = omega (arith, le)
  taken_within (e ∷ es) rows i le taken found =
      let lt : i < length rows = found_within sort_key (sort_key e.row) rows i (sym found.0 ∙ taken.0.1) in
      omega (arith, taken_within es rows (suc i) (omega (arith, lt)) taken.1 found.1)

  -- the edits from an index on are one run of rows that go
  pub record IsTaken (rows : List R) (run : List (Edit R)) (i n : ℕ) : Type 0 where
    pub within : i + n ≤ length rows
    pub made : take i rows ++ drop (i + n) rows ≡ edited sort_key run rows

  by_taken : (rows : List R) (run tail : List (Edit R)) (e : Edit R) (i : ℕ) → run ≡ e ∷ tail → AreRun run → AreFound sort_key rows run → e.comes ≡ false → e.found ≡ Ok i → IsTaken rows run i (length run)
  by_taken rows run tail e i is one found goes at =
      let all : AllTaken i run = subst (AllTaken i) (sym is) (all_taken e tail i (subst AreRun is one) goes at) in
      let here : AreFound sort_key rows (e ∷ tail) = subst (AreFound sort_key rows) is found in
      let lt : i < length rows = found_within sort_key (sort_key e.row) rows i (sym here.0 ∙ at) in
      record {
        within = taken_within run rows i (omega (arith, lt)) all found;
        made = ap (λ ys. take i rows ++ ys) (sym (drop-drop (length run) i rows)) ∙ sym (taken_made run rows i all found);
      }

  pub taken_run : (rows : List R) (es : List (Edit R)) (start first : ℕ) (e : Edit R) (i n : ℕ) → start ≤ first → first < length es → e ≡ get_or es first e → AreRun (drop first es) → AreFound sort_key rows (drop start es) → e.comes ≡ false → e.found ≡ Ok i → n + first ≡ length es → IsTaken rows (drop first es) i n
  taken_run rows es start first e i n le lt is one found goes at count =
      let same : length (drop first es) ≡ n = length-drop first es ∙ omega arith in
      subst (IsTaken rows (drop first es) i) same
      (by_taken rows (drop first es) (drop (first + 1) es) e i (first_is es first e lt is) one (found_from es rows start first le found) goes at)

  -- ---- The last edit alone

  -- the last edit, and that the index of its sort key is found
  pub record IsLastAlone (rows : List R) (es rest : List (Edit R)) (e : Edit R) : Type 0 where
    pub split : es ≡ rest ++ e ∷ []
    pub long : length es ≡ length rest + 1
    pub found : e.found ≡ index_in sort_key (sort_key e.row) rows

  by_split : (rows : List R) (es rest : List (Edit R)) (e : Edit R) (start : ℕ) → es ≡ rest ++ e ∷ [] → length es ≡ length rest + 1 → start < length es → AreFound sort_key rows (drop start es) → IsLastAlone rows es rest e
  by_split rows es rest e start split long lt found = record {
    split = split;
    long = long;
    found =
        let here : drop start es ≡ drop start rest ++ e ∷ [] = ap (drop start) split ∙ drop-append-le start rest (e ∷ []) (omega arith) in
        (all_right (λ x. x.found ≡ index_in sort_key (sort_key x.row) rows) (drop start rest) (e ∷ []) (subst (AreFound sort_key rows) here found)).0;
  }

  pub last_alone : (rows : List R) (es rest : List (Edit R)) (e : Edit R) (start i : ℕ) → SortKeysAscend (edit_sort_key sort_key) es → i + 1 ≡ length es → slice_get es i ≡ Some e → rest ≡ without_row (edit_sort_key sort_key) (edit_sort_key sort_key e) es → start < length es → AreFound sort_key rows (drop start es) → IsLastAlone rows es rest e
  last_alone rows es rest e start i order long at left lt found =
      let split : es ≡ rest ++ e ∷ [] = last_split (edit_sort_key sort_key) es i e order long at ∙ ap (λ (ws : List (Edit R)). ws ++ e ∷ []) (sym left) in
      by_split rows es rest e start split (ap length split ∙ length-append rest (e ∷ [])) lt found

  -- ---- What is made of the edits

  pub made_of : (es left : List (Edit R)) (old new : List R) (n : ℕ) → left ≡ take n es → new ≡ edited sort_key (drop n es) old → AreMade sort_key es left old new
  made_of es left old new n is rows = record {
    made = drop n es;
    split = sym (take-append-drop n es) ∙ ap (λ ws. ws ++ drop n es) (sym is);
    rows = rows;
  }

  pub made_alone : (es left : List (Edit R)) (e : Edit R) (old new : List R) → es ≡ left ++ e ∷ [] → new ≡ edit_made sort_key e old → AreMade sort_key es left old new
  unfolding edited
  made_alone es left e old new split rows = record { made = e ∷ []; split = split; rows = rows }

  pub made_none : (es : List (Edit R)) (rows : List R) → AreMade sort_key es es rows rows
  unfolding edited
  made_none es rows = record { made = []; split = sym (append-nil es); rows = refl }

  -- first the last ones, then those before
  pub made_more : (es mid left : List (Edit R)) (old half new : List R) → AreMade sort_key es mid old half → AreMade sort_key mid left half new → AreMade sort_key es left old new
  made_more es mid left old half new first second = record {
    made = second.made ++ first.made;
    split = first.split ∙ ap (λ ws. ws ++ first.made) second.split ∙ append_assoc left second.made first.made;
    rows = second.rows ∙ ap (edited sort_key second.made) first.rows ∙ sym (edited-append second.made first.made old);
  }

  -- those that are left have the indices that their sort keys have now
  found_left_by : (es left made : List (Edit R)) (old new : List R) (start : ℕ) → SortKeysAscend sort_key old → SortKeysAscend (edit_sort_key sort_key) es → es ≡ left ++ made → new ≡ edited sort_key made old → start ≤ length left → AreFound sort_key old (drop start es) → AreFound sort_key new (drop start left)
  found_left_by es left made old new start up order split rows le found =
      let here : drop start es ≡ drop start left ++ made = ap (drop start) split ∙ drop-append-le start left made le in
      subst (λ (ws : List R). AreFound sort_key ws (drop start left)) (sym rows)
      (found_before (drop start left) made old up (subst (SortKeysAscend (edit_sort_key sort_key)) here (ascend-drop (edit_sort_key sort_key) start es order)) (subst (AreFound sort_key old) here found))

  pub found_left : (es left : List (Edit R)) (old new : List R) (start : ℕ) → SortKeysAscend sort_key old → SortKeysAscend (edit_sort_key sort_key) es → AreMade sort_key es left old new → start ≤ length left → AreFound sort_key old (drop start es) → AreFound sort_key new (drop start left)
  found_left es left old new start up order made le found = found_left_by es left made.made old new start up order made.split made.rows le found

  -- once as many are left as stand before an index, the others are made
  pub record AllMade (es rest : List (Edit R)) (old new : List R) (start : ℕ) : Type 0 where
    pub rows : new ≡ edited sort_key (drop start es) old
    pub left : rest ≡ take start es

  pub all_made : (es left : List (Edit R)) (old new : List R) (start : ℕ) → AreMade sort_key es left old new → length left ≡ start → AllMade es left old new start
  all_made es left old new start made long = record {
    rows = made.rows ∙ ap (λ ws. edited sort_key ws old) (sym (ap (drop start) made.split ∙ drop_at left made.made start long));
    left = sym (ap (take start) made.split ∙ take_at left made.made start long);
  }

  -- ---- After a run

  -- what is said of the edits that are left once those from an index on are made
  pub record RunLeft (es rest : List (Edit R)) (old new : List R) (start : ℕ) : Type 0 where
    pub made : AreMade sort_key es rest old new
    pub found : AreFound sort_key new (drop start rest)

  pub run_left : (es rest : List (Edit R)) (old new : List R) (start first : ℕ) → SortKeysAscend sort_key old → SortKeysAscend (edit_sort_key sort_key) es → start ≤ first → first ≤ length es → rest ≡ take first es → new ≡ edited sort_key (drop first es) old → AreFound sort_key old (drop start es) → RunLeft es rest old new start
  run_left es rest old new start first up order le within is rows found =
      let made : AreMade sort_key es rest old new = made_of es rest old new first is rows in
      let long : length rest ≡ first = ap length is ∙ length-take-le first es within in
      record { made = made; found = found_left es rest old new start up order made (omega arith) found }

  pub alone_left : (es rest : List (Edit R)) (e : Edit R) (old new : List R) (start : ℕ) → SortKeysAscend sort_key old → SortKeysAscend (edit_sort_key sort_key) es → start < length es → IsLastAlone old es rest e → new ≡ edit_made sort_key e old → AreFound sort_key old (drop start es) → RunLeft es rest old new start
  alone_left es rest e old new start up order lt last rows found =
      let made : AreMade sort_key es rest old new = made_alone es rest e old new last.split rows in
      record { made = made; found = found_left es rest old new start up order made (omega (arith, lt, last.long)) found }

  -- ---- By the list that was lent

  pub put_lent : (rows : List R) (all es : List (Edit R)) (start first : ℕ) (e : Edit R) (i : ℕ) → all ≡ es → SortKeysAscend sort_key rows → SortKeysAscend (edit_sort_key sort_key) es → start ≤ first → first < length all → e ≡ get_or all first e → AreRun (drop first all) → AreFound sort_key rows (drop start es) → e.comes ≡ true → e.found ≡ Err i → IsPut rows (drop first es) i
  put_lent rows all es start first e i is up order le lt read one found comes at =
      put_run rows es start first e i up order le (subst (λ xs. first < length xs) is lt) (subst (λ xs. e ≡ get_or xs first e) is read) (subst (λ xs. AreRun (drop first xs)) is one) found comes at

  pub taken_lent : (rows : List R) (all es : List (Edit R)) (start first : ℕ) (e : Edit R) (i : ℕ) → all ≡ es → start ≤ first → first < length all → e ≡ get_or all first e → AreRun (drop first all) → AreFound sort_key rows (drop start es) → e.comes ≡ false → e.found ≡ Ok i → IsTaken rows (drop first es) i (length all - first)
  taken_lent rows all es start first e i is le lt read one found goes at =
      let same : length all ≡ length es = ap length is in
      taken_run rows es start first e i (length all - first) le (subst (λ xs. first < length xs) is lt) (subst (λ xs. e ≡ get_or xs first e) is read) (subst (λ xs. AreRun (drop first xs)) is one) found goes at (omega (arith, lt, same))
