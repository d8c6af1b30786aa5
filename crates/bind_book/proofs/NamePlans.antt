-- A plan that changes names is that of the step.
use Rattle.std.proofs.Common.{◌≡◌, ℕ, ◌+◌, ◌≤◌, ◌<◌, ◌^◌, Bool, true, false, cond, not, List, [], ◌∷◌, ◌++◌, map, length, Option, Some, None, Ok, Err, refl, sym, ap, subst, ◌∙◌, append_assoc, arith, ◌⊎◌, inl, inr}
use Rattle.std.specs.Prelude.{IsOkAnd, MatchOption, All, nat_le, nat_lt, option_map}
use Rattle.std.specs.List.{AllByRecursion}
use Rattle.std.proofs.lemmas.List.{append_cancel_left}
use Rattle.std.proofs.lemmas.List.Elements.{All-from_recursion}
use Rattle.std.proofs.lemmas.Option.{none-some}
use Rattle.mud_base.specs.declared.addr.Addr.{Addr}
use Rattle.base_rows.specs.Sortable.{SortKeysAscend, row_at}
use Rattle.base_rows.specs.Changes.{RowChange, changed, is_plain}
use Rattle.mud_world.specs.declared.item.Item.{Item}
use Rattle.mud_world.specs.declared.item.Put.{Put}
use Rattle.mud_world.specs.declared.item.Put.TheVariants.{Set, Gone}
use Rattle.mud_world.specs.Items.{sort_key_of, sort_key_of_put, put_one, put_all, item_after, kind_of_put, IsDifference, set_put, gone_put, puts_of}
use Rattle.mud_world.proofs.ItemLaws.{same_put, puts_of_kind, puts_apart, row_at-items, ordered-items}
use Rattle.item_codec.specs.declared.word.Word.TheVariants.{Same}
use Rattle.acl_model.specs.Changes.{IsBindingChange}
use Rattle.table_model.specs.declared.bind.NameRow.{NameRow}
use Rattle.table_model.specs.declared.bind_fault.BindFault.{BindFault}
use Rattle.table_model.specs.Limits.{most}
use Rattle.table_model.specs.Fits.{FitsName}
use Rattle.table_model.specs.Expiries.{is_live, expiry_of, with_expiry, live_rows}
use Rattle.table_model.specs.Binds.{Binds, name_of, name_at, name_row, has_live_row, is_name, IsKeptName, IsSoundNames, IsSoundBinds}
use Rattle.table_model.specs.BindCommands.{NamesAfter, NameStep, is_change, addrs_of, least_dead, observe_step}
use Rattle.table_model.specs.BindRowChanges.{no_rows, one_row, replacing_change, new_pair_change, kept_pair_change, observe_cases_change, observe_row_change, observe_change}
use Rattle.table_model.specs.BindItems.{locals_items, name_item}
use Rattle.table_model.specs.ItemFields.{IsAddr}
use Rattle.table_model.specs.TakenItems.{bind_items}
use Rattle.table_model.specs.Tables.{Tables, binds_of, with_binds}
use Rattle.table_model.specs.Bindings.{name_bindings, bindings_of}
use Rattle.table_model.specs.BindingChanges.{gone_of, come_of}
use Rattle.table_laws.proofs.BookChanges.{name_book_change}
use Rattle.table_laws.proofs.SoundRows.{found_there}
use Rattle.table_laws.proofs.BindRows.{Makes, observe_makes}
use Rattle.table_laws.proofs.BindChanges.{TellsNames, sooner, observe_tells}
use Rattle.table_laws.proofs.SoundNames.{OfNames, sound-observe_step}
use Rattle.table_laws.proofs.BindLaws.{names_told}
use Rattle.bind_book.specs.declared.names.Observed.{Observed}
use Rattle.bind_book.specs.Book.{Book, IsRefusal}
use Rattle.bind_book.specs.Observations.{IsSeen}
use Rattle.bind_book.specs.Plans.{Plan, IsPlanned, changed_binds, HasRoomFor, same_plan, name_plan}
use Rattle.bind_book.proofs.BookItems.{one_difference, binds_told, name_of_kind, among_names, names_reach}
use Rattle.bind_book.proofs.Plans.{empty_as_told, bind_puts, same_planned, good_sets}
use Rattle.table_model.proofs.Parts.{class_items, name_items, with_names}

-- ---- The bindings

bindings_change : (tables : Tables) (binds : Binds) → binds_of tables ≡ binds → (change : RowChange NameRow) → IsSoundNames binds.names → IsSoundNames (changed name_of change binds.names) → is_plain name_of change ≡ true
    → IsBindingChange (bindings_of tables) (bindings_of (with_binds (record binds { names = changed name_of change binds.names }) tables)) (gone_of name_of name_bindings change binds.names) (come_of name_of name_bindings change binds.names)
unfolding binds_of with_binds
bindings_change tables binds e change =
    let Here : Binds → Type 0 = λ b. IsSoundNames b.names → IsSoundNames (changed name_of change b.names) → is_plain name_of change ≡ true
    → IsBindingChange (bindings_of tables) (bindings_of (with_binds (record b { names = changed name_of change b.names }) tables)) (gone_of name_of name_bindings change b.names) (come_of name_of name_bindings change b.names) in
    subst Here e (λ sound new plain. name_book_change tables change sound new plain)

-- ---- The puts

-- the change means one put
abbrev HasOnePut : RowChange NameRow → Type 0
HasOnePut change = (put : Put) × (puts_of 5 name_item change ≡ put ∷ [])

-- a name goes that is there, and one comes that isn't
pub record IsReplacing (change : RowChange NameRow) (names : List NameRow) : Type 0 where
  pub dead : NameRow
  pub new : NameRow
  pub puts : puts_of 5 name_item change ≡ Gone 5 (name_of dead) ∷ Set (name_item new) ∷ []
  pub there : row_at name_of (name_of dead) names ≡ Some dead
  pub free : row_at name_of (name_of new) names ≡ None

abbrev IsSmall : RowChange NameRow → List NameRow → Type 0
IsSmall change names = HasOnePut change ⊎ IsReplacing change names

abbrev Differs : RowChange NameRow → List NameRow → Type 0
Differs change names = changed name_of change names ≡ names → ⊥

row_put : (row : NameRow) → HasOnePut (one_row row)
unfolding puts_of set_put
row_put row = (Set (name_item row), refl)

module _ (name : List ℕ) (a : Addr) (until now : ℕ) (names : List NameRow) (ascend : SortKeysAscend name_of names) where
  nothing : Differs no_rows names → IsSmall no_rows names
  unfolding changed
  nothing differs = absurd (differs refl)

  replacing_small : name_at name names ≡ None → (o : Option NameRow) → least_dead now names ≡ o → Differs (replacing_change name a until o) names → IsSmall (replacing_change name a until o) names
  unfolding replacing_change puts_of set_put gone_put least_dead name_at name_of name_row
  replacing_small unknown None is differs = nothing differs
  replacing_small unknown (Some dead) is differs = inr (record {
    dead = dead;
    new = name_row name ((a, until) ∷ []);
    puts = refl;
    there = found_there name_of (λ row. not (has_live_row now row)) names dead ascend is;
    free = unknown;
  })

  by_room : name_at name names ≡ None → (b : Bool) → Differs (cond b (replacing_change name a until (least_dead now names)) (one_row (name_row name ((a, until) ∷ [])))) names → IsSmall (cond b (replacing_change name a until (least_dead now names)) (one_row (name_row name ((a, until) ∷ [])))) names
  by_room unknown true differs = replacing_small unknown (least_dead now names) refl differs
  by_room unknown false differs = inl (row_put (name_row name ((a, until) ∷ [])))

  new_pair_small : (o : Option NameRow) → name_at name names ≡ o → Differs (new_pair_change name a until now names o) names → IsSmall (new_pair_change name a until now names o) names
  unfolding new_pair_change
  new_pair_small None is differs = by_room is (nat_le most.names (length names)) differs
  new_pair_small (Some row) is differs = inl (row_put (name_row name (with_expiry a until (live_rows now row.addrs))))

  by_expiry : (row : NameRow) (b : Bool) → Differs (cond b (one_row row) no_rows) names → IsSmall (cond b (one_row row) no_rows) names
  by_expiry row true differs = inl (row_put row)
  by_expiry row false differs = nothing differs

  kept_pair_small : (o : Option NameRow) (old : ℕ) → Differs (kept_pair_change name a until o old) names → IsSmall (kept_pair_change name a until o old) names
  unfolding kept_pair_change
  kept_pair_small o old differs = by_expiry (name_row name (with_expiry a until (addrs_of o))) (nat_lt old until) differs

  by_life : (o : Option NameRow) (old : ℕ) → name_at name names ≡ o → (b : Bool) → Differs (cond b (kept_pair_change name a until o old) (new_pair_change name a until now names o)) names → IsSmall (cond b (kept_pair_change name a until o old) (new_pair_change name a until now names o)) names
  by_life o old is true differs = kept_pair_small o old differs
  by_life o old is false differs = new_pair_small o is differs

  observe_cases_small : (o : Option NameRow) → name_at name names ≡ o → (e : Option ℕ) → Differs (observe_cases_change name a until now names o e) names → IsSmall (observe_cases_change name a until now names o e) names
  unfolding observe_cases_change
  observe_cases_small o is None differs = new_pair_small o is differs
  observe_cases_small o is (Some old) differs = by_life o old is (is_live old now) differs

observe_small : (name : List ℕ) (a : Addr) (ttl now : ℕ) (names : List NameRow) → SortKeysAscend name_of names → Differs (observe_change name a ttl now names) names → IsSmall (observe_change name a ttl now names) names
unfolding observe_change observe_row_change
observe_small name a ttl now names ascend = observe_cases_small name a (now + ttl) now names ascend (name_at name names) refl (expiry_of a (addrs_of (name_at name names)))

-- ---- The difference

-- a put of a name that changes none of the items changes none of the names' items
unneeded : (binds : Binds) (put : Put) → kind_of_put put ≡ 5 → put_one (bind_items binds) put ≡ bind_items binds → put_one (name_items binds.names) put ≡ name_items binds.names
unfolding bind_items
unneeded binds put kind same =
    let low : List Item = class_items binds.classes ++ locals_items binds.locals in
    append_cancel_left low (put_one (name_items binds.names) put) (name_items binds.names)
    (sym (among_names binds (put ∷ []) (kind, tt)) ∙ same ∙ sym (append_assoc (class_items binds.classes) (locals_items binds.locals) (name_items binds.names)))

-- so the sort key of the put has what the put says
said_already : (binds : Binds) (put : Put) → IsSoundBinds binds → kind_of_put put ≡ 5 → put_one (bind_items binds) put ≡ bind_items binds → row_at sort_key_of (sort_key_of_put put) (name_items binds.names) ≡ item_after put
said_already binds put sound kind same = same_put (map name_item binds.names) put (ordered-items name_of 5 name_item name_of_kind binds.names sound.names.ascend) (unneeded binds put kind same)

item_at : (binds : Binds) (p : List ℕ) (o : Option NameRow) → row_at name_of p binds.names ≡ o → row_at sort_key_of (5 ∷ p) (name_items binds.names) ≡ option_map name_item o
item_at binds p o is = row_at-items name_of 5 name_item name_of_kind p binds.names ∙ ap (option_map name_item) is

gone_needed : (binds : Binds) (dead : NameRow) → IsSoundBinds binds → row_at name_of (name_of dead) binds.names ≡ Some dead → put_one (bind_items binds) (Gone 5 (name_of dead)) ≡ bind_items binds → ⊥
gone_needed binds dead sound there same = none-some (name_item dead) (sym (said_already binds (Gone 5 (name_of dead)) sound refl same) ∙ item_at binds (name_of dead) (Some dead) there)

set_needed : (binds : Binds) (new : NameRow) → IsSoundBinds binds → row_at name_of (name_of new) binds.names ≡ None → put_one (bind_items binds) (Set (name_item new)) ≡ bind_items binds → ⊥
unfolding name_item name_of
set_needed binds new sound free same = none-some (name_item new) (sym (item_at binds (name_of new) None free) ∙ said_already binds (Set (name_item new)) sound refl same)

replacing_difference : (binds : Binds) (after : List Item) (change : RowChange NameRow) → IsSoundBinds binds → is_plain name_of change ≡ true → put_all (bind_items binds) (puts_of 5 name_item change) ≡ after → IsReplacing change binds.names → IsDifference (bind_items binds) after (puts_of 5 name_item change)
replacing_difference binds after change sound plain reached replacing = record {
  reaches = reached;
  needed = subst (λ puts. All (λ put. put_one (bind_items binds) put ≡ bind_items binds → ⊥) puts) (sym replacing.puts)
      (All-from_recursion (λ put. put_one (bind_items binds) put ≡ bind_items binds → ⊥) (Gone 5 (name_of replacing.dead) ∷ Set (name_item replacing.new) ∷ [])
      (gone_needed binds replacing.dead sound replacing.there, (set_needed binds replacing.new sound replacing.free, tt)));
  apart = puts_apart name_of 5 name_item name_of_kind change plain;
}

small_difference : (binds : Binds) (after : List Item) (change : RowChange NameRow) → IsSoundBinds binds → is_plain name_of change ≡ true → put_all (bind_items binds) (puts_of 5 name_item change) ≡ after → (after ≡ bind_items binds → ⊥) → IsSmall change binds.names → IsDifference (bind_items binds) after (puts_of 5 name_item change)
small_difference binds after change sound plain reached differ (inl one) =
    subst (λ puts. IsDifference (bind_items binds) after puts) (sym one.1) (one_difference (bind_items binds) after one.0 (sym (ap (put_all (bind_items binds)) one.1) ∙ reached) differ)
small_difference binds after change sound plain reached differ (inr two) = replacing_difference binds after change sound plain reached two

few_puts : (change : RowChange NameRow) (names : List NameRow) → IsSmall change names → length (puts_of 5 name_item change) ≤ 2
few_puts change names (inl one) = subst (λ (puts : List Put). length puts ≤ 2) (sym one.1) (omega arith)
few_puts change names (inr two) = subst (λ (puts : List Put). length puts ≤ 2) (sym two.puts) (omega arith)

-- ---- The plan of a step

module _ (name : List ℕ) (a : Addr) (ttl now : ℕ) (some : 0 < ttl) where
  -- what is known of the step and its change of rows
  pub record IsNameStep (binds : Binds) (change : RowChange NameRow) (step : NameStep) : Type 0 where
    pub makes : OfNames (Makes name_of change binds.names) step
    pub sound : OfNames IsSoundNames step
    pub tells : TellsNames name a (now + ttl) now (sooner now ttl some) binds.names step
    pub small : Differs change binds.names → IsSmall change binds.names

  planned : (book : Book) (after : NamesAfter) (change : RowChange NameRow) → IsSoundBinds book.binds → IsNameStep book.binds change (Ok after) → is_change after.word ≡ true → length change.sets ≤ book.name_room
      → IsOkAnd (with_names book.binds (Ok after)) (λ done. IsPlanned done book (name_plan after.word after.until change book.binds.names))
  unfolding name_plan changed_binds HasRoomFor
  planned book after change sound step changes room =
      let before : Binds = book.binds in
      let new : Binds = record before { names = after.names } in
      let new_sound : IsSoundBinds new = record { classes = sound.classes; locals = sound.locals; names = step.sound } in
      let small : IsSmall change before.names = step.small (λ same. step.tells.other changes (sym step.makes.is ∙ same)) in
      let reached = names_reach before change ∙ ap (λ names. bind_items (record before { names = names })) step.makes.is in
      let differ = λ (same : bind_items new ≡ bind_items before). step.tells.other changes (ap (λ (binds : Binds). binds.names) (binds_told new before new_sound sound same)) in
      let difference = small_difference before (bind_items new) change sound step.makes.plain reached differ small in
      record {
        word = refl;
        until = refl;
        leads = ap (λ names. record before { names = names }) step.makes.is;
        sound = new_sound;
        puts = difference;
        empty = empty_as_told before new (puts_of 5 name_item change) (is_change after.word) sound new_sound difference (names_told before name a (now + ttl) now (sooner now ttl some) (Ok after) step.tells);
        few = few_puts change before.names small;
        kinds = bind_puts 5 (puts_of 5 name_item change) (omega arith) (omega arith) (puts_of_kind name_of 5 name_item name_of_kind change);
        bindings = λ tables e. subst (λ names. IsBindingChange (bindings_of tables) (bindings_of (with_binds (record before { names = names }) tables)) (gone_of name_of name_bindings change before.names) (come_of name_of name_bindings change before.names)) step.makes.is
            (bindings_change tables before e change sound.names (subst IsSoundNames (sym step.makes.is) step.sound) step.makes.plain);
        room = room;
      }

  planned_here : (book : Book) (change : RowChange NameRow) (step : NameStep) (seen : Observed) (rows : RowChange NameRow) (plan : Plan) → seen.rows ≡ Some rows → IsSoundBinds book.binds → IsNameStep book.binds change step
      → IsSeen step change seen → plan ≡ name_plan seen.word seen.until rows book.binds.names → length rows.sets ≤ book.name_room
      → IsOkAnd (with_names book.binds step) (λ done. IsPlanned done book plan)
  planned_here book change (Ok after) seen rows plan found sound step said is room =
      let names : List NameRow = book.binds.names in
      let told : (is_change after.word ≡ true) × (rows ≡ change) = subst (λ o. MatchOption o (after.word ≡ Same) (λ r. (is_change after.word ≡ true) × (r ≡ change))) found said.rows in
      let plan_is : plan ≡ name_plan after.word after.until change names =
      is ∙ ap (λ w. name_plan w seen.until rows names) said.word ∙ ap (λ u. name_plan after.word u rows names) said.until ∙ ap (λ r. name_plan after.word after.until r names) told.1 in
      subst (λ p. IsOkAnd (with_names book.binds (Ok after)) (λ done. IsPlanned done book p)) (sym plan_is)
      (planned book after change sound step told.0 (subst (λ r. length r.sets ≤ book.name_room) told.1 room))
  planned_here book change (Err fault) seen rows plan found sound step said is room = absurd said

  -- a plan with the change of the step: the book has the lists of before, and room
  pub name_planned : (book : Book) (binds old : Binds) → binds ≡ old → book.binds ≡ old → (step : List NameRow → NameStep) (change : RowChange NameRow) (seen : Observed) (rows : RowChange NameRow) (plan : Plan) → seen.rows ≡ Some rows → IsSoundBinds binds → IsNameStep binds change (step binds.names)
      → IsSeen (step binds.names) change seen → plan ≡ name_plan seen.word seen.until rows old.names → length rows.sets ≤ book.name_room
      → IsOkAnd (with_names old (step old.names)) (λ done. IsPlanned done book plan)
  name_planned book binds old e stays step change seen rows plan found =
      let Here : Binds → Type 0 = λ b. IsSoundBinds b → IsNameStep b change (step b.names) → IsSeen (step b.names) change seen → plan ≡ name_plan seen.word seen.until rows old.names → length rows.sets ≤ book.name_room
      → IsOkAnd (with_names old (step old.names)) (λ done. IsPlanned done book plan) in
      let There : Binds → Type 0 = λ b. IsSoundBinds b → IsNameStep b change (step b.names) → IsSeen (step b.names) change seen → plan ≡ name_plan seen.word seen.until rows b.names → length rows.sets ≤ book.name_room
      → IsOkAnd (with_names b (step b.names)) (λ done. IsPlanned done book plan) in
      subst Here (sym e) (subst There stays (planned_here book change (step book.binds.names) seen rows plan found))

  same_here : (book : Book) (change : RowChange NameRow) (step : NameStep) (seen : Observed) (plan : Plan) → seen.rows ≡ None → IsSoundBinds book.binds → IsNameStep book.binds change step → IsSeen step change seen → plan ≡ same_plan (Some seen.until)
      → IsOkAnd (with_names book.binds step) (λ done. IsPlanned done book plan)
  unfolding is_change
  same_here book change (Ok after) seen plan found sound step said is =
      let word : after.word ≡ Same = subst (λ o. MatchOption o (after.word ≡ Same) (λ r. (is_change after.word ≡ true) × (r ≡ change))) found said.rows in
      let changes : is_change after.word ≡ false = ap is_change word in
      subst (λ p. IsOkAnd (with_names book.binds (Ok after)) (λ done. IsPlanned done book p)) (sym (is ∙ ap (λ u. same_plan (Some u)) said.until))
      (same_planned book (record { word = after.word; until = Some after.until; changes = is_change after.word; binds = record book.binds { names = after.names } }) sound word changes (ap (λ names. record book.binds { names = names }) (step.tells.stays changes)))
  same_here book change (Err fault) seen plan found sound step said is = absurd said

  -- and one of a step that changes nothing
  pub name_same : (book : Book) (binds : Binds) → binds ≡ book.binds → (step : List NameRow → NameStep) (change : RowChange NameRow) (seen : Observed) (plan : Plan) → seen.rows ≡ None → IsSoundBinds binds → IsNameStep binds change (step binds.names) → IsSeen (step binds.names) change seen → plan ≡ same_plan (Some seen.until)
      → IsOkAnd (with_names book.binds (step book.binds.names)) (λ done. IsPlanned done book plan)
  name_same book binds e step change seen plan found =
      let Here : Binds → Type 0 = λ b. IsSoundBinds b → IsNameStep b change (step b.names) → IsSeen (step b.names) change seen → plan ≡ same_plan (Some seen.until) → IsOkAnd (with_names book.binds (step book.binds.names)) (λ done. IsPlanned done book plan) in
      subst Here (sym e) (same_here book change (step book.binds.names) seen plan found)

  all_fit : (rows : List NameRow) → AllByRecursion IsKeptName rows → AllByRecursion FitsName rows
  all_fit [] all = tt
  all_fit (row ∷ rows) all = (all.0.fits, all_fit rows all.1)

  -- the rows that are put in fit their items
  pub name_fits : (binds : Binds) (change : RowChange NameRow) (step : NameStep) (seen : Observed) (rows : RowChange NameRow) → seen.rows ≡ Some rows → IsSoundBinds binds → IsNameStep binds change step → IsSeen step change seen → All FitsName rows.sets
  name_fits binds change (Ok after) seen rows found sound step said =
      let told : (is_change after.word ≡ true) × (rows ≡ change) = subst (λ o. MatchOption o (after.word ≡ Same) (λ r. (is_change after.word ≡ true) × (r ≡ change))) found said.rows in
      All-from_recursion FitsName rows.sets (all_fit rows.sets (subst (λ (r : RowChange NameRow). AllByRecursion IsKeptName r.sets) (sym told.1)
      (good_sets name_of IsKeptName change binds.names sound.names.ascend step.makes.plain (subst (AllByRecursion IsKeptName) (sym step.makes.is) step.sound.each))))
  name_fits binds change (Err fault) seen rows found sound step said = absurd said

  pub observe_known : (binds : Binds) → IsSoundBinds binds → is_name name ≡ true → IsAddr a → now ≤ 253402300799 → ttl < 2 ^ 32 → IsNameStep binds (observe_change name a ttl now binds.names) (observe_step name a ttl now binds.names)
  observe_known binds sound e fits early short = record {
    makes = observe_makes name a ttl now binds.names sound.names.ascend;
    sound = sound-observe_step name a ttl now binds.names sound.names e fits early short;
    tells = observe_tells name a ttl now binds.names some;
    small = observe_small name a ttl now binds.names sound.names.ascend;
  }

-- a refusal over the names is one over the three lists
pub name_refused : (book : Book) (binds : Binds) → binds ≡ book.binds → (step : List NameRow → NameStep) (fault : BindFault) → IsRefusal (step binds.names) fault → IsRefusal (with_names book.binds (step book.binds.names)) fault
name_refused book binds e step fault refused other = ap (λ (b : Binds). with_names b (step b.names)) (sym e) ∙ ap (with_names binds) (refused other)
