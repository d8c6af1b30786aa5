-- A command on classes or names changes these rows, and so the bindings.
use Rattle.std.proofs.Common.{◌≡◌, ℕ, ◌+◌, Bool, true, false, cond, not, ◌&&◌, ◌||◌, List, [], ◌∷◌, length, Option, Some, None, Ok, Err, refl, sym, subst, ◌∙◌}
use Rattle.std.specs.Prelude.{nat_le, nat_lt, IfOk}
use Rattle.std.proofs.lemmas.Option.{none-some}
use Rattle.mud_base.specs.declared.addr.Addr.{Addr}
use Rattle.item_codec.specs.declared.word.Word.TheVariants.{New, Same, Renewed, Bound, Unbound}
use Rattle.base_rows.specs.Sortable.{same_sort_key, SortKeysAscend, row_at}
use Rattle.base_rows.specs.Changes.{RowChange, changed, sort_keys_of, is_plain}
use Rattle.base_rows.proofs.SortableLaws.{same_sort_key_exact}
use Rattle.acl_model.specs.Changes.{IsBindingChange}
use Rattle.table_model.specs.declared.bind.Class.{Class}
use Rattle.table_model.specs.declared.bind.ClassRow.{ClassRow}
use Rattle.table_model.specs.declared.bind.NameRow.{NameRow}
use Rattle.table_model.specs.declared.bind_fault.BindFault.TheVariants.{ClassesFull, ClassFull, NotBound, NameFull}
use Rattle.table_model.specs.Limits.{most}
use Rattle.table_model.specs.Expiries.{Expiries, is_live, expiry_of, with_expiry, live_rows, live_count}
use Rattle.table_model.specs.Tables.{Tables}
use Rattle.table_model.specs.Bindings.{class_bindings, name_bindings, bindings_of}
use Rattle.table_model.specs.BindingChanges.{gone_of, come_of}
use Rattle.table_model.specs.Binds.{class_key, class_at, set_class, without_class, class_row, has_addr, with_addr, without_addr, name_of, name_at, set_name, without_name, name_row, has_live_row, IsSoundClasses, IsSoundNames}
use Rattle.table_model.specs.BindCommands.{ClassStep, classes_done, bind_step, unbind_step, NameStep, observed, addrs_of, least_dead, replacing, new_pair, kept_pair, observe_row, observe_step}
use Rattle.table_model.specs.BindRowChanges.{no_rows, one_row, bind_cases_change, bind_change, class_left, unbind_cases_change, unbind_change, replacing_change, new_pair_change, kept_pair_change, observe_cases_change, observe_row_change, observe_change}
use Rattle.table_laws.proofs.SoundRows.{found_there}
use Rattle.table_laws.proofs.SoundClasses.{OfClasses, cond_classes}
use Rattle.table_laws.proofs.SoundNames.{OfNames, cond_names}
use Rattle.table_laws.proofs.BookChanges.{class_book_change, name_book_change}
use Rattle.table_model.proofs.Parts.{bind_cases, classes_without, unbind_cases, observe_cases}

-- the change of rows makes the list, and touches no sort key twice
pub record Makes {R : Type 0} (sort_key : R → List ℕ) (change : RowChange R) (rows after : List R) : Type 0 where
  pub is : changed sort_key change rows ≡ after
  pub plain : is_plain sort_key change ≡ true

nothing : {R : Type 0} (sort_key : R → List ℕ) (rows : List R) → Makes sort_key no_rows rows rows
unfolding changed sort_keys_of is_plain
nothing sort_key rows = record { is = refl; plain = refl }

-- ---- Classes

module _ (c : Class) (a : Addr) (classes : List ClassRow) where
  put_class : (row : ClassRow) → Makes class_key (one_row row) classes (set_class row classes)
  unfolding changed sort_keys_of is_plain set_class
  put_class row = record { is = refl; plain = refl }

  bound_or_full : (row : ClassRow) (b : Bool)
      → OfClasses (Makes class_key (cond b no_rows (one_row (class_row c (with_addr a row.addrs)))) classes) (cond b (classes_done Same classes) (cond (nat_le most.class_addresses (length row.addrs)) (Err ClassFull) (classes_done Bound (set_class (class_row c (with_addr a row.addrs)) classes))))
  bound_or_full row true = nothing class_key classes
  bound_or_full row false =
      cond_classes (Makes class_key (one_row (class_row c (with_addr a row.addrs))) classes) (nat_le most.class_addresses (length row.addrs)) (Err ClassFull) (classes_done Bound (set_class (class_row c (with_addr a row.addrs)) classes))
      (λ _. tt) (λ _. put_class (class_row c (with_addr a row.addrs)))

  bind_cases_make : (o : Option ClassRow) → OfClasses (Makes class_key (bind_cases_change c a o) classes) (bind_cases c a classes o)
  unfolding bind_cases_change
  bind_cases_make None = cond_classes (Makes class_key (one_row (class_row c (a ∷ []))) classes) (nat_le most.classes (length classes)) (Err ClassesFull) (classes_done Bound (set_class (class_row c (a ∷ [])) classes))
      (λ _. tt) (λ _. put_class (class_row c (a ∷ [])))
  bind_cases_make (Some row) = bound_or_full row (has_addr a row.addrs)

  pub bind_makes : OfClasses (Makes class_key (bind_change c a classes) classes) (bind_step c a classes)
  unfolding bind_step bind_change
  bind_makes = bind_cases_make (class_at c classes)

  left_makes : (bs : List Addr) → Makes class_key (class_left c bs) classes (classes_without c bs classes)
  unfolding changed sort_keys_of is_plain class_left set_class without_class
  left_makes [] = record { is = refl; plain = refl }
  left_makes (b ∷ bs) = record { is = refl; plain = refl }

  unbind_cases_make : (o : Option ClassRow) → OfClasses (Makes class_key (unbind_cases_change c a o) classes) (unbind_cases c a classes o)
  unfolding unbind_cases_change
  unbind_cases_make None = tt
  unbind_cases_make (Some row) = cond_classes (Makes class_key (class_left c (without_addr a row.addrs)) classes) (has_addr a row.addrs) (classes_done Unbound (classes_without c (without_addr a row.addrs) classes)) (Err NotBound)
      (λ _. left_makes (without_addr a row.addrs)) (λ _. tt)

  pub unbind_makes : OfClasses (Makes class_key (unbind_change c a classes) classes) (unbind_step c a classes)
  unfolding unbind_step unbind_change
  unbind_makes = unbind_cases_make (class_at c classes)

-- ---- Names

module _ (name : List ℕ) (a : Addr) (until now : ℕ) (names : List NameRow) (ascend : SortKeysAscend name_of names) where
  put_name : (row : NameRow) → Makes name_of (one_row row) names (set_name row names)
  unfolding changed sort_keys_of is_plain set_name
  put_name row = record { is = refl; plain = refl }

  one_other : (p q : List ℕ) → (p ≡ q → ⊥) → (b : Bool) → same_sort_key p q ≡ b → (not (b || false) && true) ≡ true
  one_other p q other true e = absurd (other (same_sort_key_exact p q e))
  one_other p q other false e = refl

  replacing_makes : name_at name names ≡ None → (o : Option NameRow) → least_dead now names ≡ o → OfNames (Makes name_of (replacing_change name a until o) names) (replacing name a until names o)
  unfolding changed sort_keys_of is_plain replacing replacing_change set_name without_name least_dead name_at name_of name_row
  replacing_makes unknown None is = tt
  replacing_makes unknown (Some dead) is =
      let there : row_at name_of (name_of dead) names ≡ Some dead = found_there name_of (λ row. not (has_live_row now row)) names dead ascend is in
      record { is = refl; plain = one_other dead.name name (λ e. none-some dead (sym unknown ∙ subst (λ p. row_at name_of p names ≡ Some dead) e there)) (same_sort_key dead.name name) refl }

  by_room : name_at name names ≡ None → (b : Bool)
      → OfNames (Makes name_of (cond b (replacing_change name a until (least_dead now names)) (one_row (name_row name ((a, until) ∷ [])))) names) (cond b (replacing name a until names (least_dead now names)) (observed New until (set_name (name_row name ((a, until) ∷ [])) names)))
  by_room unknown true = replacing_makes unknown (least_dead now names) refl
  by_room unknown false = put_name (name_row name ((a, until) ∷ []))

  new_pair_makes : (o : Option NameRow) → name_at name names ≡ o → OfNames (Makes name_of (new_pair_change name a until now names o) names) (new_pair name a until now names o)
  unfolding new_pair new_pair_change
  new_pair_makes None is = by_room is (nat_le most.names (length names))
  new_pair_makes (Some row) is =
      let new : NameRow = name_row name (with_expiry a until (live_rows now row.addrs)) in
      cond_names (Makes name_of (one_row new) names) (nat_le most.name_addresses (live_count now row.addrs)) (Err NameFull) (observed New until (set_name new names)) (λ _. tt) (λ _. put_name new)

  by_expiry : (rows : Expiries) (old : ℕ) (b : Bool) → OfNames (Makes name_of (cond b (one_row (name_row name (with_expiry a until rows))) no_rows) names) (cond b (observed Renewed until (set_name (name_row name (with_expiry a until rows)) names)) (observed Same old names))
  by_expiry rows old true = put_name (name_row name (with_expiry a until rows))
  by_expiry rows old false = nothing name_of names

  kept_pair_makes : (o : Option NameRow) (old : ℕ) → OfNames (Makes name_of (kept_pair_change name a until o old) names) (kept_pair name a until names o old)
  unfolding kept_pair kept_pair_change
  kept_pair_makes o old = by_expiry (addrs_of o) old (nat_lt old until)

  by_life : (o : Option NameRow) (old : ℕ) → name_at name names ≡ o → (b : Bool) → OfNames (Makes name_of (cond b (kept_pair_change name a until o old) (new_pair_change name a until now names o)) names) (cond b (kept_pair name a until names o old) (new_pair name a until now names o))
  by_life o old is true = kept_pair_makes o old
  by_life o old is false = new_pair_makes o is

  pub observe_cases_make : (o : Option NameRow) → name_at name names ≡ o → (e : Option ℕ) → OfNames (Makes name_of (observe_cases_change name a until now names o e) names) (observe_cases name a until now names o e)
  unfolding observe_cases_change
  observe_cases_make o is None = new_pair_makes o is
  observe_cases_make o is (Some old) = by_life o old is (is_live old now)

pub observe_makes : (name : List ℕ) (a : Addr) (ttl now : ℕ) (names : List NameRow) → SortKeysAscend name_of names → OfNames (Makes name_of (observe_change name a ttl now names) names) (observe_step name a ttl now names)
unfolding observe_step observe_row observe_change observe_row_change
observe_makes name a ttl now names ascend = observe_cases_make name a (now + ttl) now names ascend (name_at name names) refl (expiry_of a (addrs_of (name_at name names)))

-- ---- The bindings

pub classes_bound : (tables : Tables) (change : RowChange ClassRow) (step : ClassStep) → IsSoundClasses tables.classes → OfClasses (Makes class_key change tables.classes) step → OfClasses IsSoundClasses step
    → IfOk step (λ after. IsBindingChange (bindings_of tables) (bindings_of (record tables { classes = after.classes })) (gone_of class_key class_bindings change tables.classes) (come_of class_key class_bindings change tables.classes))
classes_bound tables change (Ok after) sound makes new =
    subst (λ cs. IsBindingChange (bindings_of tables) (bindings_of (record tables { classes = cs })) (gone_of class_key class_bindings change tables.classes) (come_of class_key class_bindings change tables.classes)) makes.is
    (class_book_change tables change sound (subst IsSoundClasses (sym makes.is) new) makes.plain)
classes_bound tables change (Err fault) sound makes new = tt

pub names_bound : (tables : Tables) (change : RowChange NameRow) (step : NameStep) → IsSoundNames tables.names → OfNames (Makes name_of change tables.names) step → OfNames IsSoundNames step
    → IfOk step (λ after. IsBindingChange (bindings_of tables) (bindings_of (record tables { names = after.names })) (gone_of name_of name_bindings change tables.names) (come_of name_of name_bindings change tables.names))
names_bound tables change (Ok after) sound makes new =
    subst (λ ns. IsBindingChange (bindings_of tables) (bindings_of (record tables { names = ns })) (gone_of name_of name_bindings change tables.names) (come_of name_of name_bindings change tables.names)) makes.is
    (name_book_change tables change sound (subst IsSoundNames (sym makes.is) new) makes.plain)
names_bound tables change (Err fault) sound makes new = tt

pub class_rows : (classes : List ClassRow) (change : RowChange ClassRow) (step : ClassStep) → OfClasses (Makes class_key change classes) step → IfOk step (λ after. (changed class_key change classes ≡ after.classes) × (is_plain class_key change ≡ true))
class_rows classes change (Ok after) makes = (makes.is, makes.plain)
class_rows classes change (Err fault) makes = tt

pub name_rows : (names : List NameRow) (change : RowChange NameRow) (step : NameStep) → OfNames (Makes name_of change names) step → IfOk step (λ after. (changed name_of change names ≡ after.names) × (is_plain name_of change ≡ true))
name_rows names change (Ok after) makes = (makes.is, makes.plain)
name_rows names change (Err fault) makes = tt
