-- A command on classes, local networks or names says that it changes something exactly where a list is another one than
-- before.
use Rattle.std.proofs.Common.{◌≡◌, ℕ, ◌+◌, ◌≤◌, ◌<◌, ◌==◌, Bool, true, false, cond, List, [], ◌∷◌, length, Option, Some, None, Ok, Err, refl, sym, ap, ◌∙◌, arith}
use Rattle.std.specs.Prelude.{nat_le, nat_lt}
use Rattle.std.proofs.lemmas.Bool.{false≢true, ltb-true, ltb-false}
use Rattle.std.proofs.lemmas.Bool.Decides.{Decides-eqb}
use Rattle.std.proofs.lemmas.Option.{same_Some, none-some}
use Rattle.mud_base.specs.Addresses.{same_addr}
use Rattle.mud_base.specs.declared.addr.Addr.{Addr}
use Rattle.mud_base.specs.declared.prefix.Prefix.{Prefix}
use Rattle.base_rows.specs.Sortable.{SortKeysAscend, row_at, set_row, without_row}
use Rattle.base_rows.specs.Addresses.{addr_sort_key}
use Rattle.base_rows.proofs.SortableLaws.{same_sort_key_itself, row_at-set_row_same, row_at-without_row}
use Rattle.acl_model.proofs.BindingLaws.{same_addr_itself}
use Rattle.item_codec.specs.declared.word.Word.{Word}
use Rattle.item_codec.specs.declared.word.Word.TheVariants.{New, Same, Renewed, Bound, Unbound, Set}
use Rattle.table_model.specs.declared.bind.Class.{Class}
use Rattle.table_model.specs.declared.bind.ClassRow.{ClassRow}
use Rattle.table_model.specs.declared.bind.NameRow.{NameRow}
use Rattle.table_model.specs.declared.bind_fault.BindFault.TheVariants.{ClassesFull, ClassFull, NotBound, LocalsFull, NameFull}
use Rattle.table_model.specs.Limits.{most}
use Rattle.table_model.specs.Expiries.{Expiries, is_live, expiry_of, with_expiry, live_rows, live_count}
use Rattle.table_model.specs.Binds.{key_of_class, class_key, class_at, set_class, without_class, class_row, has_addr, with_addr, without_addr, same_prefix, same_prefixes, prefixes_in_order, name_of, name_at, set_name, without_name, name_row}
use Rattle.table_model.specs.BindCommands.{ClassStep, classes_done, bind_step, unbind_step, LocalStep, locals_step, NameStep, observed, addrs_of, least_dead, replacing, new_pair, kept_pair, observe_row, observe_step, is_change}
use Rattle.table_model.proofs.LeaseLaws.{expiry_of-with_expiry}
use Rattle.base_rows.proofs.ListTests.{both, any_without}
use Rattle.base_rows.proofs.RowSets.{passing_found}
use Rattle.table_model.proofs.Parts.{bind_cases, classes_without, unbind_cases, locals_done, observe_cases}

-- ---- What a word tells

-- the word says of a list whether it is another one
pub record Tells {A : Type 0} (word : Word) (before after : A) : Type 0 where
  pub stays : is_change word ≡ false → after ≡ before
  pub other : is_change word ≡ true → after ≡ before → ⊥

pub tells_same : {A : Type 0} (xs : A) → Tells Same xs xs
unfolding is_change
tells_same xs = record { stays = λ _. refl; other = λ e _. false≢true e }

tells_other : {A : Type 0} (word : Word) (before after : A) → is_change word ≡ true → (after ≡ before → ⊥) → Tells word before after
tells_other word before after is differ = record { stays = λ e. absurd (false≢true (sym e ∙ is)); other = λ _. differ }

-- a list with a row put in is another one than a list that hasn't this row
put_differs : {R : Type 0} (sort_key : R → List ℕ) (row : R) (rest before : List R) → (row_at sort_key (sort_key row) before ≡ Some row → ⊥) → set_row sort_key row rest ≡ before → ⊥
put_differs sort_key row rest before hasn't e = hasn't (ap (row_at sort_key (sort_key row)) (sym e) ∙ row_at-set_row_same sort_key row rest)

-- ---- Classes

has_its_addr : (a : Addr) (bs : List Addr) → has_addr a (with_addr a bs) ≡ true
unfolding has_addr with_addr
has_its_addr a bs = passing_found addr_sort_key (λ b. same_addr b a) (set_row addr_sort_key a bs) (addr_sort_key a) a (row_at-set_row_same addr_sort_key a bs) (same_addr_itself a)

hasn't_addr : (a : Addr) (bs : List Addr) → has_addr a (without_addr a bs) ≡ true → ⊥
unfolding has_addr without_addr
hasn't_addr a bs e = any_without (λ b. same_addr b a) bs e

module _ (c : Class) (a : Addr) (classes : List ClassRow) where
  abbrev pub TellsClasses : ClassStep → Type 0
  TellsClasses (Ok after) = Tells after.word classes after.classes
  TellsClasses (Err fault) = Unit {0}

  by_classes : (b : Bool) (x y : ClassStep) → (b ≡ true → TellsClasses x) → (b ≡ false → TellsClasses y) → TellsClasses (cond b x y)
  by_classes true x y f g = f refl
  by_classes false x y f g = g refl

  bind_cases_tell : (o : Option ClassRow) → class_at c classes ≡ o → TellsClasses (bind_cases c a classes o)
  unfolding set_class class_at class_key class_row is_change
  bind_cases_tell None is = by_classes (nat_le most.classes (length classes)) (Err ClassesFull) (classes_done Bound (set_class (class_row c (a ∷ [])) classes))
      (λ _. tt)
      (λ _. tells_other Bound classes (set_row class_key (class_row c (a ∷ [])) classes) refl
      (put_differs class_key (class_row c (a ∷ [])) classes classes (λ f. none-some (class_row c (a ∷ [])) (sym is ∙ f))))
  bind_cases_tell (Some row) is =
      let new : ClassRow = class_row c (with_addr a row.addrs) in
      by_classes (has_addr a row.addrs) (classes_done Same classes) (cond (nat_le most.class_addresses (length row.addrs)) (Err ClassFull) (classes_done Bound (set_class new classes)))
      (λ _. tells_same classes)
      (λ hasn't. by_classes (nat_le most.class_addresses (length row.addrs)) (Err ClassFull) (classes_done Bound (set_class new classes))
      (λ _. tt)
      (λ _. tells_other Bound classes (set_row class_key new classes) refl
      (put_differs class_key new classes classes (λ f. false≢true (sym hasn't ∙ ap (λ (r : ClassRow). has_addr a r.addrs) (same_Some row new (sym is ∙ f)) ∙ has_its_addr a row.addrs)))))

  pub bind_tells : TellsClasses (bind_step c a classes)
  unfolding bind_step
  bind_tells = bind_cases_tell (class_at c classes) refl

  module _ (ascend : SortKeysAscend class_key classes) where
    unbound_tell : (row : ClassRow) → class_at c classes ≡ Some row → (bs : List Addr) → (has_addr a row.addrs ≡ has_addr a bs → ⊥) → Tells Unbound classes (classes_without c bs classes)
    unfolding without_class set_class class_at class_key class_row is_change
    unbound_tell row is [] differ = tells_other Unbound classes (without_row class_key (key_of_class c) classes) refl
        (λ e. none-some row (sym (row_at-without_row class_key (key_of_class c) classes (key_of_class c) ascend ∙ ap (λ b. cond b None (row_at class_key (key_of_class c) classes)) (same_sort_key_itself (key_of_class c)))
        ∙ ap (row_at class_key (key_of_class c)) e ∙ is))
    unbound_tell row is (b ∷ bs) differ = tells_other Unbound classes (set_row class_key (class_row c (b ∷ bs)) classes) refl
        (put_differs class_key (class_row c (b ∷ bs)) classes classes (λ f. differ (ap (λ (r : ClassRow). has_addr a r.addrs) (same_Some row (class_row c (b ∷ bs)) (sym is ∙ f)))))

    unbind_cases_tell : (o : Option ClassRow) → class_at c classes ≡ o → TellsClasses (unbind_cases c a classes o)
    unbind_cases_tell None is = tt
    unbind_cases_tell (Some row) is = by_classes (has_addr a row.addrs) (classes_done Unbound (classes_without c (without_addr a row.addrs) classes)) (Err NotBound)
        (λ has. unbound_tell row is (without_addr a row.addrs) (λ e. hasn't_addr a row.addrs (sym e ∙ has)))
        (λ _. tt)

    pub unbind_tells : TellsClasses (unbind_step c a classes)
    unfolding unbind_step
    unbind_tells = unbind_cases_tell (class_at c classes) refl

-- ---- Local networks

same_prefix_itself : (p : Prefix) → same_prefix p p ≡ true
unfolding same_prefix
same_prefix_itself p = both (same_addr p.addr p.addr) (p.len == p.len) (same_addr_itself p.addr) ((Decides-eqb p.len p.len).1 refl)

same_prefixes_themselves : (ps : List Prefix) → same_prefixes ps ps ≡ true
unfolding same_prefixes
same_prefixes_themselves [] = refl
same_prefixes_themselves (p ∷ ps) = both (same_prefix p p) (same_prefixes ps ps) (same_prefix_itself p) (same_prefixes_themselves ps)

module _ (prefixes locals : List Prefix) where
  abbrev pub TellsLocals : LocalStep → Type 0
  TellsLocals (Ok after) = Tells after.word locals after.locals
  TellsLocals (Err fault) = Unit {0}

  by_locals : (b : Bool) (x y : LocalStep) → (b ≡ true → TellsLocals x) → (b ≡ false → TellsLocals y) → TellsLocals (cond b x y)
  by_locals true x y f g = f refl
  by_locals false x y f g = g refl

  pub locals_tell : TellsLocals (locals_step prefixes locals)
  unfolding locals_step is_change
  locals_tell =
      let ordered : List Prefix = prefixes_in_order prefixes in
      by_locals (nat_lt most.locals (length ordered)) (Err LocalsFull) (cond (same_prefixes ordered locals) (locals_done Same locals) (locals_done Set ordered))
      (λ _. tt)
      (λ _. by_locals (same_prefixes ordered locals) (locals_done Same locals) (locals_done Set ordered)
      (λ _. tells_same locals)
      (λ others. tells_other Set locals ordered refl (λ e. false≢true (sym others ∙ ap (λ ps. same_prefixes ps locals) e ∙ same_prefixes_themselves locals))))

-- ---- Names

module _ (name : List ℕ) (a : Addr) (until now : ℕ) (later : now < until) (names : List NameRow) where
  abbrev pub TellsNames : NameStep → Type 0
  TellsNames (Ok after) = Tells after.word names after.names
  TellsNames (Err fault) = Unit {0}

  by_names : (b : Bool) (x y : NameStep) → (b ≡ true → TellsNames x) → (b ≡ false → TellsNames y) → TellsNames (cond b x y)
  by_names true x y f g = f refl
  by_names false x y f g = g refl

  abbrev one : NameRow
  one = name_row name ((a, until) ∷ [])

  replacing_tell : name_at name names ≡ None → (o : Option NameRow) → TellsNames (replacing name a until names o)
  unfolding replacing set_name name_at name_of name_row is_change
  replacing_tell is None = tt
  replacing_tell is (Some dead) = tells_other New names (set_row name_of one (without_name dead.name names)) refl (put_differs name_of one (without_name dead.name names) names (λ f. none-some one (sym is ∙ f)))

  -- a row with other addresses
  other_expiries : (word : Word) (row : NameRow) (rows : Expiries) → is_change word ≡ true → name_at name names ≡ Some row → (expiry_of a row.addrs ≡ Some until → ⊥) → expiry_of a rows ≡ Some until → Tells word names (set_name (name_row name rows) names)
  unfolding set_name name_at name_of name_row
  other_expiries word row rows changes is differ new = tells_other word names (set_row name_of (name_row name rows) names) changes
      (put_differs name_of (name_row name rows) names names (λ f. differ (ap (λ (r : NameRow). expiry_of a r.addrs) (same_Some row (name_row name rows) (sym is ∙ f)) ∙ new)))

  new_pair_tells : (o : Option NameRow) → name_at name names ≡ o → (expiry_of a (addrs_of o) ≡ Some until → ⊥) → TellsNames (new_pair name a until now names o)
  unfolding new_pair addrs_of set_name name_at name_of name_row is_change
  new_pair_tells None is differ = by_names (nat_le most.names (length names)) (replacing name a until names (least_dead now names)) (observed New until (set_name one names))
      (λ _. replacing_tell is (least_dead now names))
      (λ _. tells_other New names (set_row name_of one names) refl (put_differs name_of one names names (λ f. none-some one (sym is ∙ f))))
  new_pair_tells (Some row) is differ =
      let rows : Expiries = with_expiry a until (live_rows now row.addrs) in
      by_names (nat_le most.name_addresses (live_count now row.addrs)) (Err NameFull) (observed New until (set_name (name_row name rows) names))
      (λ _. tt)
      (λ _. other_expiries New row rows refl is differ (expiry_of-with_expiry a until (live_rows now row.addrs)))

  kept_pair_tells : (o : Option NameRow) (old : ℕ) → name_at name names ≡ o → expiry_of a (addrs_of o) ≡ Some old → TellsNames (kept_pair name a until names o old)
  unfolding kept_pair addrs_of expiry_of is_change
  kept_pair_tells None old is kept = absurd (none-some old kept)
  kept_pair_tells (Some row) old is kept = by_names (nat_lt old until) (observed Renewed until (set_name (name_row name (with_expiry a until row.addrs)) names)) (observed Same old names)
      (λ sooner. other_expiries Renewed row (with_expiry a until row.addrs) refl is (λ e. not_itself old until (same_Some old until (sym kept ∙ e)) (ltb-true old until sooner)) (expiry_of-with_expiry a until row.addrs))
      (λ _. tells_same names)
    where
      not_itself : (n m : ℕ) → n ≡ m → n < m → ⊥
      not_itself n m e less = omega (arith, e, less)

  observe_cases_tell : (o : Option NameRow) → name_at name names ≡ o → (e : Option ℕ) → expiry_of a (addrs_of o) ≡ e → TellsNames (observe_cases name a until now names o e)
  unfolding is_live
  observe_cases_tell o is None none = new_pair_tells o is (λ f. none-some until (sym none ∙ f))
  observe_cases_tell o is (Some old) kept = by_names (nat_lt now old) (kept_pair name a until names o old) (new_pair name a until now names o)
      (λ _. kept_pair_tells o old is kept)
      (λ ended. new_pair_tells o is (λ f. not_later old until now (same_Some old until (sym kept ∙ f)) (ltb-false now old ended) later))
    where
      not_later : (n m k : ℕ) → n ≡ m → n ≤ k → k < m → ⊥
      not_later n m k e before after = omega (arith, e, before, after)

pub sooner : (now ttl : ℕ) → 0 < ttl → now < now + ttl
sooner now ttl some = omega (arith, some)

pub observe_tells : (name : List ℕ) (a : Addr) (ttl now : ℕ) (names : List NameRow) → (some : 0 < ttl) → TellsNames name a (now + ttl) now (sooner now ttl some) names (observe_step name a ttl now names)
unfolding observe_step observe_row
observe_tells name a ttl now names some = observe_cases_tell name a (now + ttl) now (sooner now ttl some) names (name_at name names) refl (expiry_of a (addrs_of (name_at name names))) refl
