-- What the statement that makes the table does.
use Rattle.std.proofs.Common.{◌≡◌, ◌⊎◌, inl, inr, ℕ, ◌++◌, List, [], ◌∷◌, codes, Option, None, Ok, true, false, IsTrue, refl, sym, ap, subst, subst₂, ◌∙◌, arith}
use Rattle.std.specs.List.{AllByRecursion}
use Rattle.std.proofs.lemmas.Fmt.{decimal_digit}
use Rattle.sqlite_value.specs.Keys.{plain}
use Rattle.sqlite_trees.specs.Tree.{Trees}
use Rattle.sqlite.specs.Command.TheVariants.{CreateTable, Commit, Release}
use Rattle.sqlite.specs.Change.{created, next_tree}
use Rattle.sqlite.specs.declared.run.Mode.{Mode}
use Rattle.sqlite.specs.Does.{Tally, Does, lacks_sequence}
use Rattle.sqlite.specs.Effect.{Database, IsDatabase}
use Rattle.sqlite.specs.Listing.{understood}
use Rattle.sqlite.specs.State.{State, Executes, Writes, CommitsBy, MayCommit, IsNewestNamed, names_in, begins_at, mode_of}
use Rattle.sqlite.proofs.Callers.{IsPlain, command_of, statement_of, runs_as}
use Rattle.keep_sqlite.specs.Table.{item_table, item_schema, no_schema}
use Rattle.keep_sqlite.specs.Rows.{items_in, items_of, AreDistinct, AreTreesOf, HoldsItems, IsItemRow}
use Rattle.keep_sqlite.specs.Batches.{Makes}
use Rattle.keep_sqlite.proofs.Texts.{create_text, create_is, create_plain}
use Rattle.keep_sqlite.proofs.Parts.{went, same_value}

schema_made : created no_schema item_table ≡ item_schema
schema_made =
    ap (λ digits. record {
      tables = item_table ∷ [];
      indexes = record { name = codes "sqlite_autoindex_" ++ (codes "item" ++ (codes "_" ++ digits)); tree = 1; table = 0; columns = 1 ∷ 2 ∷ []; order = plain; is_unique = true } ∷ [];
      views = [];
    }) (decimal_digit 1 (omega arith))

made : (limit : Option ℕ) (mode : Mode) (db : Database) (tally : Tally) (after : Database) → db.schema ≡ no_schema → Does limit mode [] db create_text None CreateTable (Ok (tally, after))
    → (after.schema ≡ item_schema) × (after.trees 0 ≡ [])
made limit mode db tally after has does =
    let all = went does in
    let first = went all.1 in
    let made = first.1 in
    let both : Ok made.table ≡ Ok item_table = sym made.defined ∙ create_is.2 in
    let same : made.table ≡ item_table = cc in
    let schema : first.0.schema ≡ item_schema = made.is ∙ ap (λ s. created s made.table) has ∙ ap (created no_schema) same ∙ schema_made in
    let plain : lacks_sequence first.0.schema ≡ false = ap lacks_sequence schema in
    let now : after ≡ first.0 = ap (λ (p : Tally × Database). p.1) (same_value all.2) ∙ same_value (rw plain at first.2) in
    (ap (λ (d : Database). d.schema) now ∙ schema, ap (λ (d : Database). d.trees 0) now ∙ subst (λ s. first.0.trees (next_tree s) ≡ []) has made.empty)

holds_none : (db : Database) → IsDatabase db → db.schema ≡ item_schema → db.trees 0 ≡ [] → HoldsItems db × (items_of db ≡ [])
holds_none db sound schema none = (
  record { sound = sound; schema = schema; rows = subst (AllByRecursion IsItemRow) (sym none) tt; distinct = subst AreDistinct (sym none) tt },
  ap items_in none,
)

-- The trees of a database that holds items are those of its items.
pub trees_of : (db : Database) → HoldsItems db → AreTreesOf (items_of db) db.trees
trees_of db holds = (subst (λ s. HoldsItems (record { schema = s; trees = db.trees })) holds.schema holds, refl)

pub creates : (old new : State) (count : ℕ) → old.now.schema ≡ no_schema → old.in_transaction ≡ false → Executes create_text [] old new (Ok count) → Makes old new × IsTrue new.is_open × HoldsItems new.now
creates old new count has alone h =
    let w = subst (λ t. Writes old new None CreateTable t [] count) create_is.1 (runs_as create_text [] old new no_schema has CreateTable create_is.0 create_plain count h) in
    let did = made old.step_limit (mode_of old) old.now w.tally new.now has w.changed in
    let holds = holds_none new.now w.sound did.0 did.1 in
    let left = rw alone at w.shown.committed_is in (
      record {
        was_open = λ _. w.shown.was_open;
        made = λ _. inr (has, holds.0, holds.1);
        settled = λ _. sym left;
      },
      w.shown.is_open,
      holds.0,
    )

-- it ends no transaction
ends_nothing : (s : State) → (CreateTable ≡ Commit) ⊎ ((name : List ℕ) × (at : ℕ) × (CreateTable ≡ Release name) × IsNewestNamed (names_in s) name at × IsTrue (begins_at s at)) → ⊥
ends_nothing s (inl commits) = absurd (let e = commits in cc)
ends_nothing s (inr releases) = absurd (let e = releases.2 in cc)

-- what it commits
pub creates_trees : (s : State) (db : Trees) → s.now.schema ≡ no_schema → CommitsBy create_text [] s db → AreTreesOf [] db
unfolding CommitsBy
creates_trees s db has h =
    let known = sym h.1.is ∙ ap (λ k. understood k create_text) has in
    let bare = subst IsPlain (sym known) create_plain in
    let it = rw (bare.0, bare.1) at h.2 in
    by (subst₂ (λ k t. MayCommit s None k t [] db) (ap command_of known ∙ create_is.0) (ap (statement_of create_text) known ∙ create_is.1) it)
  where
    by : MayCommit s None CreateTable create_text [] db → AreTreesOf [] db
    by (inl ends) = absurd (ends_nothing s ends.0)
    by (inr writes) =
        let after : Database = writes.2 in
        let does = made s.step_limit (mode_of s) s.now writes.1 after has writes.3 in
        let holds = holds_none after writes.4 does.0 does.1 in
        subst (AreTreesOf []) (sym writes.5) (subst (λ items. AreTreesOf items after.trees) holds.1 (trees_of after holds.0))
