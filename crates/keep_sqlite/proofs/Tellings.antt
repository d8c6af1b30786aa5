-- What a keeper tells before and behind an `open`.
use Rattle.std.proofs.Common.{◌≡◌, inl, inr, Bool, true, false, List, [], IsTrue, refl, sym, ap, subst, ◌∙◌}
use Rattle.sqlite.specs.Schema.{Schema}
use Rattle.sqlite.specs.Effect.{Database}
use Rattle.mud_world.specs.declared.item.Put.{Put}
use Rattle.mud_world.specs.Items.{put_all}
use Rattle.keep_sqlite.specs.Table.{item_schema, no_schema}
use Rattle.keep_sqlite.specs.Rows.{held_items, items_of, where_tables, HoldsItems, MayHold, MayMake}

not_none : no_schema ≡ item_schema → ⊥
not_none e = let tables = ap (λ (s : Schema). s.tables) e in absurd (let e = tables in cc)

-- the items of a database that holds items
pub held_is : (db : Database) → HoldsItems db → held_items db ≡ items_of db
held_is db holds = ap (λ (s : Schema). where_tables s.tables (items_of db)) holds.schema

pub held_none : (db : Database) → db.schema ≡ no_schema → held_items db ≡ []
held_none db none = ap (λ (s : Schema). where_tables s.tables (items_of db)) none

pub same_items : (has_opened : Bool) (old new : Database) → MayMake old new → MayHold has_opened old → held_items new ≡ held_items old
same_items b old new (inl same) may = ap held_items same
same_items b old new (inr made) (inl holds) = absurd (not_none (sym made.0 ∙ holds.schema))
same_items b old new (inr made) (inr blank) = held_is new made.1 ∙ made.2 ∙ sym (held_none old blank.1)

-- what is held behind an `open` was held before it
pub held_before : (was is : Bool) (old new : Database) → MayMake old new → (IsTrue was → HoldsItems old) → MayHold is new → MayHold was old
held_before true is old new made kept may = inl (kept refl)
held_before false is old new (inl same) kept (inl holds) = inl (subst HoldsItems same holds)
held_before false is old new (inl same) kept (inr blank) = inr (refl, sym (ap (λ (d : Database). d.schema) same) ∙ blank.1)
held_before false is old new (inr made) kept may = inr (refl, made.0)

-- what a batch did to the items it did to those that are told
pub put_told : (old new : Database) (batch : List Put) → HoldsItems old → HoldsItems new → items_of new ≡ put_all (items_of old) batch → held_items new ≡ put_all (held_items old) batch
put_told old new batch had has put = held_is new has ∙ put ∙ ap (λ items. put_all items batch) (sym (held_is old had))
