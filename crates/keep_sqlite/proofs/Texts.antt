-- What the texts of the statements are.
use Rattle.std.proofs.Common.{◌≡◌, pos, negsuc, [], ◌∷◌, codes, false, Some, None, Ok, refl}
use Rattle.sqlite.specs.declared.types.Value.TheVariants.{Null, Int}
use Rattle.sqlite.specs.Term.{lit, col, op2}
use Rattle.sqlite.specs.Query.{Query, inner, end}
use Rattle.sqlite.specs.Collation.TheVariants.{Binary}
use Rattle.sqlite.specs.Command.TheVariants.{InsertOr, Delete, Select, CreateTable}
use Rattle.sqlite.specs.Compile.{table_defined_by}
use Rattle.sqlite.specs.Listing.{understood, reads_listing}
use Rattle.sqlite.proofs.Callers.{IsPlain, command_of, statement_of}
use Rattle.sqlite_sql.specs.declared.ops.BinaryOp.TheVariants.{Compare}
use Rattle.sqlite_sql.specs.declared.ops.CompareOp.TheVariants.{Eq}
use Rattle.sqlite_schema.specs.declared.command.Source.TheVariants.{Values}
use Rattle.sqlite_schema.specs.declared.command.Conflict.TheVariants.{Abort}
use Rattle.sqlite_schema.specs.declared.command.Upsert.{Upsert}
use Rattle.sqlite_value.specs.Keys.{ascending}
use Rattle.sqlite_tied.specs.Compute.{everything}
use Rattle.keep_sqlite.specs.Table.{item_table, no_schema, item_schema}
pub use Rattle.keep_sqlite.specs.Refused.{create_text, ids_text, select_text, upsert_text, delete_text}

-- ---- CREATE

pub create_is : (command_of (understood no_schema create_text) ≡ CreateTable) × (statement_of create_text (understood no_schema create_text) ≡ create_text) × (table_defined_by create_text ≡ Ok item_table)
unfolding understood everything
create_is = (refl, refl, refl)

pub create_plain : IsPlain (understood no_schema create_text)
unfolding understood everything
create_plain = (refl, refl)

-- ---- the selection

abbrev pub select_query : Query
select_query = record {
  from = inner 0 end;
  filter = [];
  group = None;
  project = col 1 1 ∷ col 1 2 ∷ col 1 3 ∷ [];
  distinct = false;
  collations = [];
  order = (col 1 1, ascending Binary) ∷ (col 1 2, ascending Binary) ∷ [];
  limit = lit (Int (negsuc 0));
  offset = lit (Int (pos 0));
}

pub select_is : (command_of (understood item_schema select_text) ≡ Select (record { lets = []; body = select_query }) (codes "kind" ∷ codes "name" ∷ codes "body" ∷ [])) × (reads_listing item_schema select_text ≡ false)
unfolding understood everything
select_is = (refl, refl)

pub select_plain : IsPlain (understood item_schema select_text)
unfolding understood everything
select_plain = (refl, refl)

-- ---- the rowids

abbrev pub ids_query : Query
ids_query = record {
  from = inner 0 end;
  filter = [];
  group = None;
  project = col 1 0 ∷ [];
  distinct = false;
  collations = [];
  order = (col 1 0, ascending Binary) ∷ [];
  limit = lit (Int (negsuc 0));
  offset = lit (Int (pos 0));
}

pub ids_is : (command_of (understood item_schema ids_text) ≡ Select (record { lets = []; body = ids_query }) (codes "rowid" ∷ [])) × (reads_listing item_schema ids_text ≡ false)
unfolding understood everything
ids_is = (refl, refl)

pub ids_plain : IsPlain (understood item_schema ids_text)
unfolding understood everything
ids_plain = (refl, refl)

-- ---- the deletion

abbrev pub delete_query : Query
delete_query = record {
  from = inner 0 end;
  filter = op2 (Compare Eq Binary) (col 1 1) (col 0 0) ∷ op2 (Compare Eq Binary) (col 1 2) (col 0 1) ∷ [];
  group = None;
  project = col 1 0 ∷ [];
  distinct = false;
  collations = [];
  order = [];
  limit = lit (Int (negsuc 0));
  offset = lit (Int (pos 0));
}

pub delete_is : command_of (understood item_schema delete_text) ≡ Delete 0 (record { lets = []; body = delete_query })
unfolding understood everything
delete_is = refl

pub delete_plain : IsPlain (understood item_schema delete_text)
unfolding understood everything
delete_plain = (refl, refl)

-- ---- the insertion, or the change of the row that is there

abbrev pub update_query : Query
update_query = record {
  from = inner 0 end;
  filter = op2 (Compare Eq Binary) (col 1 0) (col 0 3) ∷ [];
  group = None;
  project = col 1 0 ∷ col 1 0 ∷ col 1 1 ∷ col 1 2 ∷ col 0 7 ∷ [];
  distinct = false;
  collations = [];
  order = [];
  limit = lit (Int (negsuc 0));
  offset = lit (Int (pos 0));
}

abbrev pub upsert_clause : Upsert
upsert_clause = record { target = Some (1 ∷ 2 ∷ []); update = Some (record { lets = []; body = update_query }) }

pub upsert_is : command_of (understood item_schema upsert_text) ≡ InsertOr 0 Abort (Values (lit Null ∷ col 0 0 ∷ col 0 1 ∷ col 0 2 ∷ []) 4) (upsert_clause ∷ [])
unfolding understood everything
upsert_is = refl

pub upsert_plain : IsPlain (understood item_schema upsert_text)
unfolding understood everything
upsert_plain = (refl, refl)
