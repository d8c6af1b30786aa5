-- Where there was no database file, or an empty one, there is no table.
use Rattle.std.proofs.Common.{◌≡◌, arith, inl, inr, ◌<◌, List, [], ◌∷◌, length, refl, subst}
use Rattle.std.specs.List.{AllZip}
use Rattle.sqlite_trees.specs.Tree.{Trees}
use Rattle.sqlite_trees.specs.Objects.{catalog_tree}
use Rattle.sqlite_schema.specs.declared.schema.Table.{Table}
use Rattle.sqlite_schema.specs.declared.schema.View.{View}
use Rattle.sqlite_schema.specs.declared.schema.Index.{Index}
use Rattle.sqlite_catalog.specs.Listing.{IsIndexRow, IsTableRow, IsViewRow, Lists}
use Rattle.sqlite.specs.Schema.{Schema}
use Rattle.sqlite.specs.Effect.{Database, IsDatabase}
use Rattle.sqlite.specs.Recovery.{Image}
use Rattle.sqlite.specs.Files.{AreFoundIn, IsEmpty}
use Rattle.keep_sqlite.specs.Table.{no_schema}

-- what is recovered needs a database file
pub empty_found : (image : Image) (db : Trees) → image.db ≡ [] → AreFoundIn image db → IsEmpty db
empty_found image db none (inl found) = absurd (let present = subst (λ file. 0 < length file) none found.3.found.present in omega (arith, present))
empty_found image db none (inr nothing) = nothing.1

zipped_none : {A B : Type 0} (P : A → B → Type 0) (bs : List B) → AllZip P [] bs → bs ≡ []
zipped_none P [] zipped = refl
zipped_none P (b ∷ bs) zipped = absurd zipped

same_schema : (t : List Table) (i : List Index) (v : List View) → t ≡ [] → i ≡ [] → v ≡ [] → record { tables = t; indexes = i; views = v } ≡ no_schema
same_schema t i v tables indexes views = rw (tables, indexes, views) refl

lists_none : (schema : Schema) → Lists [] schema → schema ≡ no_schema
lists_none schema lists =
    same_schema schema.tables schema.indexes schema.views (zipped_none IsTableRow schema.tables lists.listed.tables)
    (zipped_none (IsIndexRow schema.tables) schema.indexes lists.listed.indexes) (zipped_none IsViewRow schema.views lists.listed.views)

pub empty_schema : (db : Database) → IsDatabase db → db.trees catalog_tree ≡ [] → db.schema ≡ no_schema
empty_schema db sound none = lists_none db.schema (subst (λ rows. Lists rows db.schema) none sound.lists)
