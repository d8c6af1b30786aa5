-- What is listed.
use Rattle.std.specs.Prelude.{ℕ, List, codes}
use Rattle.console_routes.specs.declared.action.Listing.{Listing}
use Rattle.console_routes.specs.declared.action.Listing.TheVariants.{Things, Files, Classes, Locals, Names, Due}
use Rattle.usage_tables.specs.Due.{due_urls}
use Rattle.desk_model.specs.DeskTables.{DeskTables}
use Rattle.console_listings.specs.Rows.{cached_text, class_text, name_text, network_text, thing_text}
use Rattle.console_listings.specs.Lists.{listing_body}
use Rattle.json.specs.Print.{quoted}

-- the rows of the desk at a moment, which counts for what is due alone
unfoldable pub listing_text : Listing → DeskTables → ℕ → List ℕ
listing_text Things desk now = listing_body thing_text (codes "things") desk.tables.things
listing_text Files desk now = listing_body cached_text (codes "files") desk.files
listing_text Classes desk now = listing_body class_text (codes "classes") desk.tables.classes
listing_text Locals desk now = listing_body network_text (codes "locals") desk.tables.locals
listing_text Names desk now = listing_body name_text (codes "names") desk.tables.names
listing_text Due desk now = listing_body quoted (codes "due") (due_urls now desk.files)
