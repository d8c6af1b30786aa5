-- The change that a plan is: its word, its expiry and its rows, with the puts and the bindings that follow from the
-- rows.
use Rattle.std.specs.Prelude.{◌<◌, ◌^◌, List, length}
use Rattle.item_codec.specs.Kinds.{thing_kind}
use Rattle.mud_world.specs.Items.{puts_of}
use Rattle.table_model.specs.declared.thing.Thing.{Thing}
use Rattle.table_model.specs.Things.{mac_of}
use Rattle.table_model.specs.ThingItems.{thing_item}
use Rattle.table_model.specs.Bindings.{thing_bindings}
use Rattle.table_model.specs.BindingChanges.{gone_of, come_of}
use Rattle.thing_book.specs.declared.plan.Plan.{Plan}
use Rattle.thing_book.specs.Planned.{PlannedThings}

unfoldable pub change_of : List Thing → Plan → PlannedThings
change_of things plan = record {
  word = plan.word;
  until = plan.until;
  rows = plan.rows;
  puts = puts_of thing_kind thing_item plan.rows;
  gone = gone_of mac_of thing_bindings plan.rows things;
  come = come_of mac_of thing_bindings plan.rows things;
}

-- the count of the leases fits its field
abbrev pub HasFewLeases : Thing → Type 0
HasFewLeases thing = length thing.leases < 2 ^ 16
