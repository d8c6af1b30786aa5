-- The output of `export` for a Thing.
use Rattle.std.specs.Prelude.{◌≡◌, ℕ, codes, Option, Some, None, [], ◌∷◌}
use Rattle.mud_base.specs.declared.addr.Mac.{Mac}
use Rattle.table_model.specs.declared.thing.Thing.{Thing}
use Rattle.table_model.specs.Things.{thing_at}
use Rattle.mud_world.specs.Door.{DoorState, put_out}
use Rattle.desk_model.specs.DeskTables.{DeskTables}
use Rattle.run_common.specs.Output.{Output, WroteFirst}
use Rattle.run_common.specs.Moments.{listing_moment}
use Rattle.run_common.specs.Status.{IsOneOf, status_number}
use Rattle.run_common.specs.declared.status.Status.TheVariants.{Done, Refused, DoorFailed, NoMemory}
use Rattle.run_reports.specs.Export.Lists.{lists_text}

-- of the Thing of a hardware address, at the later of the moment of the last change and of that which the clock gave
unfoldable pub export_output : Mac → ℕ → DeskTables → Output
export_output mac clock desk = output_of desk (listing_moment desk.stamp (Some clock)) (thing_at mac desk.tables.things)
  where
    -- the Thing's lists at a moment, with 0; where there is no such Thing, a fault, with 3
    output_of : DeskTables → ℕ → Option Thing → Output
    output_of desk moment None = record { text = codes "fault NoThing\n"; status = status_number Refused }
    output_of desk moment (Some thing) = record { text = lists_text desk moment thing; status = status_number Done }

-- The output was written with 0 and 3, and with 4 and 5 a first part of it.
pub record WritesLists (output : Output) (old new : DoorState) (status : ℕ) : Type 0 where
  pub status_is : IsOneOf (Done ∷ Refused ∷ []) status → status ≡ output.status
  pub done : IsOneOf (Done ∷ Refused ∷ []) status → new ≡ put_out output.text old
  pub part : IsOneOf (DoorFailed ∷ NoMemory ∷ []) status → WroteFirst output.text old new
