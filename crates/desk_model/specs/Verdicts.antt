-- What rules on the packets of Things, and the verdict on a frame.
use Rattle.std.specs.Prelude.{ℕ, List, Option, if◌then◌else◌}
use Rattle.mud_base.specs.declared.packet.Direction.{Direction}
use Rattle.mud_base.specs.declared.packet.Fields.{Fields}
use Rattle.acl_model.specs.declared.binding.Binding.{Binding}
use Rattle.acl_model.specs.declared.entry.Policy.{Policy}
use Rattle.acl_model.specs.declared.ruling.Ruling.{Ruling}
use Rattle.acl_model.specs.declared.ruling.Ruling.TheVariants.{DropHeld}
use Rattle.acl_model.specs.Policies.{UrlPolicy}
use Rattle.table_model.specs.declared.thing.Thing.{Thing}
use Rattle.table_model.specs.declared.segment.Segment.{Segment}
use Rattle.table_model.specs.Tables.{ruling_of}
use Rattle.table_model.specs.Bindings.{bindings_of}
use Rattle.usage_tables.specs.Policies.{policy_of, policies_of}
use Rattle.packet_judge.specs.declared.verdict.Verdict.{Verdict}
use Rattle.packet_judge.specs.Verdicts.{rulings_of, verdict_of}
use Rattle.desk_model.specs.DeskTables.{DeskTables}

-- the policy of a URL: the entries of its approved file, and None where no file of it is approved
unfoldable pub policy_at : DeskTables → List ℕ → Option Policy
policy_at desk url = policy_of desk.files url

-- those of all approved files, in the order of their URLs
unfoldable pub policies : DeskTables → List UrlPolicy
policies desk = policies_of desk.files

-- the bindings of the leases, of the classes and of the names
unfoldable pub desk_bindings : DeskTables → List Binding
desk_bindings desk = bindings_of desk.tables

-- The ruling on a packet that the Thing sends (side From) or that is for it (side To): dropped where the operator holds the
-- Thing, and else by the approved file of its URL and by the defaults.
unfoldable pub ruling_at : DeskTables → ℕ → Direction → Thing → Fields → Option Direction → Ruling
ruling_at desk now side thing fields begun =
    if thing.held then DropHeld
    else ruling_of desk.tables now thing.url (policy_at desk thing.url) side fields begun

-- The verdict on a frame at a moment, by the TCP packets with a ruling that were forwarded before.
unfoldable pub verdict_at : DeskTables → List Segment → ℕ → List ℕ → Verdict
verdict_at desk history now frame = verdict_of (rulings_of desk.tables (policy_at desk) history now) desk.tables.things frame
