-- What decides a frame.
use Rattle.std.specs.Prelude.{ℕ, List, ◌++◌, codes, Option, Some, None}
use Rattle.frame_view.specs.Frame.{frame_of}
use Rattle.packet_judge.specs.declared.verdict.Verdict.{Verdict}
use Rattle.desk_model.specs.DeskTables.{DeskTables}
use Rattle.desk_model.specs.Verdicts.{policy_at}
use Rattle.desk_model.specs.Findings.{Found, source_found, destination_found}
use Rattle.console_listings.specs.Why.{entry_number, entry_text, mac_member, ruling_member, verdict_end}
use Rattle.console_listings.specs.Rows.{url_end}

-- null where an endpoint is no Thing, and where nothing is decided
unfoldable pub endpoint_text : Option Found → List ℕ
endpoint_text None = codes "null"
endpoint_text (Some found) = entry_text (entry_number found.ruling) found.entry ++ mac_member found.thing.mac ++ ruling_member found.ruling ++ url_end found.thing.url

unfoldable pub endpoints_text : Option Found → Option Found → Verdict → List ℕ
endpoints_text source destination verdict = codes "{\"from\":" ++ endpoint_text source ++ codes ",\"to\":" ++ endpoint_text destination ++ verdict_end verdict

-- what decides a frame at the endpoint that sent it, at the one that it is for, and in all
unfoldable pub why_text : DeskTables → List ℕ → Verdict → List ℕ
why_text desk frame verdict =
    endpoints_text (source_found (policy_at desk) desk.tables.things (frame_of frame) verdict)
    (destination_found (policy_at desk) desk.tables.things (frame_of frame) verdict) verdict
