-- Parts of definitions that lemmas speak of.
use Rattle.std.specs.Prelude.{ℕ, Err, List, None, Ok, Result, Some, [], ◌∷◌, Option, codes, if◌then◌else◌}
use Rattle.mud_world.specs.declared.item.Item.{Item}
use Rattle.desk_model.specs.Items.{KeptDesk, desk_of}
use Rattle.desk_model.specs.DeskTables.{DeskTables}
use Rattle.desk_model.specs.Sessions.{Answered, Session, Judged}
use Rattle.desk_model.specs.Commands.{DeskStep}
use Rattle.desk_model.specs.declared.reply.Reply.TheVariants.{Done, Refused}
use Rattle.packet_judge.specs.declared.verdict.Verdict.{Verdict}
use Rattle.frame_view.specs.Frame.{frame_of}
use Rattle.packet_judge.specs.Verdicts.{history_after, forwarded}
use Rattle.table_model.specs.TakenItems.{is_empty, with_item}
use Rattle.usage_tables.specs.FileItems.{with_file_item}
use Rattle.acl_model.specs.declared.ruling.Why.TheVariants.{NoFile, NoMatch}
use Rattle.acl_model.specs.declared.ruling.Why.{Why}
use Rattle.acl_model.specs.declared.ruling.DefaultRule.{DefaultRule}
use Rattle.acl_model.specs.declared.ruling.DefaultRule.TheVariants.{Dns, Ntp}

abbrev pub desk_in : Result KeptDesk Item → Result DeskTables Item
desk_in (Ok kept) = Ok (desk_of kept)
desk_in (Err item) = Err item

abbrev pub answered : Session → ℕ → DeskStep → Answered
answered session now (Ok after) = record { reply = Done after.outcome; session = record { desk = after.desk; history = session.history; moment = now } }
answered session now (Err refusal) = record { reply = Refused refusal; session = session }

abbrev pub judged : Session → ℕ → List ℕ → Verdict → Judged
judged session now frame verdict = record { verdict = verdict; session = record { desk = session.desk; history = history_after session.history (frame_of frame) verdict now; moment = now } }

abbrev pub with_desk_item : KeptDesk → Item → Option KeptDesk
with_desk_item kept item = with_item with_file_item is_empty kept item

abbrev pub kept_in : KeptDesk → List Item → Result KeptDesk Item
kept_in kept [] = Ok kept
kept_in kept (item ∷ items) = elim (with_desk_item kept item) [ Some next ↦ kept_in next items | None ↦ Err item ]

abbrev pub why_name : Why → List ℕ
why_name NoFile = codes "drop:no-file"
why_name NoMatch = codes "drop:no-match"

abbrev pub passing_text : Verdict → List ℕ
passing_text verdict = if forwarded verdict then codes "pass" else codes "drop"

abbrev pub default_name : DefaultRule → List ℕ
default_name Dns = codes "default-dns"
default_name Ntp = codes "default-ntp"
