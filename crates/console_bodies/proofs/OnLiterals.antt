-- What a proof unfolds to compute bodies that are written out.
use Rattle.std.specs.Prelude.{⊤}
use Rattle.std.specs.Str.{is_utf8, chars}
use Rattle.serde_json.proofs.OnLiterals.{serde_json_on_literals}
use Rattle.mud_base.proofs.OnLiterals.{texts_on_literals}
use Rattle.mud_url.proofs.OnLiterals.{url_on_literals}
use Rattle.dhcp_lldp.proofs.OnLiterals.{messages_on_literals}
use Rattle.dhcp_lldp.specs.Lldp.{lldp_of}
use Rattle.mud_base.specs.Readings.{answer, done, ◌>>=◌, refused_where, wanted, over}
use Rattle.table_model.specs.Binds.{is_class_uri}
use Rattle.console_bodies.specs.Members.{name_of}
use Rattle.usage_walk.specs.Json.{value_in}
use Rattle.console_bodies.specs.Objects.{object_of, member_in, text_in, number_in}
use Rattle.console_bodies.specs.Values.{meant, mac_at, address_at, url_at, name_at, digest_at, number_at, next_prefix, prefixes_of, prefixes_at}
use Rattle.console_bodies.specs.Statements.{uri_class, own_class, own_alone, class_at, text_of, verdict_in, state_verdict, command_at}
use Rattle.console_bodies.specs.Bodies.{heard_command, stated_body, body_of}

unfoldable pub bodies_on_literals : ⊤
unfolding is_utf8 chars serde_json_on_literals texts_on_literals url_on_literals messages_on_literals lldp_of answer done ◌>>=◌ refused_where wanted over is_class_uri name_of value_in object_of member_in text_in number_in meant mac_at address_at url_at name_at digest_at number_at next_prefix prefixes_of prefixes_at uri_class own_class own_alone class_at text_of verdict_in command_at state_verdict heard_command stated_body body_of
bodies_on_literals = tt
