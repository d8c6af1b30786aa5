-- Parts of definitions that lemmas speak of.
use Rattle.std.specs.Prelude.{ℕ, Bool, not, List, [], option_to_list, ◌++◌, codes, false, true}
use Rattle.packet_judge.specs.declared.verdict.Verdict.{Verdict}
use Rattle.packet_judge.specs.Verdicts.{forwarded}
use Rattle.packet_judge.specs.declared.verdict.Verdict.TheVariants.{Governed, Unreadable, Unmanaged, Link}
use Rattle.acl_model.specs.declared.ruling.Ruling.{Ruling}
use Rattle.desk_model.specs.declared.command.Command.TheVariants.{Bind}
use Rattle.desk_model.specs.declared.command.Command.{Command}
use Rattle.table_model.specs.declared.bind.Class.TheVariants.{Uri}
use Rattle.mud_base.specs.declared.addr.Addr.TheVariants.{V4}
use Rattle.run_drills.specs.Network.{dns_address}
use Rattle.acl_model.specs.declared.ruling.Ruling.TheVariants.{Accept, AcceptDefault, Drop, DropDefault}
use Rattle.acl_model.specs.declared.ruling.DefaultRule.TheVariants.{Dns, Ntp}
use Rattle.acl_model.specs.declared.ruling.Why.TheVariants.{NoFile, NoMatch}

abbrev pub is_dropped : Verdict → Bool
is_dropped verdict = not (forwarded verdict)

abbrev pub rulings_in : Verdict → List Ruling
rulings_in (Governed source destination) = option_to_list source ++ option_to_list destination
rulings_in Unmanaged = []
rulings_in Link = []
rulings_in (Unreadable part) = []

abbrev pub dns_class : List ℕ
dns_class = codes "urn:ietf:params:mud:dns"

abbrev pub binding : Command
binding = Bind (Uri dns_class) (V4 dns_address)

abbrev pub is_accept : Ruling → Bool
is_accept (Accept number) = true
is_accept _ = false

abbrev pub is_default_dns : Ruling → Bool
is_default_dns (AcceptDefault Dns) = true
is_default_dns _ = false

abbrev pub is_default_ntp : Ruling → Bool
is_default_ntp (AcceptDefault Ntp) = true
is_default_ntp _ = false

abbrev pub is_drop_entry : Ruling → Bool
is_drop_entry (Drop number) = true
is_drop_entry _ = false

abbrev pub is_no_file : Ruling → Bool
is_no_file (DropDefault NoFile) = true
is_no_file _ = false

abbrev pub is_no_match : Ruling → Bool
is_no_match (DropDefault NoMatch) = true
is_no_match _ = false
