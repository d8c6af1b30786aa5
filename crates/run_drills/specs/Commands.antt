-- The commands of a drill, in rounds over its Things. Each is at the moment 1000.
use Rattle.std.specs.Prelude.{ℕ, List, [], ◌∷◌, ◌++◌, flat_map, codes}
use Rattle.std.specs.List.{range_with_len}
use Rattle.mud_base.specs.declared.addr.Addr.TheVariants.{V4}
use Rattle.table_model.specs.declared.bind.Class.TheVariants.{Uri}
use Rattle.usage_tables.specs.declared.approval.OperatorVerdict.TheVariants.{Waived}
use Rattle.usage_tables.specs.Held.{digest_of}
use Rattle.desk_model.specs.declared.command.Command.{Command}
use Rattle.desk_model.specs.declared.command.Command.TheVariants.{HearUrl, HearLease, Import, Verdict, Bind, Observe}
use Rattle.run_drills.specs.declared.commands.Round.{Round}
use Rattle.run_drills.specs.declared.commands.Round.TheVariants.{Announcements, Leases, Files, Hosts}
use Rattle.run_drills.specs.Network.{thing_count, file_count, mac_of, lease_of, usage_url, host_text, host_address, dns_address}
use Rattle.run_drills.specs.Usage.{usage_text}

-- the moment of the commands
abbrev pub command_moment : ℕ
command_moment = 1000

-- a DHCP server gives it its address for a day
unfoldable pub lease : ℕ → Command
lease thing = HearLease (mac_of thing) (V4 (lease_of thing)) 86400

-- the usage file of its model is fetched,
unfoldable pub fetched_file : ℕ → Command
fetched_file thing = Import (usage_text thing) command_moment

-- and approved without a signature
unfoldable pub approval : ℕ → Command
approval thing = Verdict (usage_url thing) (digest_of (usage_text thing)) Waived

-- the host of the Thing's model is observed at its address, for an hour
unfoldable pub observation : ℕ → Command
observation thing = Observe (host_text thing) (V4 (host_address thing)) 3600

-- what a round does for one Thing; in the first it announces the URL of its model
abbrev pub commands_of : Round → ℕ → List Command
commands_of Announcements thing = (HearUrl (mac_of thing) (usage_url thing)) ∷ []
commands_of Leases thing = lease thing ∷ []
commands_of Files thing = fetched_file thing ∷ approval thing ∷ []
commands_of Hosts thing = observation thing ∷ []

-- a round over the Things from 1 on, so many
unfoldable pub round_commands : Round → ℕ → List Command
round_commands round count = flat_map (commands_of round) (range_with_len 1 count)

-- All commands of a drill with so many packets: every Thing announces its URL, and then gets its lease. Then come the usage files
-- of the models, the binding of the DNS server to its class (RFC 8520, 4.6), and the hosts.
unfoldable pub drill_commands : ℕ → List Command
drill_commands packets =
    round_commands Announcements (thing_count packets)
    ++ round_commands Leases (thing_count packets)
    ++ round_commands Files (file_count packets)
    ++ ((Bind (Uri (codes "urn:ietf:params:mud:dns")) (V4 dns_address)) ∷ [])
    ++ round_commands Hosts (file_count packets)
