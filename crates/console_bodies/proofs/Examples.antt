-- What bodies state, worked out: each member missing, of another kind, outside its grammar or range, and a member that
-- nobody asks for.
use Rattle.std.proofs.Common.{◌≡◌, ℕ, List, [], ◌∷◌, Ok, Err, Result, map, refl}
use Rattle.std.specs.Prelude.{codes}
use Rattle.mud_base.specs.declared.addr.Mac.{Mac}
use Rattle.mud_base.specs.declared.addr.Addr.TheVariants.{V4, V6}
use Rattle.table_model.specs.declared.bind.Class.TheVariants as class
use Rattle.usage_tables.specs.declared.approval.OperatorVerdict.TheVariants.{Waived}
use Rattle.serde_json.specs.Data.{Data, null, string}
use Rattle.usage_walk.proofs.Written.{num, list, obj}
use Rattle.mud_base.specs.Readings.{answer}
use Rattle.desk_model.specs.declared.command.Command.{Command}
use Rattle.desk_model.specs.declared.command.Command.TheVariants as command
use Rattle.console_routes.specs.declared.action.Statement.{Statement}
use Rattle.console_routes.specs.declared.action.Statement.TheVariants as statement
use Rattle.console_routes.specs.declared.action.Listing.TheVariants as listing
use Rattle.console_routes.specs.declared.action.Action.TheVariants as action
use Rattle.dhcp_lldp.specs.declared.heard.HearFault.TheVariants as message
use Rattle.console_bodies.specs.declared.fault.BodyFault.{BodyFault}
use Rattle.console_bodies.specs.declared.fault.BodyFault.TheVariants as fault
use Rattle.console_bodies.specs.declared.member.Member.TheVariants as members
use Rattle.console_bodies.specs.declared.asked.Asked.TheVariants as asked
use Rattle.console_bodies.specs.Statements.{command_at}
use Rattle.console_bodies.specs.Bodies.{body_of}
use Rattle.console_bodies.proofs.OnLiterals.{bodies_on_literals}

abbrev txt : List ℕ → Data
txt s = string s

abbrev mac_of_octets : ℕ → Mac
mac_of_octets last = record { 0 = 2 ∷ 0 ∷ 0 ∷ 0 ∷ 0 ∷ last ∷ [] }

-- what an object with these members states
abbrev said : Statement → List (List ℕ × Data) → Result Command BodyFault
said s fields = answer (command_at s (obj fields))

move_table : map (said statement.Move) (
    ((codes "mac", txt (codes "02:00:00:00:00:01")) ∷ (codes "url", txt (codes "https://A")) ∷ []) ∷
    ((codes "mac", txt (codes "02:00:00:00:00:01")) ∷ (codes "url", txt (codes "https://A")) ∷ (codes "x", null) ∷ []) ∷
    ((codes "url", txt (codes "https://A")) ∷ []) ∷
    ((codes "mac", null) ∷ (codes "url", txt (codes "https://A")) ∷ []) ∷
    ((codes "mac", num 2) ∷ (codes "url", txt (codes "https://A")) ∷ []) ∷
    ((codes "mac", txt (codes "02:00:00:00:00:0")) ∷ (codes "url", txt (codes "https://A")) ∷ []) ∷
    ((codes "mac", txt (codes "02-00-00-00-00-01")) ∷ (codes "url", txt (codes "https://A")) ∷ []) ∷
    ((codes "mac", txt (codes "02:00:00:00:00:01")) ∷ []) ∷
    ((codes "mac", txt (codes "02:00:00:00:00:01")) ∷ (codes "url", null) ∷ []) ∷
    ((codes "mac", txt (codes "02:00:00:00:00:01")) ∷ (codes "url", txt (codes "http://a")) ∷ []) ∷
    ((codes "mac", txt (codes "02:00:00:00:00:01")) ∷ (codes "url", txt []) ∷ []) ∷
    [] ∷
    [])
    ≡
    Ok (command.Move (mac_of_octets 1) (codes "https://a/")) ∷
    Ok (command.Move (mac_of_octets 1) (codes "https://a/")) ∷
    Err (fault.Member members.Mac) ∷
    Err (fault.Member members.Mac) ∷
    Err (fault.Member members.Mac) ∷
    Err (fault.Member members.Mac) ∷
    Err (fault.Member members.Mac) ∷
    Err (fault.Member members.Url) ∷
    Err (fault.Member members.Url) ∷
    Err (fault.Member members.Url) ∷
    Err (fault.Member members.Url) ∷
    Err (fault.Member members.Mac) ∷
    []
unfolding bodies_on_literals
move_table = refl

remove_table : map (said statement.Remove) (
    ((codes "mac", txt (codes "02:00:00:00:00:01")) ∷ []) ∷
    ((codes "mac", txt (codes "02:00:00:00:00:01")) ∷ (codes "x", null) ∷ []) ∷
    [] ∷
    ((codes "mac", null) ∷ []) ∷
    ((codes "mac", num 2) ∷ []) ∷
    ((codes "mac", txt (codes "02:00:00:00:00:0")) ∷ []) ∷
    ((codes "mac", txt (codes "02-00-00-00-00-01")) ∷ []) ∷
    [] ∷
    [])
    ≡
    Ok (command.Remove (mac_of_octets 1)) ∷
    Ok (command.Remove (mac_of_octets 1)) ∷
    Err (fault.Member members.Mac) ∷
    Err (fault.Member members.Mac) ∷
    Err (fault.Member members.Mac) ∷
    Err (fault.Member members.Mac) ∷
    Err (fault.Member members.Mac) ∷
    Err (fault.Member members.Mac) ∷
    []
unfolding bodies_on_literals
remove_table = refl

hold_table : map (said statement.Hold) (
    ((codes "mac", txt (codes "02:00:00:00:00:01")) ∷ []) ∷
    ((codes "mac", txt (codes "02:00:00:00:00:01")) ∷ (codes "x", null) ∷ []) ∷
    [] ∷
    ((codes "mac", null) ∷ []) ∷
    ((codes "mac", num 2) ∷ []) ∷
    ((codes "mac", txt (codes "02:00:00:00:00:0")) ∷ []) ∷
    ((codes "mac", txt (codes "02-00-00-00-00-01")) ∷ []) ∷
    [] ∷
    [])
    ≡
    Ok (command.Hold (mac_of_octets 1)) ∷
    Ok (command.Hold (mac_of_octets 1)) ∷
    Err (fault.Member members.Mac) ∷
    Err (fault.Member members.Mac) ∷
    Err (fault.Member members.Mac) ∷
    Err (fault.Member members.Mac) ∷
    Err (fault.Member members.Mac) ∷
    Err (fault.Member members.Mac) ∷
    []
unfolding bodies_on_literals
hold_table = refl

release_table : map (said statement.Release) (
    ((codes "mac", txt (codes "02:00:00:00:00:01")) ∷ []) ∷
    ((codes "mac", txt (codes "02:00:00:00:00:01")) ∷ (codes "x", null) ∷ []) ∷
    [] ∷
    ((codes "mac", null) ∷ []) ∷
    ((codes "mac", num 2) ∷ []) ∷
    ((codes "mac", txt (codes "02:00:00:00:00:0")) ∷ []) ∷
    ((codes "mac", txt (codes "02-00-00-00-00-01")) ∷ []) ∷
    [] ∷
    [])
    ≡
    Ok (command.Release (mac_of_octets 1)) ∷
    Ok (command.Release (mac_of_octets 1)) ∷
    Err (fault.Member members.Mac) ∷
    Err (fault.Member members.Mac) ∷
    Err (fault.Member members.Mac) ∷
    Err (fault.Member members.Mac) ∷
    Err (fault.Member members.Mac) ∷
    Err (fault.Member members.Mac) ∷
    []
unfolding bodies_on_literals
release_table = refl

lease_table : map (said statement.Lease) (
    ((codes "mac", txt (codes "02:00:00:00:00:01")) ∷ (codes "address", txt (codes "192.0.2.1")) ∷ (codes "seconds", num 4294967295) ∷ []) ∷
    ((codes "mac", txt (codes "02:00:00:00:00:01")) ∷ (codes "address", txt (codes "192.0.2.1")) ∷ (codes "seconds", num 4294967295) ∷ (codes "x", null) ∷ []) ∷
    ((codes "address", txt (codes "192.0.2.1")) ∷ (codes "seconds", num 4294967295) ∷ []) ∷
    ((codes "mac", null) ∷ (codes "address", txt (codes "192.0.2.1")) ∷ (codes "seconds", num 4294967295) ∷ []) ∷
    ((codes "mac", num 2) ∷ (codes "address", txt (codes "192.0.2.1")) ∷ (codes "seconds", num 4294967295) ∷ []) ∷
    ((codes "mac", txt (codes "02:00:00:00:00:0")) ∷ (codes "address", txt (codes "192.0.2.1")) ∷ (codes "seconds", num 4294967295) ∷ []) ∷
    ((codes "mac", txt (codes "02-00-00-00-00-01")) ∷ (codes "address", txt (codes "192.0.2.1")) ∷ (codes "seconds", num 4294967295) ∷ []) ∷
    ((codes "mac", txt (codes "02:00:00:00:00:01")) ∷ (codes "seconds", num 4294967295) ∷ []) ∷
    ((codes "mac", txt (codes "02:00:00:00:00:01")) ∷ (codes "address", num 1) ∷ (codes "seconds", num 4294967295) ∷ []) ∷
    ((codes "mac", txt (codes "02:00:00:00:00:01")) ∷ (codes "address", txt (codes "192.0.2.256")) ∷ (codes "seconds", num 4294967295) ∷ []) ∷
    ((codes "mac", txt (codes "02:00:00:00:00:01")) ∷ (codes "address", txt (codes "::1%0")) ∷ (codes "seconds", num 4294967295) ∷ []) ∷
    ((codes "mac", txt (codes "02:00:00:00:00:01")) ∷ (codes "address", txt (codes "192.0.2.1")) ∷ []) ∷
    ((codes "mac", txt (codes "02:00:00:00:00:01")) ∷ (codes "address", txt (codes "192.0.2.1")) ∷ (codes "seconds", null) ∷ []) ∷
    ((codes "mac", txt (codes "02:00:00:00:00:01")) ∷ (codes "address", txt (codes "192.0.2.1")) ∷ (codes "seconds", txt (codes "1")) ∷ []) ∷
    ((codes "mac", txt (codes "02:00:00:00:00:01")) ∷ (codes "address", txt (codes "192.0.2.1")) ∷ (codes "seconds", num 0) ∷ []) ∷
    ((codes "mac", txt (codes "02:00:00:00:00:01")) ∷ (codes "address", txt (codes "192.0.2.1")) ∷ (codes "seconds", num 4294967296) ∷ []) ∷
    [] ∷
    [])
    ≡
    Ok (command.Lease (mac_of_octets 1) (V4 3221225985) 4294967295) ∷
    Ok (command.Lease (mac_of_octets 1) (V4 3221225985) 4294967295) ∷
    Err (fault.Member members.Mac) ∷
    Err (fault.Member members.Mac) ∷
    Err (fault.Member members.Mac) ∷
    Err (fault.Member members.Mac) ∷
    Err (fault.Member members.Mac) ∷
    Err (fault.Member members.Address) ∷
    Err (fault.Member members.Address) ∷
    Err (fault.Member members.Address) ∷
    Err (fault.Member members.Address) ∷
    Err (fault.Member members.Seconds) ∷
    Err (fault.Member members.Seconds) ∷
    Err (fault.Member members.Seconds) ∷
    Err (fault.Member members.Seconds) ∷
    Err (fault.Member members.Seconds) ∷
    Err (fault.Member members.Mac) ∷
    []
unfolding bodies_on_literals
lease_table = refl

endlease_table : map (said statement.EndLease) (
    ((codes "address", txt (codes "192.0.2.1")) ∷ []) ∷
    ((codes "address", txt (codes "192.0.2.1")) ∷ (codes "x", null) ∷ []) ∷
    [] ∷
    ((codes "address", num 1) ∷ []) ∷
    ((codes "address", txt (codes "192.0.2.256")) ∷ []) ∷
    ((codes "address", txt (codes "::1%0")) ∷ []) ∷
    [] ∷
    [])
    ≡
    Ok (command.EndLease (V4 3221225985)) ∷
    Ok (command.EndLease (V4 3221225985)) ∷
    Err (fault.Member members.Address) ∷
    Err (fault.Member members.Address) ∷
    Err (fault.Member members.Address) ∷
    Err (fault.Member members.Address) ∷
    Err (fault.Member members.Address) ∷
    []
unfolding bodies_on_literals
endlease_table = refl

verdict_table : map (said statement.Verdict) (
    ((codes "url", txt (codes "https://A")) ∷ (codes "sha256", txt (codes "0123456789abcdef0123456789abcdef0123456789abcdef0123456789abcdef")) ∷ (codes "verdict", txt (codes "waived")) ∷ []) ∷
    ((codes "url", txt (codes "https://A")) ∷ (codes "sha256", txt (codes "0123456789abcdef0123456789abcdef0123456789abcdef0123456789abcdef")) ∷ (codes "verdict", txt (codes "waived")) ∷ (codes "x", null) ∷ []) ∷
    ((codes "sha256", txt (codes "0123456789abcdef0123456789abcdef0123456789abcdef0123456789abcdef")) ∷ (codes "verdict", txt (codes "waived")) ∷ []) ∷
    ((codes "url", null) ∷ (codes "sha256", txt (codes "0123456789abcdef0123456789abcdef0123456789abcdef0123456789abcdef")) ∷ (codes "verdict", txt (codes "waived")) ∷ []) ∷
    ((codes "url", txt (codes "http://a")) ∷ (codes "sha256", txt (codes "0123456789abcdef0123456789abcdef0123456789abcdef0123456789abcdef")) ∷ (codes "verdict", txt (codes "waived")) ∷ []) ∷
    ((codes "url", txt []) ∷ (codes "sha256", txt (codes "0123456789abcdef0123456789abcdef0123456789abcdef0123456789abcdef")) ∷ (codes "verdict", txt (codes "waived")) ∷ []) ∷
    ((codes "url", txt (codes "https://A")) ∷ (codes "verdict", txt (codes "waived")) ∷ []) ∷
    ((codes "url", txt (codes "https://A")) ∷ (codes "sha256", null) ∷ (codes "verdict", txt (codes "waived")) ∷ []) ∷
    ((codes "url", txt (codes "https://A")) ∷ (codes "sha256", txt (codes "123456789abcdef0123456789abcdef0123456789abcdef0123456789abcdef")) ∷ (codes "verdict", txt (codes "waived")) ∷ []) ∷
    ((codes "url", txt (codes "https://A")) ∷ (codes "sha256", txt (codes "0123456789abcdef0123456789abcdef0123456789abcdef0123456789abcdeF")) ∷ (codes "verdict", txt (codes "waived")) ∷ []) ∷
    ((codes "url", txt (codes "https://A")) ∷ (codes "sha256", txt (codes "0123456789abcdef0123456789abcdef0123456789abcdef0123456789abcdeg")) ∷ (codes "verdict", txt (codes "waived")) ∷ []) ∷
    ((codes "url", txt (codes "https://A")) ∷ (codes "sha256", txt (codes "0123456789abcdef0123456789abcdef0123456789abcdef0123456789abcdef")) ∷ []) ∷
    ((codes "url", txt (codes "https://A")) ∷ (codes "sha256", txt (codes "0123456789abcdef0123456789abcdef0123456789abcdef0123456789abcdef")) ∷ (codes "verdict", null) ∷ []) ∷
    ((codes "url", txt (codes "https://A")) ∷ (codes "sha256", txt (codes "0123456789abcdef0123456789abcdef0123456789abcdef0123456789abcdef")) ∷ (codes "verdict", txt (codes "Waived")) ∷ []) ∷
    [] ∷
    [])
    ≡
    Ok (command.Verdict (codes "https://a/") (codes "0123456789abcdef0123456789abcdef0123456789abcdef0123456789abcdef") Waived) ∷
    Ok (command.Verdict (codes "https://a/") (codes "0123456789abcdef0123456789abcdef0123456789abcdef0123456789abcdef") Waived) ∷
    Err (fault.Member members.Url) ∷
    Err (fault.Member members.Url) ∷
    Err (fault.Member members.Url) ∷
    Err (fault.Member members.Url) ∷
    Err (fault.Member members.Sha256) ∷
    Err (fault.Member members.Sha256) ∷
    Err (fault.Member members.Sha256) ∷
    Err (fault.Member members.Sha256) ∷
    Err (fault.Member members.Sha256) ∷
    Err (fault.Member members.Verdict) ∷
    Err (fault.Member members.Verdict) ∷
    Err (fault.Member members.Verdict) ∷
    Err (fault.Member members.Url) ∷
    []
unfolding bodies_on_literals
verdict_table = refl

revoke_table : map (said statement.Revoke) (
    ((codes "url", txt (codes "https://A")) ∷ []) ∷
    ((codes "url", txt (codes "https://A")) ∷ (codes "x", null) ∷ []) ∷
    [] ∷
    ((codes "url", null) ∷ []) ∷
    ((codes "url", txt (codes "http://a")) ∷ []) ∷
    ((codes "url", txt []) ∷ []) ∷
    [] ∷
    [])
    ≡
    Ok (command.Revoke (codes "https://a/")) ∷
    Ok (command.Revoke (codes "https://a/")) ∷
    Err (fault.Member members.Url) ∷
    Err (fault.Member members.Url) ∷
    Err (fault.Member members.Url) ∷
    Err (fault.Member members.Url) ∷
    Err (fault.Member members.Url) ∷
    []
unfolding bodies_on_literals
revoke_table = refl

bind_table : map (said statement.Bind) (
    ((codes "class", txt (codes "urn:x")) ∷ (codes "address", txt (codes "192.0.2.1")) ∷ []) ∷
    ((codes "class", txt (codes "urn:x")) ∷ (codes "address", txt (codes "192.0.2.1")) ∷ (codes "x", null) ∷ []) ∷
    ((codes "address", txt (codes "192.0.2.1")) ∷ []) ∷
    ((codes "class", null) ∷ (codes "address", txt (codes "192.0.2.1")) ∷ []) ∷
    ((codes "class", txt []) ∷ (codes "address", txt (codes "192.0.2.1")) ∷ []) ∷
    ((codes "class", txt (codes "urn: x")) ∷ (codes "address", txt (codes "192.0.2.1")) ∷ []) ∷
    ((codes "class", txt (codes "urn:x")) ∷ []) ∷
    ((codes "class", txt (codes "urn:x")) ∷ (codes "address", num 1) ∷ []) ∷
    ((codes "class", txt (codes "urn:x")) ∷ (codes "address", txt (codes "192.0.2.256")) ∷ []) ∷
    ((codes "class", txt (codes "urn:x")) ∷ (codes "address", txt (codes "::1%0")) ∷ []) ∷
    [] ∷
    [])
    ≡
    Ok (command.Bind (class.Uri (codes "urn:x")) (V4 3221225985)) ∷
    Ok (command.Bind (class.Uri (codes "urn:x")) (V4 3221225985)) ∷
    Err (fault.Member members.Class) ∷
    Err (fault.Member members.Class) ∷
    Err (fault.Member members.Class) ∷
    Err (fault.Member members.Class) ∷
    Err (fault.Member members.Address) ∷
    Err (fault.Member members.Address) ∷
    Err (fault.Member members.Address) ∷
    Err (fault.Member members.Address) ∷
    Err (fault.Member members.Class) ∷
    []
unfolding bodies_on_literals
bind_table = refl

unbind_table : map (said statement.Unbind) (
    ((codes "my-controller-of", txt (codes "https://A")) ∷ (codes "address", txt (codes "192.0.2.1")) ∷ []) ∷
    ((codes "my-controller-of", txt (codes "https://A")) ∷ (codes "address", txt (codes "192.0.2.1")) ∷ (codes "x", null) ∷ []) ∷
    ((codes "address", txt (codes "192.0.2.1")) ∷ []) ∷
    ((codes "my-controller-of", null) ∷ (codes "address", txt (codes "192.0.2.1")) ∷ []) ∷
    ((codes "my-controller-of", txt (codes "http://a")) ∷ (codes "address", txt (codes "192.0.2.1")) ∷ []) ∷
    ((codes "my-controller-of", txt []) ∷ (codes "address", txt (codes "192.0.2.1")) ∷ []) ∷
    ((codes "my-controller-of", txt (codes "https://A")) ∷ []) ∷
    ((codes "my-controller-of", txt (codes "https://A")) ∷ (codes "address", num 1) ∷ []) ∷
    ((codes "my-controller-of", txt (codes "https://A")) ∷ (codes "address", txt (codes "192.0.2.256")) ∷ []) ∷
    ((codes "my-controller-of", txt (codes "https://A")) ∷ (codes "address", txt (codes "::1%0")) ∷ []) ∷
    [] ∷
    [])
    ≡
    Ok (command.Unbind (class.Mine (codes "https://a/")) (V4 3221225985)) ∷
    Ok (command.Unbind (class.Mine (codes "https://a/")) (V4 3221225985)) ∷
    Err (fault.Member members.Class) ∷
    Err (fault.Member members.MyControllerOf) ∷
    Err (fault.Member members.MyControllerOf) ∷
    Err (fault.Member members.MyControllerOf) ∷
    Err (fault.Member members.Address) ∷
    Err (fault.Member members.Address) ∷
    Err (fault.Member members.Address) ∷
    Err (fault.Member members.Address) ∷
    Err (fault.Member members.Class) ∷
    []
unfolding bodies_on_literals
unbind_table = refl

locals_table : map (said statement.Locals) (
    ((codes "prefixes", list (txt (codes "192.0.2.1/24") ∷ txt (codes "::1/0") ∷ [])) ∷ []) ∷
    ((codes "prefixes", list (txt (codes "192.0.2.1/24") ∷ txt (codes "::1/0") ∷ [])) ∷ (codes "x", null) ∷ []) ∷
    [] ∷
    ((codes "prefixes", txt (codes "192.0.2.0/24")) ∷ []) ∷
    ((codes "prefixes", list (num 1 ∷ [])) ∷ []) ∷
    ((codes "prefixes", list (txt (codes "::/0") ∷ txt (codes "192.0.2.0/33") ∷ [])) ∷ []) ∷
    [] ∷
    [])
    ≡
    Ok (command.Locals (record { addr = V4 3221225984; len = 24 } ∷ record { addr = V6 0; len = 0 } ∷ [])) ∷
    Ok (command.Locals (record { addr = V4 3221225984; len = 24 } ∷ record { addr = V6 0; len = 0 } ∷ [])) ∷
    Err (fault.Member members.Prefixes) ∷
    Err (fault.Member members.Prefixes) ∷
    Err (fault.Member members.Prefixes) ∷
    Err (fault.Member members.Prefixes) ∷
    Err (fault.Member members.Prefixes) ∷
    []
unfolding bodies_on_literals
locals_table = refl

observe_table : map (said statement.Observe) (
    ((codes "name", txt (codes "A.Example.")) ∷ (codes "address", txt (codes "192.0.2.1")) ∷ (codes "ttl", num 2147483647) ∷ []) ∷
    ((codes "name", txt (codes "A.Example.")) ∷ (codes "address", txt (codes "192.0.2.1")) ∷ (codes "ttl", num 2147483647) ∷ (codes "x", null) ∷ []) ∷
    ((codes "address", txt (codes "192.0.2.1")) ∷ (codes "ttl", num 2147483647) ∷ []) ∷
    ((codes "name", null) ∷ (codes "address", txt (codes "192.0.2.1")) ∷ (codes "ttl", num 2147483647) ∷ []) ∷
    ((codes "name", txt []) ∷ (codes "address", txt (codes "192.0.2.1")) ∷ (codes "ttl", num 2147483647) ∷ []) ∷
    ((codes "name", txt (codes "-a")) ∷ (codes "address", txt (codes "192.0.2.1")) ∷ (codes "ttl", num 2147483647) ∷ []) ∷
    ((codes "name", txt (codes "A.Example.")) ∷ (codes "ttl", num 2147483647) ∷ []) ∷
    ((codes "name", txt (codes "A.Example.")) ∷ (codes "address", num 1) ∷ (codes "ttl", num 2147483647) ∷ []) ∷
    ((codes "name", txt (codes "A.Example.")) ∷ (codes "address", txt (codes "192.0.2.256")) ∷ (codes "ttl", num 2147483647) ∷ []) ∷
    ((codes "name", txt (codes "A.Example.")) ∷ (codes "address", txt (codes "::1%0")) ∷ (codes "ttl", num 2147483647) ∷ []) ∷
    ((codes "name", txt (codes "A.Example.")) ∷ (codes "address", txt (codes "192.0.2.1")) ∷ []) ∷
    ((codes "name", txt (codes "A.Example.")) ∷ (codes "address", txt (codes "192.0.2.1")) ∷ (codes "ttl", null) ∷ []) ∷
    ((codes "name", txt (codes "A.Example.")) ∷ (codes "address", txt (codes "192.0.2.1")) ∷ (codes "ttl", txt (codes "1")) ∷ []) ∷
    ((codes "name", txt (codes "A.Example.")) ∷ (codes "address", txt (codes "192.0.2.1")) ∷ (codes "ttl", num 0) ∷ []) ∷
    ((codes "name", txt (codes "A.Example.")) ∷ (codes "address", txt (codes "192.0.2.1")) ∷ (codes "ttl", num 2147483648) ∷ []) ∷
    [] ∷
    [])
    ≡
    Ok (command.Observe (codes "a.example") (V4 3221225985) 2147483647) ∷
    Ok (command.Observe (codes "a.example") (V4 3221225985) 2147483647) ∷
    Err (fault.Member members.Name) ∷
    Err (fault.Member members.Name) ∷
    Err (fault.Member members.Name) ∷
    Err (fault.Member members.Name) ∷
    Err (fault.Member members.Address) ∷
    Err (fault.Member members.Address) ∷
    Err (fault.Member members.Address) ∷
    Err (fault.Member members.Address) ∷
    Err (fault.Member members.Ttl) ∷
    Err (fault.Member members.Ttl) ∷
    Err (fault.Member members.Ttl) ∷
    Err (fault.Member members.Ttl) ∷
    Err (fault.Member members.Ttl) ∷
    Err (fault.Member members.Name) ∷
    []
unfolding bodies_on_literals
observe_table = refl

-- where both name the class, the second is wrong, before the address; where neither does, the first is missing
both_classes : map (said statement.Bind) (
    ((codes "class", null) ∷ (codes "my-controller-of", null) ∷ []) ∷
    ((codes "class", txt (codes "urn:x")) ∷ (codes "my-controller-of", txt (codes "https://A")) ∷ []) ∷
    ((codes "address", txt (codes "192.0.2.1")) ∷ []) ∷
    [])
    ≡
    Err (fault.Member members.MyControllerOf) ∷
    Err (fault.Member members.MyControllerOf) ∷
    Err (fault.Member members.Class) ∷
    []
unfolding bodies_on_literals
both_classes = refl

-- ---- From octets

whole : body_of (action.State statement.Revoke) (codes "{\"url\":\"https://a/b\"}") 7 ≡ Ok (asked.Command (command.Revoke (codes "https://a/b")))
unfolding bodies_on_literals
whole = refl

no_objects : map (λ octets. body_of (action.State statement.Remove) octets 7) ([] ∷ codes "[]" ∷ codes "null" ∷ codes "{} {}" ∷ codes "{\"mac\":}" ∷ (123 ∷ 255 ∷ 125 ∷ []) ∷ [])
    ≡ Err fault.Json ∷ Err fault.Json ∷ Err fault.Json ∷ Err fault.Json ∷ Err fault.Json ∷ Err fault.Json ∷ []
unfolding bodies_on_literals
no_objects = refl

empty_object : body_of (action.State statement.Remove) (codes " {} ") 7 ≡ Err (fault.Member members.Mac)
unfolding bodies_on_literals
empty_object = refl

-- the last of two members with one name counts
twice : body_of (action.State statement.EndLease) (codes "{\"address\":1,\"address\":\"::1\"}") 7 ≡ Ok (asked.Command (command.EndLease (V6 1)))
unfolding bodies_on_literals
twice = refl

-- other bodies are octets, and a listing looks at none
others : map (λ a. body_of a (codes "{") 7) (action.List listing.Due ∷ action.Import ∷ action.Judge ∷ action.Why ∷ action.HearDhcp ∷ action.HearLldp ∷ [])
    ≡ Ok (asked.List listing.Due) ∷ Ok (asked.Command (command.Import (codes "{") 7)) ∷ Ok asked.Judge ∷ Ok asked.Why ∷ Err (fault.Heard (message.Cut 0)) ∷ Err (fault.Heard (message.Cut 0)) ∷ []
unfolding bodies_on_literals
others = refl
