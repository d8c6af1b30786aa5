-- A body that is read gives only commands that may be given.
use Rattle.std.proofs.Common.{◌≡◌, ℕ, ◌<◌, ◌≤◌, true, List, Option, Some, None, Ok, Err, Result, IsTrue, refl, subst, ◌∙◌, arith}
use Rattle.std.specs.Prelude.{nat_le, ◌&&◌, bytes_eq, option_and_then, if◌then◌else◌}
use Rattle.std.proofs.lemmas.Option.{option_and_then_some}
use Rattle.std.proofs.lemmas.Bool.Decides.{nat_tests}
use Rattle.std.proofs.lemmas.Slice.Eq.{bytes_eq-Decides}
use Rattle.mud_base.specs.Faults.{first_row}
use Rattle.mud_url.specs.declared.fault.UrlFault.{UrlFault}
use Rattle.mud_url.specs.Url.{faults, canonical, url_of, is_canonical}
use Rattle.mud_url.specs.Host.{is_host, lowered, host_name_of, without_last_dot}
use Rattle.mud_url.proofs.Idempotence.{url_of_no_fault, is_canonical-canonical}
use Rattle.mud_url.proofs.HostNames.{is_host-lowered, lowered-lowered}
use Rattle.serde_json.specs.Data.{Data}
use Rattle.mud_base.specs.Readings.{answer, ◌>>=◌}
use Rattle.table_model.specs.declared.bind.Class.{Class}
use Rattle.table_model.specs.declared.bind.Class.TheVariants as class
use Rattle.table_model.specs.Binds.{is_class, is_class_uri, is_name}
use Rattle.desk_model.specs.Commands.{IsAsked}
use Rattle.desk_model.specs.declared.command.Command.{Command}
use Rattle.desk_model.specs.declared.command.Command.TheVariants as command
use Rattle.console_routes.specs.declared.action.Statement.{Statement}
use Rattle.console_routes.specs.declared.action.Statement.TheVariants as statement
use Rattle.console_routes.specs.declared.action.Action.TheVariants as action
use Rattle.console_bodies.specs.declared.member.Member.{Member}
use Rattle.console_bodies.specs.declared.member.Member.TheVariants as members
use Rattle.console_bodies.specs.declared.fault.BodyFault.{BodyFault}
use Rattle.console_bodies.specs.Objects.{text_in, number_in, object_of}
use Rattle.console_bodies.specs.Values.{meant, url_in, url_at, name_at, mac_at, address_at, digest_at, number_at, prefixes_at}
use Rattle.console_bodies.specs.declared.asked.Asked.{Asked}
use Rattle.console_bodies.specs.declared.asked.Asked.TheVariants as asked
use Rattle.console_bodies.specs.Statements.{uri_in, uri_class, own_class, own_alone, class_at, state_verdict, command_at}
use Rattle.console_bodies.specs.Bodies.{heard_body, stated_body, body_of}
use Rattle.console_bodies.specs.Laws.{AsksRightly, BodiesAskRightly}
use Rattle.console_bodies.proofs.Always.{Always, then_ok, always_bind, always_after, always_done, always_wanted, always_either, chosen_some}
use Rattle.console_bodies.proofs.Parts.{answer_of, stated, verdict_at, observe_name, lease_address, only_own, bind_address, uri_at, within}

-- ---- Members

always_meant : {A : Type 0} (P : A → Type 0) (default : A) (member : Member) (meaning : Option A) → ((a : A) → meaning ≡ Some a → P a) → Always P (meant default member meaning)
unfolding meant
always_meant P default member meaning holds = always_wanted P default _ meaning holds

-- what is read of a text, where it is there
always_of_text : {B A : Type 0} (P : A → Type 0) (default : A) (member : Member) (read : B → Option A) (text : Option B) → ((t : B) (a : A) → read t ≡ Some a → P a) → Always P (meant default member (option_and_then read text))
always_of_text P default member read text holds = always_meant P default member _ (λ a e. option_and_then_some read text a e (λ t _ is. holds t a is))

abbrev IsCanonical : List ℕ → Type 0
IsCanonical url = IsTrue (is_canonical url)

canonical_by_rows : (url text : List ℕ) (row : Option UrlFault) → first_row (faults url) ≡ row → url_of url ≡ Ok text → IsCanonical text
unfolding url_of
canonical_by_rows url text None none e =
    let is : canonical url ≡ text = let reads = url_of_no_fault url none in cc in
    subst IsCanonical is (is_canonical-canonical url none)
canonical_by_rows url text (Some fault) some e = absurd (let refused = rw some at e in cc)

canonical_read : (text url : List ℕ) (x : Result (List ℕ) UrlFault) → url_of text ≡ x → answer_of x ≡ Some url → IsCanonical url
canonical_read text url (Ok read) is e = canonical_by_rows text url (first_row (faults text)) refl (let same : read ≡ url = cc in cc)
canonical_read text url (Err fault) is e = absurd cc

always_url_at : (member : Member) (d : Data) → Always IsCanonical (url_at member d)
unfolding url_at
always_url_at member d = always_of_text IsCanonical _ member url_in (text_in member d) (λ t a e. canonical_read t a (url_of t) refl e)

abbrev InRange : ℕ → ℕ → ℕ → Type 0
InRange least most n = (least ≤ n) × (n ≤ most)

within_is : (least most n k : ℕ) → within least most n ≡ Some k → InRange least most k
within_is least most n k e = let found = chosen_some (nat_le least n && nat_le n most) n k e in (grind (arith, nat_tests), grind (arith, nat_tests))

always_number_at : (least most : ℕ) (member : Member) (d : Data) → Always (InRange least most) (number_at least most member d)
unfolding number_at
always_number_at least most member d = always_of_text (InRange least most) _ member (within least most) (number_in member d) (λ n k e. within_is least most n k e)

abbrev IsName : List ℕ → Type 0
IsName name = IsTrue (is_name name)

name_by : (host name : List ℕ) → is_host host ≡ true → lowered host ≡ name → IsName name
unfolding is_name
name_by host name is e =
    subst IsName e (let whole : is_host (lowered host) ≡ true = is_host-lowered host ∙ is in let same : bytes_eq (lowered (lowered host)) (lowered host) ≡ true = (bytes_eq-Decides (lowered (lowered host)) (lowered host)).1 (lowered-lowered host) in rw (whole, same) refl)

name_read : (text name : List ℕ) → host_name_of text ≡ Some name → IsName name
unfolding host_name_of
name_read text name e = let found = chosen_some (is_host (without_last_dot text)) (lowered (without_last_dot text)) name e in name_by (without_last_dot text) name found.0 found.1

always_name_at : (d : Data) → Always IsName (name_at d)
unfolding name_at
always_name_at d = always_of_text IsName _ members.Name host_name_of (text_in members.Name d) (λ t a e. name_read t a e)

-- ---- Classes

abbrev IsClass : Class → Type 0
IsClass c = IsTrue (is_class c)

abbrev IsUri : List ℕ → Type 0
IsUri uri = IsTrue (is_class_uri uri)

uri_read : (text uri : List ℕ) → uri_in text ≡ Some uri → IsUri uri
uri_read text uri e = let found = chosen_some (is_class_uri text) text uri e in subst IsUri found.1 found.0

always_uri_at : (d : Data) → Always IsUri (uri_at d)
always_uri_at d = always_of_text IsUri _ members.Class uri_in (text_in members.Class d) (λ t a e. uri_read t a e)

by_uri : (uri : List ℕ) → IsUri uri → IsClass (class.Uri uri)
unfolding is_class
by_uri uri is = is

by_url : (url : List ℕ) → IsCanonical url → IsClass (class.Mine url)
unfolding is_class
by_url url is = is

always_uri_class : (d : Data) → Always IsClass (uri_class d)
unfolding uri_class
always_uri_class d = always_bind IsUri IsClass (uri_at d) _ (always_uri_at d) (λ uri is. always_done IsClass (class.Uri uri) (by_uri uri is))

always_own_class : (d : Data) → Always IsClass (own_class d)
unfolding own_class
always_own_class d = always_bind IsCanonical IsClass (url_at members.MyControllerOf d) _ (always_url_at members.MyControllerOf d) (λ url is. always_done IsClass (class.Mine url) (by_url url is))

always_own_alone : (d : Data) → Always IsClass (own_alone d)
unfolding own_alone
always_own_alone d = always_after IsClass (only_own d) (λ _. own_class d) (λ _. always_own_class d)

always_class_at : (d : Data) → Always IsClass (class_at d)
unfolding class_at
always_class_at d = always_either IsClass _ (own_alone d) (uri_class d) (always_own_alone d) (always_uri_class d)

-- ---- Statements

always_lease : (d : Data) → Always IsAsked (lease_address d)
unfolding command_at
always_lease d =
    always_after IsAsked (mac_at d) _ (λ mac.
    always_after IsAsked (address_at d) _ (λ address.
    always_bind (InRange 1 4294967295) IsAsked (number_at 1 4294967295 members.Seconds d) _ (always_number_at 1 4294967295 members.Seconds d) (λ seconds range.
    always_done IsAsked (command.Lease mac address seconds) (omega (arith, range.0)))))

always_bound : (d : Data) → Always IsAsked (bind_address d)
unfolding command_at
always_bound d =
    always_bind IsClass IsAsked (class_at d) _ (always_class_at d) (λ class is.
    always_after IsAsked (address_at d) _ (λ address.
    always_done IsAsked (command.Bind class address) is))

always_observed : (d : Data) → Always IsAsked (observe_name d)
unfolding command_at
always_observed d =
    always_bind IsName IsAsked (name_at d) _ (always_name_at d) (λ name is.
    always_after IsAsked (address_at d) _ (λ address.
    always_bind (InRange 1 2147483647) IsAsked (number_at 1 2147483647 members.Ttl d) _ (always_number_at 1 2147483647 members.Ttl d) (λ seconds range.
    always_done IsAsked (command.Observe name address seconds) (is, omega (arith, range.0), range.1))))

always_command_at : (s : Statement) (d : Data) → Always IsAsked (command_at s d)
unfolding command_at state_verdict
always_command_at statement.Move d = always_after IsAsked (mac_at d) _ (λ mac. always_after IsAsked (url_at members.Url d) _ (λ url. always_done IsAsked (command.Move mac url) tt))
always_command_at statement.Remove d = always_after IsAsked (mac_at d) _ (λ mac. always_done IsAsked (command.Remove mac) tt)
always_command_at statement.Hold d = always_after IsAsked (mac_at d) _ (λ mac. always_done IsAsked (command.Hold mac) tt)
always_command_at statement.Release d = always_after IsAsked (mac_at d) _ (λ mac. always_done IsAsked (command.Release mac) tt)
always_command_at statement.Lease d = always_lease d
always_command_at statement.EndLease d = always_after IsAsked (address_at d) _ (λ address. always_done IsAsked (command.EndLease address) tt)
always_command_at statement.Verdict d = always_after IsAsked (url_at members.Url d) _ (λ url. always_after IsAsked (digest_at d) _ (λ digest. always_after IsAsked (verdict_at d) _ (λ verdict. always_done IsAsked (command.Verdict url digest verdict) tt)))
always_command_at statement.Revoke d = always_after IsAsked (url_at members.Url d) _ (λ url. always_done IsAsked (command.Revoke url) tt)
always_command_at statement.Bind d = always_bound d
always_command_at statement.Unbind d = always_after IsAsked (class_at d) _ (λ class. always_after IsAsked (address_at d) _ (λ address. always_done IsAsked (command.Unbind class address) tt))
always_command_at statement.Locals d = always_after IsAsked (prefixes_at d) _ (λ prefixes. always_done IsAsked (command.Locals prefixes) tt)
always_command_at statement.Observe d = always_observed d

-- ---- Bodies

heard_rightly : (x : Result _ _) (a : Asked) → heard_body x ≡ Ok a → AsksRightly a
heard_rightly (Ok heard) a e = subst AsksRightly (let is : asked.Heard heard ≡ a = cc in is) tt
heard_rightly (Err refusal) a e = absurd cc

stated_rightly : (s : Statement) (octets : List ℕ) (a : Asked) → stated_body s octets ≡ Ok a → AsksRightly a
unfolding stated_body
stated_rightly s octets a e =
    let whole = then_ok (stated s octets) (λ c. Ok (asked.Command c)) a e in
    let object = then_ok (object_of octets) (λ d. answer (command_at s d)) whole.0 whole.1 in
    let is : asked.Command whole.0 ≡ a = let last = whole.2 in cc in
    subst AsksRightly is (always_command_at s object.0 whole.0 object.2)

abbrev read_as : Asked → Result Asked BodyFault
read_as a = Ok a

other_rightly : (b a : Asked) → AsksRightly b → read_as b ≡ read_as a → AsksRightly a
other_rightly b a holds e = subst AsksRightly (let is : b ≡ a = cc in is) holds

pub bodies_ask_rightly : BodiesAskRightly
unfolding body_of
bodies_ask_rightly action.HearDhcp octets now a e = heard_rightly _ a e
bodies_ask_rightly action.HearLldp octets now a e = heard_rightly _ a e
bodies_ask_rightly (action.List listing) octets now a e = other_rightly (asked.List listing) a tt e
bodies_ask_rightly (action.State s) octets now a e = stated_rightly s octets a e
bodies_ask_rightly action.Import octets now a e = other_rightly (asked.Command (command.Import octets now)) a tt e
bodies_ask_rightly action.Judge octets now a e = other_rightly asked.Judge a tt e
bodies_ask_rightly action.Why octets now a e = other_rightly asked.Why a tt e
