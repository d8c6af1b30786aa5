-- What stands for requests, as it is seen in the session.
use Rattle.std.specs.Prelude.{max, IfOk}
use Rattle.std.proofs.Common.{◌≡◌, ℕ, List, Some, Result, Ok, Err, refl, sym, ap, ◌∙◌, subst, inl, inr}
use Rattle.mud_base.specs.declared.memory.Memory as want
use Rattle.packet_judge.specs.declared.verdict.Verdict.{Verdict}
use Rattle.dhcp_lldp.specs.declared.heard.Heard.{Heard}
use Rattle.dhcp_lldp.specs.declared.heard.Heard.TheVariants.{Url, Lease, Nothing}
use Rattle.console_bodies.specs.Bodies.{heard_command}
use Rattle.std.proofs.lemmas.Option.{none-some, same_Some}
use Rattle.desk_model.specs.declared.command.Command.{Command}
use Rattle.desk_model.specs.declared.command.Command.TheVariants.{HearUrl, HearLease}
use Rattle.desk_model.specs.Commands.{IsAsked}
use Rattle.console_routes.specs.declared.action.Listing.{Listing}
use Rattle.frame_view.specs.Frame.{frame_of}
use Rattle.desk_model.specs.Sessions.{Session, AllowedVerdict, frame_in, verdict_in, raised, later, IsNoted}
use Rattle.console_answers.specs.declared.status.Status.TheVariants as status
use Rattle.console_answers.specs.Bodies.Verdicts.{verdict_body}
use Rattle.desk_model.specs.Verdicts.{policy_at}
use Rattle.mud_desk.specs.declared.findings.Findings.{Findings}
use Rattle.mud_desk.specs.Findings.{found_in, AreFindingsOn}
use Rattle.mud_desk.specs.DeskState.{DeskState, tables_of, session_of}
use Rattle.console.specs.Replies.{Reply, reply, Replied, replied, made_reply, no_storage, IsOrWanted, IsOrFailed}
use Rattle.console.specs.Listings.{listing_text}
use Rattle.console.specs.Why.{endpoints_text, why_text}
use Rattle.console_routes.specs.declared.action.Action.{Action}
use Rattle.console_bodies.specs.declared.asked.Asked.{Asked}
use Rattle.console.specs.Requests.{by_verdict, by_listing, AllowedQuestion}
use Rattle.console.proofs.Replying.{made}

-- memory was wanted, and nothing was done
pub wanted : (may_fail : Type 0) (session : Session) (defined : Replied) (given : Reply) → given ≡ no_storage → IsOrFailed may_fail session defined given session
wanted may_fail session defined given is = record { one = inl (inr (is, refl)) }

-- a reply that raises the moment
pub raises : (session after : Session) (now : ℕ) (defined given : Reply) → given ≡ defined → after ≡ raised session now → IsOrFailed ⊥ session (replied defined (raised session now)) given after
raises session after now defined given is raised_to = record { one = inl (inl (λ i. replied (sym is i) (sym raised_to i))) }

-- ---- Frames

module _ (session after : Session) (now : ℕ) (frame : List ℕ) (given : Reply) where
  pub judged_so : (v : Verdict) → AllowedVerdict session now frame (Ok v) after → given ≡ reply status.Done (verdict_body v) → IsOrFailed ⊥ session (by_verdict (frame_in session now frame)) given after
  unfolding AllowedVerdict by_verdict
  judged_so v may is = record { one = inl (inl (ap by_verdict may ∙ ap (λ (r : Reply). replied r after) (sym is))) }

  pub judged_not : (memory : want.Memory) → AllowedVerdict session now frame (Err memory) after → given ≡ no_storage → IsOrFailed ⊥ session (by_verdict (frame_in session now frame)) given after
  unfolding AllowedVerdict
  judged_not memory may is = record { one = inl (inr (is, may.1)) }

-- memory was wanted for a frame
pub noted : (session after : Session) (now : ℕ) (frame : List ℕ) (memory : want.Memory) → AllowedVerdict session now frame (Err memory) after → IsNoted session now frame
unfolding AllowedVerdict
noted session after now frame memory may = may.0

-- ---- What was heard, and listings

-- the command for what was heard may be given
pub heard_asked : (heard : Heard) (command : Command) → heard_command heard ≡ Some command → IsAsked command
unfolding heard_command
heard_asked (Url mac url) command is = subst IsAsked (same_Some (HearUrl mac url) command is) tt
heard_asked (Lease mac address seconds) command is = subst IsAsked (same_Some (HearLease mac address seconds) command is) tt
heard_asked Nothing command is = absurd (none-some command is)

listed_here : (listing : Listing) (before : DeskState) (given : ℕ) → listing_text listing (tables_of before) (max before.moment given) ≡ listing_text listing (session_of before).desk (later (session_of before) given)
unfolding session_of later
listed_here listing before given = refl

-- rows were listed
pub listed : (listing : Listing) (before : DeskState) (after : Session) (given now : ℕ) (text : List ℕ) → now ≡ max before.moment given → text ≡ listing_text listing (tables_of before) now
    → after ≡ raised (session_of before) given → IsOrFailed ⊥ (session_of before) (by_listing (session_of before) given listing) (reply status.Done text) after
listed listing before after given now text is text_is raised_to =
    raises (session_of before) after given (reply status.Done (listing_text listing (session_of before).desk (later (session_of before) given))) (reply status.Done text)
    (ap (reply status.Done) (text_is ∙ ap (listing_text listing (tables_of before)) is ∙ listed_here listing before given)) raised_to

-- ---- What decides a frame

-- it was told
pub told : (frame : List ℕ) (session : Session) (given : ℕ) (written : Reply) → IsOrWanted (reply status.Done (why_text session.desk frame (verdict_in session given frame))) written
    → IsOrFailed ⊥ session (replied (reply status.Done (why_text session.desk frame (verdict_in session given frame))) session) written session
told frame session given written or =
    elim or.one [ inl same ↦ record { one = inl (inl (ap (λ (r : Reply). replied r session) (sym same))) } | inr want ↦ record { one = inl (inr (want, refl)) } ]

-- the text that was made for it
pub why_is : (frame : List ℕ) (state : DeskState) (given : ℕ) (findings : Findings) (text : Result (List ℕ) want.Memory) (written : Reply)
    → AreFindingsOn (policy_at (tables_of state)) (tables_of state).tables.things (frame_of frame) findings → findings.verdict ≡ verdict_in (session_of state) given frame
    → IfOk text (λ t. t ≡ endpoints_text (found_in findings.source) (found_in findings.destination) findings.verdict) → written ≡ made_reply status.Done text
    → IsOrWanted (reply status.Done (why_text (session_of state).desk frame (verdict_in (session_of state) given frame))) written
unfolding why_text session_of
why_is frame state given findings text written found is text_is made_is =
    subst (λ (t : List ℕ). IsOrWanted (reply status.Done t) written)
    ((λ i. endpoints_text (found.source i) (found.destination i) findings.verdict) ∙ ap (why_text (tables_of state) frame) is)
    (made status.Done (endpoints_text (found_in findings.source) (found_in findings.destination) findings.verdict) text written text_is made_is)

-- ---- The question

-- it is this one
pub as_asked : (session after : Session) (given : ℕ) (octets : List ℕ) (action : Action) (a b : Asked) (written : Reply) → a ≡ b
    → AllowedQuestion session given octets action b written after → AllowedQuestion session given octets action a written after
as_asked session after given octets action a b written is may = subst (λ (x : Asked). AllowedQuestion session given octets action x written after) (sym is) may
