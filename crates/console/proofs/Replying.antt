-- Replies as they are written.
use Rattle.std.proofs.Common.{◌≡◌, ℕ, false, List, None, Result, Ok, Err, refl, sym, ap, ◌∙◌, subst, inl, inr}
use Rattle.std.specs.Prelude.{IfOk}
use Rattle.mud_base.specs.declared.memory.Memory as want
use Rattle.console_answers.specs.declared.status.Status.{Status}
use Rattle.usage_tables.specs.declared.cache_fault.CacheFault.{CacheFault}
use Rattle.usage_tables.specs.declared.cache_fault.CacheFault.TheVariants as file
use Rattle.desk_model.specs.declared.reply.Refusal.{Refusal}
use Rattle.desk_model.specs.declared.reply.Refusal.TheVariants.{Things, Files, Binds}
use Rattle.console_listings.specs.Refusals.{refusal_status, files_status}
use Rattle.console_bodies.specs.declared.fault.BodyFault.{BodyFault}
use Rattle.console_listings.specs.Refusals.{body_fault_body}
use Rattle.console_answers.specs.declared.status.Status.TheVariants.{BadRequest}
use Rattle.console.specs.declared.question.NoQuestion.{NoQuestion}
use Rattle.console.specs.declared.question.NoQuestion.TheVariants.{NoRoute, NoMethod, BadBody}
use Rattle.console.specs.Asks.{refusal_of}
use Rattle.console.specs.declared.refusals.ReplyHead.{ReplyHead}
use Rattle.console.specs.Replies.{Reply, reply, made_reply, is_unavailable, IsOrWanted}
use Rattle.console.specs.Refused.{IsToldOf}

pub defined : (given is : Reply) → given ≡ is → IsOrWanted is given
defined given is same = record { one = inl same }

-- a body that was made, or for which there was no memory
pub made : (status : Status) (text : List ℕ) (body : Result (List ℕ) want.Memory) (given : Reply) → IfOk body (λ b. b ≡ text) → given ≡ made_reply status body → IsOrWanted (reply status text) given
unfolding made_reply
made status text (Ok b) given is same = record { one = inl (same ∙ ap (reply status) is) }
made status text (Err memory) given is same = record { one = inr same }

files_known : (fault : CacheFault) → is_unavailable (files_status fault) ≡ false
files_known (file.File broken) = refl
files_known file.Memory = refl
files_known file.Older = refl
files_known file.CacheFull = refl
files_known file.NoCandidate = refl
files_known file.Digest = refl
files_known file.NoSignature = refl
files_known file.NotApproved = refl
files_known file.PolicyFull = refl

pub refusal_known : (refusal : Refusal) → is_unavailable (refusal_status refusal) ≡ false
unfolding refusal_status
refusal_known (Things fault) = refl
refusal_known (Files fault) = files_known fault
refusal_known (Binds fault) = refl

-- a body that breaks a rule
pub bad_body : (nothing : NoQuestion) (fault : BodyFault) (head : ReplyHead) (status : Status) (text : List ℕ) (body : Result (List ℕ) want.Memory) → nothing ≡ BadBody fault → head ≡ record { status = status; allow = None }
    → IfOk body (λ b. b ≡ body_fault_body fault) → reply status text ≡ made_reply BadRequest body → IsToldOf nothing (record { status = head.status; allow = head.allow; body = text })
unfolding refusal_of reply
bad_body nothing fault head status text body is head_is text_is reply_is =
    subst (λ (n : NoQuestion). IsToldOf n (record { status = head.status; allow = head.allow; body = text })) (sym is)
    (subst (λ (h : ReplyHead). IsOrWanted (refusal_of (BadBody fault)) (record { status = h.status; allow = h.allow; body = text })) (sym head_is)
    (made BadRequest (body_fault_body fault) body (reply status text) text_is reply_is))

-- what is told of a request that asks for nothing
pub told_of : (nothing : NoQuestion) (given : Reply) → IsToldOf nothing given → IsOrWanted (refusal_of nothing) given
unfolding refusal_of
told_of NoRoute given told = defined given _ told
told_of (NoMethod route) given told = defined given _ told
told_of (BadBody fault) given told = told
