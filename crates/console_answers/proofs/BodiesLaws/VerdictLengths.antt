-- The body of a verdict fits into the buffer.
use Rattle.std.proofs.Common.{◌≡◌, ℕ, ◌+◌, ◌*◌, ◌^◌, ◌<◌, ◌≤◌, Bool, true, false, List, [], ◌++◌, length, Option, Some, None, lit≤, lit<, arith, length-append}
use Rattle.std.specs.Prelude.{codes, decimal, if◌then◌else◌}
use Rattle.std.proofs.lemmas.Fmt.{length-decimal-le}
use Rattle.json.specs.Print.{quoted}
use Rattle.console_answers.specs.Kept.{kept}
use Rattle.console_answers.proofs.KeptLemmas.{kept_short, short_quoted}
use Rattle.frame_view.specs.declared.views.Part.{Part}
use Rattle.frame_view.specs.declared.views.Part.TheVariants as part
use Rattle.acl_model.specs.declared.ruling.Ruling.{Ruling}
use Rattle.acl_model.specs.declared.ruling.Ruling.TheVariants.{Accept, AcceptDefault, Drop, DropDefault, DropHeld}
use Rattle.acl_model.specs.declared.ruling.DefaultRule.{DefaultRule}
use Rattle.acl_model.specs.declared.ruling.DefaultRule.TheVariants.{Dns, Ntp}
use Rattle.acl_model.specs.declared.ruling.Why.{Why}
use Rattle.acl_model.specs.declared.ruling.Why.TheVariants.{NoFile, NoMatch}
use Rattle.packet_judge.specs.Verdicts.{forwarded}
use Rattle.packet_judge.specs.declared.verdict.Verdict.{Verdict}
use Rattle.packet_judge.specs.declared.verdict.Verdict.TheVariants.{Unmanaged, Link, Unreadable, Governed}
use Rattle.desk_model.specs.Texts.Verdicts.{part_name, unreadable_text, ruling_text, endpoint_text, reason_text, verdict_text}
use Rattle.console_answers.specs.Bodies.Verdicts.{verdict_body, RulingFits, VerdictFits}
use Rattle.desk_model.proofs.Parts.{why_name, default_name, passing_text}

two : (a b : List ℕ) (m n : ℕ) → length a ≤ m → length b ≤ n → length (a ++ b) ≤ m + n
two a b m n la lb = omega (arith, length-append a b)

short_part : (p : Part) → length (part_name p) ≤ 9
unfolding part_name
short_part part.Ethernet = lit≤ tt
short_part part.Tag = lit≤ tt
short_part part.Ip = lit≤ tt
short_part part.Extension = lit≤ tt
short_part part.Transport = lit≤ tt

short_default : (rule : DefaultRule) → length (default_name rule) ≤ 40
unfolding ruling_text
short_default Dns = lit≤ tt
short_default Ntp = lit≤ tt

short_why : (why : Why) → length (why_name why) ≤ 40
unfolding ruling_text
short_why NoFile = lit≤ tt
short_why NoMatch = lit≤ tt

short_number : (n : ℕ) → n < 2 ^ 16 → length (decimal n) ≤ 20
short_number n fits = length-decimal-le 20 n (lit< tt) (omega arith) (omega arith)

short_ruling : (ruling : Ruling) → RulingFits (Some ruling) → length (ruling_text ruling) ≤ 40
unfolding ruling_text
short_ruling (Accept n) fits = let word : length (codes "accept:") ≤ 7 = lit≤ tt in omega (arith, short_number n fits, length-append (codes "accept:") (decimal n))
short_ruling (AcceptDefault rule) fits = short_default rule
short_ruling (Drop n) fits = let word : length (codes "drop:") ≤ 5 = lit≤ tt in omega (arith, short_number n fits, length-append (codes "drop:") (decimal n))
short_ruling (DropDefault why) fits = short_why why
short_ruling DropHeld fits = lit≤ tt

short_end : (name : List ℕ) (ruling : Option Ruling) → length name ≤ 10 → RulingFits ruling → length (endpoint_text name ruling) ≤ 50
unfolding endpoint_text
short_end name None short fits = lit≤ tt
short_end name (Some ruling) short fits = two name (ruling_text ruling) 10 40 short (short_ruling ruling fits)

short_unreadable : (p : Part) → length (unreadable_text p) ≤ 100
unfolding unreadable_text
short_unreadable p = let word : length (codes " unreadable ") ≤ 12 = lit≤ tt in omega (arith, short_part p, length-append (codes " unreadable ") (part_name p))

short_reason : (verdict : Verdict) → VerdictFits verdict → length (reason_text verdict) ≤ 100
unfolding reason_text
short_reason Unmanaged fits = lit≤ tt
short_reason Link fits = lit≤ tt
short_reason (Unreadable p) fits = short_unreadable p
short_reason (Governed source destination) fits = two (endpoint_text (codes " from=") source) (endpoint_text (codes " to=") destination) 50 50 (short_end (codes " from=") source (lit≤ tt) fits.0) (short_end (codes " to=") destination (lit≤ tt) fits.1)

short_passing_by : (passes : Bool) → length (if passes then codes "pass" else codes "drop") ≤ 4
short_passing_by true = lit≤ tt
short_passing_by false = lit≤ tt

short_passing : (verdict : Verdict) → length (passing_text verdict) ≤ 4
short_passing verdict = short_passing_by (forwarded verdict)

short_text : (verdict : Verdict) → VerdictFits verdict → length (verdict_text verdict) ≤ 104
unfolding verdict_text
short_text verdict fits = two (passing_text verdict) (reason_text verdict) 4 100 (short_passing verdict) (short_reason verdict fits)

body_fits : (verdict : Verdict) → VerdictFits verdict → length (verdict_body verdict) ≤ 4096
unfolding verdict_body
body_fits verdict fits =
    let front : length (codes "{\"verdict\":") ≤ 40 = lit≤ tt in
    let end : length (codes "}") ≤ 40 = lit≤ tt in
    omega (arith, short_text verdict fits, short_quoted (verdict_text verdict), length-append (codes "{\"verdict\":") (quoted (verdict_text verdict)), length-append (codes "{\"verdict\":" ++ quoted (verdict_text verdict)) (codes "}"))

pub verdict_kept : (verdict : Verdict) → VerdictFits verdict → kept ([] ++ verdict_body verdict) ≡ verdict_body verdict
verdict_kept verdict fits = kept_short (verdict_body verdict) (body_fits verdict fits)
