-- An input that was read up to one octet more than the most is answered as the whole of it.
use Rattle.std.proofs.Common.{◌≡◌, ℕ, ◌<◌, ◌≤◌, ◌⊎◌, List, ◌++◌, length, take, ap, sym, ◌∙◌, inl, inr, arith}
use Rattle.std.proofs.lemmas.Bool.{cases_lt}
use Rattle.std.proofs.lemmas.List.{append-nil, length-append}
use Rattle.std.specs.Prelude.{Result}
use Rattle.mud_world.specs.Door.{DoorState, with_left, put_out}
use Rattle.mud_world.specs.Whole.{ReadWhole, WrotePart}
use Rattle.dhcp_lldp.specs.Dhcp.{heard_of}
use Rattle.dhcp_lldp.specs.Lldp.{lldp_of}
use Rattle.dhcp_lldp.specs.declared.heard.Heard.{Heard}
use Rattle.dhcp_lldp.specs.declared.heard.HearFault.{HearFault}
use Rattle.mud_cli.specs.declared.answer.Answer.{Answer}
use Rattle.run_words.specs.declared.command.Message.TheVariants.{Dhcp, Lldp}
use Rattle.mud_file.specs.File.{file_of}
use Rattle.mud_cli.specs.declared.answer.Input.{Input}
use Rattle.mud_cli.specs.declared.answer.Input.TheVariants as input
use Rattle.run_common.specs.Output.{WritesOutput, WritesPart}
use Rattle.mud_cli.specs.Answers.{answer_to, most_of, output_of_input}
use Rattle.mud_cli.specs.Check.Answer.{checking}
use Rattle.mud_cli.specs.Hear.Answer.{hearing_within}
use Rattle.mud_cli.proofs.Parts.{status_of}

-- an answer is alike for all that begins with more octets than the most
abbrev IsAlike : ℕ → (List ℕ → Answer) → Type 0
IsAlike most answer = (octets more : List ℕ) → most < length octets → answer (octets ++ more) ≡ answer octets

alike_cases : (most : ℕ) (answer : List ℕ → Answer) (octets : List ℕ) (old mid : DoorState) → IsAlike most answer → ReadWhole octets most old mid → (most < length octets) ⊎ (length octets ≤ most) → answer octets ≡ answer old.left
alike_cases most answer octets old mid alike whole (inl long) = sym (alike octets mid.left long) ∙ ap answer (sym whole.took.left)
alike_cases most answer octets old mid alike whole (inr short) = ap answer (sym (append-nil octets) ∙ ap (λ more. octets ++ more) (sym (whole.ended short)) ∙ sym whole.took.left)

alike_whole : (most : ℕ) (answer : List ℕ → Answer) (octets : List ℕ) (old mid : DoorState) → IsAlike most answer → ReadWhole octets most old mid → answer octets ≡ answer old.left
alike_whole most answer octets old mid alike whole = alike_cases most answer octets old mid alike whole (cases_lt most (length octets))

-- the answer to some octets, by what they are read as
abbrev hearing_of : (List ℕ → Result Heard HearFault) → List ℕ → Answer
hearing_of read octets = hearing_within (length octets) (read octets)

hearing_of_more : (read : List ℕ → Result Heard HearFault) → IsAlike 65535 (hearing_of read)
unfolding hearing_within
hearing_of_more read octets more long = grind (arith, length-append octets more)

checking_of_more : IsAlike 262144 (λ octets. checking (file_of octets))
unfolding file_of
checking_of_more octets more long = grind (arith, length-append octets more)

answer_to_whole : (input : Input) (octets : List ℕ) (old mid : DoorState) → ReadWhole octets (most_of input) old mid → answer_to input octets ≡ answer_to input old.left
unfolding answer_to most_of
answer_to_whole (input.Message Dhcp) octets old mid whole = alike_whole 65535 (hearing_of heard_of) octets old mid (hearing_of_more heard_of) whole
answer_to_whole (input.Message Lldp) octets old mid whole = alike_whole 65535 (hearing_of lldp_of) octets old mid (hearing_of_more lldp_of) whole
answer_to_whole input.UsageFile octets old mid whole = alike_whole 262144 (λ octets. checking (file_of octets)) octets old mid checking_of_more whole

-- the answer to what was read, written whole
pub writes_output : (what : Input) (answer : Answer) (octets : List ℕ) (old mid new : DoorState) → ReadWhole octets (most_of what) old mid → answer ≡ answer_to what octets → new ≡ put_out answer.text mid → WritesOutput (output_of_input what old.left) old new (status_of answer)
writes_output what answer octets old mid new whole answer_is wrote =
    let output : answer ≡ answer_to what old.left = answer_is ∙ answer_to_whole what octets old mid whole in
    record {
      read = octets;
      status_is = ap status_of output;
      left_is = whole.took.left ∙ ap (λ (s : DoorState). octets ++ s.left) (sym wrote);
      door_is = wrote ∙ ap (λ (a : Answer). put_out a.text mid) output ∙ ap (put_out (answer_to what old.left).text) whole.took.rest ∙ ap (λ (s : DoorState). put_out (answer_to what old.left).text (with_left s.left old)) (sym wrote);
    }

-- and in part
pub writes_part : (what : Input) (answer : Answer) (octets : List ℕ) (old mid new : DoorState) → ReadWhole octets (most_of what) old mid → answer ≡ answer_to what octets → WrotePart answer.text mid new → WritesPart (output_of_input what old.left) old new
writes_part what answer octets old mid new whole answer_is part =
    let output : answer ≡ answer_to what old.left = answer_is ∙ answer_to_whole what octets old mid whole in
    record {
      read = octets;
      count = part.count;
      left_is = whole.took.left ∙ ap (λ (s : DoorState). octets ++ s.left) (sym part.wrote);
      door_is = part.wrote ∙ ap (λ (a : Answer). put_out (take part.count a.text) mid) output ∙ ap (put_out (take part.count (answer_to what old.left).text)) whole.took.rest ∙ ap (λ (s : DoorState). put_out (take part.count (answer_to what old.left).text) (with_left s.left old)) (sym part.wrote);
    }
