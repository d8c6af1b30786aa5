use Rattle.std.proofs.Common.{◌≡◌, ℕ, List, [], ◌++◌, sym, ap, ◌∙◌, append_assoc, append-nil, codes, decimal, get_or}
use Rattle.std.proofs.lemmas.Result.{on_err_weaker}
use Rattle.std.specs.Net.Text.{ipv4_text}
use Rattle.mud_base.specs.Texts.{octets_v4}
use Rattle.text_values.proofs.Parts.{always_on_err, part_behind, behind_both}
use Rattle.text_values.proofs.addresses.append_dotted.Goals as goal

-- an octet in decimal, and with a dot behind it
abbrev digits : List ℕ → ℕ → List ℕ
digits octets i = decimal (get_or octets i 0)

abbrev dotted : List ℕ → ℕ → List ℕ
dotted octets i = digits octets i ++ codes "."

-- a text of four parts with a point behind each but the last, by what stands in front of the fourth, the third and the second
fourth_of : (a b c d p : List ℕ) → a ++ p ++ b ++ p ++ c ++ p ++ d ≡ ((a ++ p) ++ (b ++ p)) ++ (c ++ p) ++ d
fourth_of a b c d p =
    ap (λ (t : List ℕ). t ++ d) (ap (λ (t : List ℕ). t ++ c ++ p) (append_assoc (a ++ p) b p) ∙ append_assoc ((a ++ p) ++ (b ++ p)) c p)

third_of : (a b c d p : List ℕ) → a ++ p ++ b ++ p ++ c ++ p ++ d ≡ ((a ++ p) ++ (b ++ p)) ++ ((c ++ p) ++ d)
third_of a b c d p = fourth_of a b c d p ∙ append_assoc ((a ++ p) ++ (b ++ p)) (c ++ p) d

second_of : (a b c d p : List ℕ) → a ++ p ++ b ++ p ++ c ++ p ++ d ≡ (a ++ p) ++ ((b ++ p) ++ ((c ++ p) ++ d))
second_of a b c d p = third_of a b c d p ∙ append_assoc (a ++ p) (b ++ p) ((c ++ p) ++ d)

-- the text of an address, by what stands in front of each octet
first_text : (o : List ℕ) → ipv4_text o ≡ [] ++ (dotted o 0 ++ (dotted o 1 ++ (dotted o 2 ++ digits o 3)))
first_text o = second_of (digits o 0) (digits o 1) (digits o 2) (digits o 3) (codes ".")

second_text : (o : List ℕ) → ipv4_text o ≡ dotted o 0 ++ (dotted o 1 ++ (dotted o 2 ++ digits o 3))
second_text o = second_of (digits o 0) (digits o 1) (digits o 2) (digits o 3) (codes ".")

third_text : (o : List ℕ) → ipv4_text o ≡ (dotted o 0 ++ dotted o 1) ++ (dotted o 2 ++ digits o 3)
third_text o = third_of (digits o 0) (digits o 1) (digits o 2) (digits o 3) (codes ".")

fourth_text : (o : List ℕ) → ipv4_text o ≡ ((dotted o 0 ++ dotted o 1) ++ dotted o 2) ++ digits o 3
fourth_text o = fourth_of (digits o 0) (digits o 1) (digits o 2) (digits o 3) (codes ".")

text_by : (n : ℕ) (o text : List ℕ) → o ≡ octets_v4 n → ipv4_text o ≡ text → ipv4_text (octets_v4 n) ≡ text
text_by n o text e h = ap ipv4_text (sym e) ∙ h

pub returns-in_err-append_dotted_octet-clause-part : goal.returns-in_err-append_dotted_octet-clause-part
unfolding octets_v4
returns-in_err-append_dotted_octet-clause-part c =
    let o = c.to_be_bytes-octets.result in
    always_on_err c.from_residual.result
    (part_behind (ipv4_text (octets_v4 c.args.number)) [] (dotted o 0) (dotted o 1 ++ (dotted o 2 ++ digits o 3)) c.args.line.now c.args.line.now c.append_dotted_octet.new.line
    (text_by c.args.number o _ c.to_be_bytes-octets.ensures (first_text o))
    (sym (append-nil c.args.line.now)) c.in_err-append_dotted_octet.ensures.part)

pub returns-in_err-append_dotted_octet-2-clause-part : goal.returns-in_err-append_dotted_octet-2-clause-part
unfolding octets_v4
returns-in_err-append_dotted_octet-2-clause-part c =
    let o = c.to_be_bytes-octets.result in
    always_on_err c.from_residual-in_err-append_dotted_octet-2.result
    (part_behind (ipv4_text (octets_v4 c.args.number)) (dotted o 0) (dotted o 1) (dotted o 2 ++ digits o 3) c.args.line.now c.append_dotted_octet.new.line c.append_dotted_octet-2.new.line
    (text_by c.args.number o _ c.to_be_bytes-octets.ensures (second_text o))
    c.in_ok-append_dotted_octet.ensures.ok c.in_err-append_dotted_octet-2.ensures.part)

pub returns-in_err-append_dotted_octet-3-clause-part : goal.returns-in_err-append_dotted_octet-3-clause-part
unfolding octets_v4
returns-in_err-append_dotted_octet-3-clause-part c =
    let o = c.to_be_bytes-octets.result in
    let two = behind_both c.args.line.now (dotted o 0) (dotted o 1) c.append_dotted_octet.new.line c.append_dotted_octet-2.new.line c.in_ok-append_dotted_octet.ensures.ok c.in_ok-append_dotted_octet-2.ensures.ok in
    always_on_err c.from_residual-in_err-append_dotted_octet-3.result
    (part_behind (ipv4_text (octets_v4 c.args.number)) (dotted o 0 ++ dotted o 1) (dotted o 2) (digits o 3) c.args.line.now c.append_dotted_octet-2.new.line c.append_dotted_octet-3.new.line
    (text_by c.args.number o _ c.to_be_bytes-octets.ensures (third_text o))
    two c.in_err-append_dotted_octet-3.ensures.part)

pub returns-clause-part : goal.returns-clause-part
unfolding octets_v4
returns-clause-part c =
    let o = c.to_be_bytes-octets.result in
    let two = behind_both c.args.line.now (dotted o 0) (dotted o 1) c.append_dotted_octet.new.line c.append_dotted_octet-2.new.line c.in_ok-append_dotted_octet.ensures.ok c.in_ok-append_dotted_octet-2.ensures.ok in
    let three = behind_both c.args.line.now (dotted o 0 ++ dotted o 1) (dotted o 2) c.append_dotted_octet-2.new.line c.append_dotted_octet-3.new.line two c.in_ok-append_dotted_octet-3.ensures.ok in
    on_err_weaker c.append_decimal.result
    (λ same. record {
      added = (dotted o 0 ++ dotted o 1) ++ dotted o 2;
      rest = digits o 3;
      split = text_by c.args.number o _ c.to_be_bytes-octets.ensures (fourth_text o);
      grown = same ∙ three;
    })
    c.append_decimal.ensures.err
