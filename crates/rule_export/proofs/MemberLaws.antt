-- Members of an object that are added one behind another.
use Rattle.std.proofs.Common.{◌≡◌, ℕ, Bool, true, List, [], ◌∷◌, ◌++◌, Some, ap, sym, ◌∙◌, append_assoc, append-nil}
use Rattle.std.specs.Prelude.{codes}
use Rattle.rule_export.specs.Objects.{Member, member_text, next_first, members_text, object}
use Rattle.rule_export.proofs.Parts.{name_text}

-- one more member, and those behind it
pub next_member : (old : List ℕ) (first : Bool) (m : Member) (ms : List Member) {mid new : List ℕ} {next : Bool} → mid ≡ old ++ member_text first m → next ≡ next_first first m → new ≡ mid ++ members_text next ms → new ≡ old ++ members_text first (m ∷ ms)
unfolding members_text
next_member old first m ms {mid} {new} {next} added is rest =
    rest
    ∙ ap (λ (b : Bool). mid ++ members_text b ms) is
    ∙ ap (λ (l : List ℕ). l ++ members_text (next_first first m) ms) added
    ∙ append_assoc old (member_text first m) (members_text (next_first first m) ms)

pub last_member : (old : List ℕ) (first : Bool) (m : Member) {new : List ℕ} → new ≡ old ++ member_text first m → new ≡ old ++ members_text first (m ∷ [])
unfolding members_text
last_member old first m {new} added = added ∙ ap (λ (l : List ℕ). old ++ l) (sym (append-nil (member_text first m)))

-- the members in their braces
pub object_of : (old : List ℕ) (ms : List Member) {opened inner new : List ℕ} → opened ≡ old ++ codes "{" → inner ≡ opened ++ members_text true ms → new ≡ inner ++ codes "}" → new ≡ old ++ object ms
unfolding object
object_of old ms {opened} {inner} {new} begun added ended =
    ended
    ∙ ap (λ (l : List ℕ). l ++ codes "}") (added ∙ ap (λ (l : List ℕ). l ++ members_text true ms) begun)
    ∙ append_assoc (old ++ codes "{") (members_text true ms) (codes "}")
    ∙ append_assoc old (codes "{") (members_text true ms ++ codes "}")

-- a name, and then the value
pub named : (old : List ℕ) (first : Bool) (name value : List ℕ) {mid new : List ℕ} → mid ≡ old ++ name_text first name → new ≡ mid ++ value → new ≡ old ++ member_text first (name, Some value)
unfolding member_text
named old first name value {mid} {new} begun added =
    added ∙ ap (λ (l : List ℕ). l ++ value) begun ∙ append_assoc old (name_text first name) value

-- three texts, one behind another
pub in_three : (old a b c : List ℕ) {first second new : List ℕ} → first ≡ old ++ a → second ≡ first ++ b → new ≡ second ++ c → new ≡ old ++ (a ++ (b ++ c))
in_three old a b c {first} {second} {new} one two three =
    three
    ∙ ap (λ (l : List ℕ). l ++ c) (two ∙ ap (λ (l : List ℕ). l ++ b) one)
    ∙ append_assoc (old ++ a) b c
    ∙ append_assoc old a (b ++ c)
