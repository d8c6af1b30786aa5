-- What a text of a member means, where it is there: the answers of its reading.
use Rattle.std.proofs.Common.{◌≡◌, ℕ, List, Option, None, Some, Ok, Err, refl, ◌∙◌}
use Rattle.mud_base.specs.Readings.{answer, where_there, and_then, wanted}
use Rattle.mud_base.proofs.Readings.{answer_bind, answer_absent, answer_there, answer_wanted, answer_unwanted}
use Rattle.serde_json.specs.Data.{Data}
use Rattle.usage_walk.specs.declared.fault.Broken.{Broken}
use Rattle.usage_walk.specs.declared.fault.Rule.{Rule}
use Rattle.usage_walk.specs.declared.member.Member.{Member}
use Rattle.usage_walk.specs.Reading.{under, fault_at}
use Rattle.usage_walk.specs.Kinds.{text_where_there}
use Rattle.usage_match.specs.Texts.{meant, meant_where_there}
use Rattle.usage_match.proofs.Parts.{as_meant}

with_meaning : {A : Type 0} (default : A) (broken : Broken) (meaning : Option A) → and_then (answer (wanted default broken meaning)) (λ a. Ok (Some a)) ≡ meant broken meaning
with_meaning default broken None = rw (answer_unwanted default broken) refl
with_meaning default broken (Some a) = rw (answer_wanted default a broken) refl

answer_meant : {A : Type 0} (default : A) (broken : Broken) (meaning : List ℕ → Option A) (text : List ℕ) → answer (where_there (as_meant default broken meaning) (Some text)) ≡ meant broken (meaning text)
answer_meant default broken meaning text = answer_there (as_meant default broken meaning) text ∙ with_meaning default broken (meaning text)

after_text : {A : Type 0} (default : A) (rule : Rule) (meaning : List ℕ → Option A) (path : List ℕ) (m : Member) (d : Data) → answer (meant_where_there default rule meaning path m d) ≡ and_then (answer (text_where_there path m (Some d))) (λ text. answer (where_there (as_meant default (fault_at rule (under path m)) meaning) text))
unfolding meant_where_there
after_text default rule meaning path m d = answer_bind (text_where_there path m (Some d)) (λ text. where_there (as_meant default (fault_at rule (under path m)) meaning) text)

pub meant_refused : {A : Type 0} (default : A) (rule : Rule) (meaning : List ℕ → Option A) (path : List ℕ) (m : Member) (d : Data) (fault : Broken) → answer (text_where_there path m (Some d)) ≡ Err fault → answer (meant_where_there default rule meaning path m d) ≡ Err fault
meant_refused default rule meaning path m d fault refused = after_text default rule meaning path m d ∙ rw refused refl

pub meant_absent : {A : Type 0} (default : A) (rule : Rule) (meaning : List ℕ → Option A) (path : List ℕ) (m : Member) (d : Data) → answer (text_where_there path m (Some d)) ≡ Ok None → answer (meant_where_there default rule meaning path m d) ≡ Ok None
meant_absent default rule meaning path m d absent = after_text default rule meaning path m d ∙ rw absent (answer_absent (as_meant default (fault_at rule (under path m)) meaning))

pub meant_there : {A : Type 0} (default : A) (rule : Rule) (meaning : List ℕ → Option A) (path : List ℕ) (m : Member) (d : Data) (text : List ℕ) → answer (text_where_there path m (Some d)) ≡ Ok (Some text) → answer (meant_where_there default rule meaning path m d) ≡ meant (fault_at rule (under path m)) (meaning text)
meant_there default rule meaning path m d text there = after_text default rule meaning path m d ∙ rw there (answer_meant default (fault_at rule (under path m)) meaning text)
