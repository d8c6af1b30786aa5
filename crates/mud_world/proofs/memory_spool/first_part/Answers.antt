use Rattle.std.proofs.Common.{◌≡◌, ℕ, List, length, min, take, ap, ◌∙◌}
use Rattle.std.proofs.lemmas.List.{take_min}
use Rattle.std.proofs.lemmas.Result.{IfOk-weaker}
use Rattle.mud_world.specs.Files.{most_read, read_part}
use Rattle.mud_world.proofs.memory_spool.first_part.Goals as goal

-- the number of octets by its name, since a front of so many unfolds to the end at its numeral
named : (n len : ℕ) → n ≡ min 262145 len → n ≡ min most_read len
unfolding most_read
named n len e = e

-- a front of at most so many octets
take_most : (n : ℕ) (octets : List ℕ) → n ≡ min most_read (length octets) → take n octets ≡ read_part octets
take_most n octets e = ap (λ (k : ℕ). take k octets) e ∙ take_min most_read octets

pub returns-clause-octets : goal.returns-clause-octets
returns-clause-octets c =
    let content = c.args.content.now in
    let front = take_most c.min-most.result content (named c.min-most.result (length content) c.min-most.ensures) in
    IfOk-weaker c.new.result _ _ (λ octets is. is ∙ front) c.new.ensures
