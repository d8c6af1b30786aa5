use Rattle.std.proofs.Common.{◌≡◌, ℕ, ◌+◌, ◌%◌, ◌<◌, List, [], ◌∷◌, ◌++◌, ◌==◌, if◌then◌else◌, length, get_or, sym, ap, subst, ◌∙◌, arith}
use Rattle.std.proofs.Math.ListN.{set}
use Rattle.std.proofs.lemmas.List.{take_more_set}
use Rattle.thing_book.specs.Numbers.{AreSpotted}
use Rattle.thing_book.proofs.NumberLaws.{length_counted, spotted_more}
use Rattle.thing_book.proofs.numbers.ThingNumbers.push.Goals as goal

pub invariant_of-self : goal.invariant_of-self
invariant_of-self c =
    let room = c.self.inside.room in
    let spots = c.self.inside.spots in
    let count = c.self.inside.count in
    let number = c.number_of-number.result in
    let is : c.spot_of-spot.result ≡ number % 2048 = c.spot_of-spot.ensures.value in
    let fits : count < 512 = omega (arith, c.requires, length_counted room spots count c.self.invariant, ap length c.self.view_is) in
    subst (λ (s : ℕ). AreSpotted (set room count number) (set spots s c.taken_by.result) (count + 1)) (sym is)
    (spotted_more room spots count c.self.invariant number c.taken_by.result fits
    (c.taken_by.ensures ∙ ap (λ (s : ℕ). if get_or spots s 0 == 65534 then count else 65535) is))

pub returns-clause-number : goal.returns-clause-number
returns-clause-number c =
    let room = c.self.inside.room in
    let count = c.self.inside.count in
    let old = c.args.self.now in
    take_more_set room count c.number_of-number.result (omega (arith, c.self.invariant.room_is, c.requires, length_counted room c.self.inside.spots count c.self.invariant, ap length c.self.view_is))
    ∙ ap (λ (l : List ℕ). l ++ c.number_of-number.result ∷ []) c.self.view_is
    ∙ ap (λ (n : ℕ). old ++ n ∷ []) c.number_of-number.ensures
