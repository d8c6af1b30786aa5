use Rattle.std.proofs.Common.{sym, ap, ◌∙◌}
use Rattle.thing_book.specs.Planned.{Things}
use Rattle.thing_book.proofs.Taking.{none_taken, sound_behind, says_taken, says_refused}
use Rattle.thing_book.proofs.book.ThingBook.take.Goals as goal

pub returns-in_default-clause-refused : goal.returns-in_default-clause-refused
returns-in_default-clause-refused c = λ _. none_taken c.args.self.now.things c.args.item.now (sym c.in_default.is ∙ c.in_ok-thing.ensures.value)

pub invariant_of-self : goal.invariant_of-self
invariant_of-self c = record {
  sound = sound_behind c.self.inside.things.rows c.follow.new.things.rows c.in-Some.thing c.follow.result c.self.invariant.sound
      (rw c.in-Some.is at c.in_ok-thing.ensures.kept) c.follow.ensures.may c.follow.ensures.rows c.follow.ensures.err;
  numbered = c.follow.ensures.numbered;
}

pub returns-clause-taken : goal.returns-clause-taken
returns-clause-taken c =
    says_taken c.self.inside.things.rows c.follow.new.things.rows c.in-Some.thing c.follow.result c.args.self.now.things c.args.item.now
    (ap (λ (b : Things). b.things) c.self.view_is) (sym c.in-Some.is ∙ c.in_ok-thing.ensures.value) c.follow.ensures.may c.follow.ensures.rows

pub returns-clause-refused : goal.returns-clause-refused
returns-clause-refused c =
    says_refused c.self.inside.things.rows c.follow.new.things.rows c.in-Some.thing c.follow.result c.args.self.now.things c.args.item.now
    (ap (λ (b : Things). b.things) c.self.view_is) (sym c.in-Some.is ∙ c.in_ok-thing.ensures.value) c.follow.ensures.may
