use Rattle.std.proofs.Common.{Ok, Err}
use Rattle.std.proofs.lemmas.List.Sorted.{searched}
use Rattle.thing_book.proofs.NumberLaws.{not_among}
use Rattle.thing_book.proofs.numbers.found_in.Goals as goal

pub returns-in-Ok-clause-found : goal.returns-in-Ok-clause-found
returns-in-Ok-clause-found c = searched c.args.numbers.now c.args.number (Ok c.in-Ok.index) c.in-Ok.ensures.position c.requires.rising

pub returns-in-Err-clause-none : goal.returns-in-Err-clause-none
returns-in-Err-clause-none c = not_among c.args.numbers.now c.args.number c.in-Err.field-0 (searched c.args.numbers.now c.args.number (Err c.in-Err.field-0) c.in-Err.ensures.position c.requires.rising)
