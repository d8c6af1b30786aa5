use Rattle.std.proofs.Common.{◌≡◌, List, ℕ, Option, Some, sym, subst}
use Rattle.std.specs.Prelude.{MatchOption}
use Rattle.table_model.specs.declared.bind.Class.{Class}
use Rattle.table_model.specs.BindItems.{class_of_key}
use Rattle.bind_book.specs.Reading.{IsNoClass}
use Rattle.bind_book.proofs.ReadLaws.{no_class}
use Rattle.bind_book.proofs.read.class_in.Goals as goal

pub returns-in_default : goal.returns-in_default
returns-in_default c =
    let key : List ℕ = c.octets.result.now in
    let none : IsNoClass key = subst (λ (o : Option Class). MatchOption o (IsNoClass key) (λ class. class_of_key key ≡ Some class)) c.in_default.is c.in_ok-class.ensures in
    sym (no_class c.args.item.now (subst IsNoClass c.octets.ensures none))
