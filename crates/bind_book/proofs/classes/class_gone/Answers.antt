use Rattle.std.proofs.Common.{Some, ap, ◌∙◌}
use Rattle.table_model.specs.Binds.{key_of_class}
use Rattle.table_model.specs.declared.bind.Class.{Class}
use Rattle.table_model.specs.BindRowChanges.{class_left}
use Rattle.bind_book.proofs.classes.class_gone.Goals as goal

pub returns : goal.returns
unfolding class_left
returns c =
    let gone = c.new-2.ensures.gone ∙ ap (λ (class : Class). Some (key_of_class class)) c.in_ok-class.ensures in
    let sets = c.new-2.ensures.sets ∙ c.new.ensures in
    λ i. record { gone = gone i; sets = sets i }
