use Rattle.std.proofs.Common.{◌-◌, List, sym, ap, subst, ◌∙◌, arith}
use Rattle.bind_book.specs.Reading.{count_in}
use Rattle.bind_book.proofs.ReadLaws.{IsRest, no_count, first_rest, no_element, more_rest, whole_list, more_behind}
use Rattle.bind_book.proofs.read.list_in.Goals as goal

pub returns-in_default : goal.returns-in_default
returns-in_default g c = sym (no_count g.T.Element.element_in c.args.body.now (ap count_in (sym c.new-reader.ensures) ∙ c.in_default.ensures))

pub loop-left-init : goal.loop-left-init
loop-left-init g c =
    let value = g.T.Element.element_in in
    let body = c.args.body.now in
    let rest = c.read_count.new.reader in
    subst (λ (list : List g.row.T.Denot). IsRest value body list c.in-Some.count rest) (sym c.new-list.ensures) (first_rest value body c.in-Some.count rest (ap count_in (sym c.new-reader.ensures) ∙ c.in-Some.ensures))

pub returns-in_default-read : goal.returns-in_default-read
returns-in_default-read g c = sym (no_element g.T.Element.element_in c.args.body.now c.loop-left.list c.loop-left.left c.loop-left.reader c.loop-left-test.true c.loop-left.invariant c.in_default-read.ensures)

pub loop-left-preserved : goal.loop-left-preserved
loop-left-preserved g c =
    let value = g.T.Element.element_in in
    let body = c.args.body.now in
    subst (λ (list : List g.row.T.Denot). IsRest value body list (c.loop-left.left - 1) c.read.new.reader) (sym c.in_ok-push.ensures.ok)
    (more_rest value body c.loop-left.list c.loop-left.left (c.loop-left.left - 1) c.loop-left.reader c.in-Some-read.element c.read.new.reader (omega arith) c.loop-left.invariant c.in-Some-read.ensures)

pub returns-then-is_err : goal.returns-then-is_err
returns-then-is_err g c = sym (more_behind g.T.Element.element_in c.args.body.now c.loop-left.list c.loop-left.left c.loop-left.reader c.finish.result (omega arith) c.loop-left.invariant c.finish.ensures.value (sym c.is_err.ensures.value ∙ c.if-is_err.true))

pub returns : goal.returns
returns g c = sym (whole_list g.T.Element.element_in c.args.body.now c.loop-left.list c.loop-left.left c.loop-left.reader c.finish.result (omega arith) c.loop-left.invariant c.finish.ensures.value (sym c.is_err.ensures.value ∙ c.if-is_err.false))
