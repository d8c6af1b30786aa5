use Rattle.std.proofs.Common.{sym, ◌∙◌}
use Rattle.httparse.specs.Spans.{header_bytes}
use Rattle.http_requests.proofs.Values.{values_with, values_without}
use Rattle.http_requests.proofs.fields.values_of.Goals as goal
use Rattle.http_requests.proofs.fields.values_of.Goals.{then-is_named, else-is_named}

pub loop-field-preserved : goal.loop-field-preserved
loop-field-preserved c =
    let bytes = header_bytes c.args.octets.now in
    elim c.if-is_named.branch [
      | then-is_named w ↦
          values_with c.args.name.now bytes c.args.fields.now c.loop-field.field-index _ w.of.result.now c.loop-field.values w.with_value-values.result c.if-is_named.values
          c.loop-field-test.true (sym c.is_named.ensures ∙ w.if-is_named.true) w.of.ensures w.with_value-values.ensures w.values-is c.loop-field.invariant
      | else-is_named w ↦
          values_without c.args.name.now bytes c.args.fields.now c.loop-field.field-index _ c.loop-field.values c.if-is_named.values
          c.loop-field-test.true (sym c.is_named.ensures ∙ w.if-is_named.false) w.values-is c.loop-field.invariant
    ]
