use Rattle.std.proofs.Common.{ap, ◌∙◌, Some, List, ℕ}
use Rattle.mud_base.specs.declared.packet.Fields.{Fields}
use Rattle.table_model.specs.Tables.{is_bound}
use Rattle.run_packets.specs.Snoop.Learning.{is_from_dns}
use Rattle.run_packets.proofs.SnoopLaws.Hearing.{heard_here, true_of}
use Rattle.run_packets.proofs.snoop.learning.heard_in.Goals as goal
use Rattle.run_packets.proofs.Parts.{dns_class}

pub returns : goal.returns
returns c =
    ap (λ (octets : List ℕ). Some octets) c.payload.ensures
    ∙ heard_here c.args.classes.now c.args.judged.now.frame c.args.judged.now.verdict c.in-Packet.packet
    (true_of _ _ c.if-not-is_let_through.false c.is_let_through.ensures)
    c.in-Packet.is
    (true_of _ _ c.if-not-is_from_dns.false (c.is_from_dns.ensures ∙ ap (λ (fields : Fields). is_from_dns fields.transport) c.fields-fields.ensures))
    (true_of _ _ c.if-not-is_dns_server.false (c.is_dns_server.ensures ∙ ap (λ (fields : Fields). is_bound dns_class fields.src c.args.classes.now) c.fields-fields.ensures))
