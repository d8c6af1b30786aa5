use Rattle.std.proofs.Common.{◌<◌, ◌-◌, List, [], ℕ, length, take, drop, sym, ap, ◌∙◌, arith}
use Rattle.std.proofs.lemmas.List.{take_rest}
use Rattle.mud_world.proofs.Wires.{rest_at}
use Rattle.mud_world.proofs.wire.octets_at.Goals as goal

pub returns-in-Some-clause-octets : goal.returns-in-Some-clause-octets
returns-in-Some-clause-octets c =
    let look = c.in-Some.ensures.lookup in
    let p = c.in-Some.octets.now in
    let within : c.args.offset < length p = omega (arith, c.requires look.3.0, ap length (look.3.1 [])) in
    ap (λ (o : List ℕ). take (length o - c.args.offset) (drop c.args.offset o)) c.octets.ensures
    ∙ take_rest p c.args.offset ∙ sym (rest_at c.args.pieces.now c.args.piece c.args.offset p look.3.0 look.1 within)
