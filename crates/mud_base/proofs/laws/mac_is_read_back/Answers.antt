use Rattle.std.proofs.Common.{rules, ◌≡◌, ◌<◌, ◌^◌, ℕ, arith, length, slice_index}
use Rattle.mud_base.proofs.MacTexts.{mac_in-mac_text}
use Rattle.mud_base.proofs.laws.mac_is_read_back.Goals as goal

pub returns : goal.returns
returns c =
    let six : length c.args.mac.0 ≡ 6 = omega arith in
    let small : (i : ℕ) → slice_index c.args.mac.0 i < 2 ^ 8 = search rules in
    mac_in-mac_text c.args.mac six small
