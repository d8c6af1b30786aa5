use Rattle.std.proofs.Common.{◌≡◌, ◌++◌, take, slice_index, flat_map}
use Rattle.mud_base.specs.Texts.{hex_pair}
use Rattle.mud_base.proofs.texts.mac_text.Given as goal
use Rattle.mud_base.proofs.Parts.{colon_pair}

abbrev pub invariant-loop-octet : goal.invariant-loop-octet
invariant-loop-octet l = l.text ≡ hex_pair (slice_index l.fn.mac.0 0) ++ flat_map colon_pair (take l.octet-index l.rest)
