-- Small laws of the standard library's words.
use Rattle.std.proofs.Common.{Option, Some, None, IfSome}

pub if_some_any : {A P : Type 0} (o : Option A) → P → IfSome o (λ _. P)
if_some_any None p = tt
if_some_any (Some a) p = p
