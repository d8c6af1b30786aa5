use Rattle.std.proofs.Common.{sym}
use Rattle.std.proofs.Math.Path.{transport}
use Rattle.acl_compile.specs.UrlSlots.{IsSoundWithSlots}
use Rattle.acl_compile.proofs.CompiledLaws.{nothing_is_sound}
use Rattle.acl_compile.proofs.compiled.Compiled.new.Goals as goal

pub invariant_of-result : goal.invariant_of-result
invariant_of-result c =
    transport (λ i. IsSoundWithSlots (sym c.new-2.ensures.items i) (sym c.new-4.ensures.rows i) (sym c.new-5.ensures.rows i) (sym c.in_ok-defaults.ensures i) (sym c.new-3.ensures.rows i) c.new-6.result) (nothing_is_sound c.new-6.result)
