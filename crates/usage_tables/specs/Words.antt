-- The words for what the operator said of a file, as lines and bodies have them.
use Rattle.std.specs.Prelude.{ℕ, List, codes}
use Rattle.usage_tables.specs.declared.approval.Approval.{Approval}
use Rattle.usage_tables.specs.declared.approval.Approval.TheVariants.{Verified, Waived}

unfoldable pub approval_word : Approval → List ℕ
approval_word Verified = codes "verified"
approval_word Waived = codes "waived"
