-- The texts of the outcome words.
use Rattle.std.specs.Prelude.{ℕ, List, codes}
use Rattle.item_codec.specs.declared.word.Word as outcome
use Rattle.item_codec.specs.declared.word.Word.TheVariants.{New, Same, Pending, Moved, Removed, Held, Released, Stranger, Renewed, Ended, Rejected, Approved, Revoked, Bound, Unbound, Set}

unfoldable pub text_of : outcome.Word → List ℕ
text_of New = codes "new"
text_of Same = codes "same"
text_of Pending = codes "pending"
text_of Moved = codes "moved"
text_of Removed = codes "removed"
text_of Held = codes "held"
text_of Released = codes "released"
text_of Stranger = codes "stranger"
text_of Renewed = codes "renewed"
text_of Ended = codes "ended"
text_of Rejected = codes "rejected"
text_of Approved = codes "approved"
text_of Revoked = codes "revoked"
text_of Bound = codes "bound"
text_of Unbound = codes "unbound"
text_of Set = codes "set"
