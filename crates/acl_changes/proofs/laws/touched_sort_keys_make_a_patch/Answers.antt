use Rattle.acl_changes.proofs.Edits.{bindings_patch}
use Rattle.acl_changes.proofs.laws.touched_sort_keys_make_a_patch.Goals as goal

pub returns : goal.returns
returns c = bindings_patch
