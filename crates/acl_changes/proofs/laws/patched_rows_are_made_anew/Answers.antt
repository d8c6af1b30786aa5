use Rattle.acl_changes.proofs.Patches.{patched}
use Rattle.acl_changes.proofs.Apart.{few_edits}
use Rattle.acl_changes.proofs.laws.patched_rows_are_made_anew.Goals as goal

pub returns-clause-rows : goal.returns-clause-rows
returns-clause-rows c = patched

pub returns-clause-few : goal.returns-clause-few
returns-clause-few c = few_edits
