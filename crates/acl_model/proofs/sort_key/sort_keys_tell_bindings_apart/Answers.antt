use Rattle.acl_model.proofs.SortKeyLaws.{binding_sort_key_exact}
use Rattle.acl_model.proofs.sort_key.sort_keys_tell_bindings_apart.Goals as goal

pub returns : goal.returns
returns c = binding_sort_key_exact
