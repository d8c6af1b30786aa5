-- What a binding whose key is lent stands for.
use Rattle.std.specs.Prelude.{Bool}
use Rattle.acl_model.specs.declared.binding.MemberKey.{MemberKey}
use Rattle.acl_model.specs.declared.binding.MemberKey.TheVariants as of_key
use Rattle.acl_model.specs.declared.binding.Binding.{Binding}
use Rattle.acl_model.specs.Changes.{same_binding}
use Rattle.table_laws.specs.declared.lent.LentKey.{LentKey}
use Rattle.table_laws.specs.declared.lent.LentKey.TheVariants.{Host, Model, Class, Mine, Name}
use Rattle.table_laws.specs.declared.lent.LentBinding.{LentBinding}

unfoldable pub lent_key : LentKey → MemberKey
lent_key (Host host) = of_key.Host host.now
lent_key (Model url) = of_key.Model url.now
lent_key (Class uri) = of_key.Class uri.now
lent_key (Mine url) = of_key.Mine url.now
lent_key (Name name) = of_key.Name name.now

unfoldable pub lent_binding : LentBinding → Binding
lent_binding b = record { key = lent_key b.key; addr = b.addr; until = b.until }

-- both stand for one binding
unfoldable pub is_lent : LentBinding → LentBinding → Bool
is_lent b c = same_binding (lent_binding b) (lent_binding c)
