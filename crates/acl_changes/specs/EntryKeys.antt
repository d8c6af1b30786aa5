-- Keys, by their kinds and texts.
use Rattle.std.specs.Prelude.{ℕ, List}
use Rattle.acl_model.specs.declared.binding.MemberKey.{MemberKey}
use Rattle.acl_model.specs.SortKeys.{key_kind, key_text}

unfoldable pub key_parts : MemberKey → ℕ × List ℕ
key_parts key = (key_kind key, key_text key)
