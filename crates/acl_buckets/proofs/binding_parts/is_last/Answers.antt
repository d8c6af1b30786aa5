use Rattle.std.proofs.Common.{Some, ap, ◌∙◌}
use Rattle.std.specs.Option.{option_copied}
use Rattle.acl_buckets.proofs.binding_parts.is_last.Goals as goal

pub returns-in-Some : goal.returns-in-Some
returns-in-Some c = λ same. ap option_copied c.in-Some.is ∙ ap Some (c.same_key.ensures.equal.0 same)
