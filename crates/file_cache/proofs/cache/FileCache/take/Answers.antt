use Rattle.std.proofs.Common.{◌≡◌, List, Some, None, ap, sym, subst, ◌∙◌, if◌then◌else◌}
use Rattle.std.specs.Prelude.{IfOk}
use Rattle.usage_tables.specs.declared.cached_file.CachedFile.{CachedFile}
use Rattle.usage_tables.specs.FileItems.{with_file_item}
use Rattle.file_cache.specs.Changes.{Files}
use Rattle.file_cache.proofs.TakeLaws.{taken_as, untaken, sound_pushed}
use Rattle.file_cache.proofs.cache.FileCache.take.Goals as goal

pub invariant_of-self : goal.invariant_of-self
invariant_of-self c =
    sound_pushed c.self.inside.files.rows c.push.new.files.rows c.args.item.now c.in-Some.row (sym c.in_ok-row.ensures ∙ c.in-Some.is) c.push.result c.self.invariant c.push.ensures.taken c.push.ensures.rows c.push.ensures.memory

pub returns-in-Some-clause-taken : goal.returns-in-Some-clause-taken
returns-in-Some-clause-taken c =
    subst (λ (fs : List CachedFile). IfOk c.push.result (λ taken. with_file_item fs c.args.item.now ≡ (if taken then Some c.push.new.files.rows else None))) (ap (λ (x : Files). x.files) c.self.view_is)
    (taken_as c.self.inside.files.rows c.push.new.files.rows c.args.item.now c.in-Some.row (sym c.in_ok-row.ensures ∙ c.in-Some.is) c.push.result c.push.ensures.taken c.push.ensures.rows)

pub returns-in-None-clause-taken : goal.returns-in-None-clause-taken
returns-in-None-clause-taken c =
    subst (λ (fs : List CachedFile). with_file_item fs c.args.item.now ≡ None) (ap (λ (x : Files). x.files) c.self.view_is) (untaken c.self.inside.files.rows c.self.inside.files.rows c.args.item.now (sym c.in_ok-row.ensures ∙ c.in-None.is))
