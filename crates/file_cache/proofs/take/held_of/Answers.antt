use Rattle.std.proofs.Common.{◌≡◌, true, false, sym, subst, ◌∙◌}
use Rattle.usage_tables.specs.Held.{HeldFile, held_file}
use Rattle.usage_tables.specs.Files.{is_held}
use Rattle.file_cache.proofs.TakeLaws.{late, unread, other_url, held_so}
use Rattle.file_cache.proofs.take.held_of.Goals as goal

pub returns-in_default : goal.returns-in_default
returns-in_default c = subst (λ (p : HeldFile). is_held c.args.url.now p ≡ false) c.part.view_is (late c.args.url.now (held_file c.part.inside.octets.now c.part.inside.fetched) c.in_default.ensures)

pub returns-in_default-2 : goal.returns-in_default-2
returns-in_default-2 c = subst (λ (p : HeldFile). is_held c.args.url.now p ≡ false) c.part.view_is (unread c.args.url.now (held_file c.part.inside.octets.now c.part.inside.fetched) (rw c.in_default-2.is at c.in_ok-file.ensures))

pub returns-else-eq : goal.returns-else-eq
returns-else-eq c =
    let other = rw c.text.ensures.value at c.if-eq.ensures in
    subst (λ (p : HeldFile). is_held c.args.url.now p ≡ false) c.part.view_is (other_url c.args.url.now (held_file c.part.inside.octets.now c.part.inside.fetched) c.in-Some-2.file (rw c.in-Some-2.is at c.in_ok-file.ensures) (sym other))

pub returns-in-Ok : goal.returns-in-Ok
returns-in-Ok c =
    let same = rw c.text.ensures.value at c.if-eq.ensures in
    let part : HeldFile = held_file c.part.inside.octets.now c.part.inside.fetched in (
      (rw (c.in-Ok.ensures, c.in-Some.ensures.1) at c.new-then-eq-2.ensures) ∙ c.part.view_is,
      subst (λ (p : HeldFile). is_held c.args.url.now p ≡ true) c.part.view_is (held_so c.args.url.now part c.in-Some-2.file (rw c.in-Some-2.is at c.in_ok-file.ensures) (sym same) c.in-Some.ensures.0),
    )
