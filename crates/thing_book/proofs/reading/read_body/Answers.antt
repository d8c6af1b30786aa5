use Rattle.std.proofs.Common.{sym, ap, ◌∙◌}
use Rattle.item_codec.specs.Records.{version_to_in}
use Rattle.thing_book.specs.Said.{thing_said}
use Rattle.thing_book.proofs.Readings.{no_version, no_url, no_pending, no_leases, no_hold, not_ended, all_read}
use Rattle.thing_book.proofs.reading.read_body.Goals as goal

pub returns-in_default : goal.returns-in_default
returns-in_default c = λ key. sym (no_version key c.args.body.now (ap (version_to_in 2) (sym c.new-reader.ensures) ∙ c.in_default.ensures))

pub returns-in_default-read_text : goal.returns-in_default-read_text
returns-in_default-read_text c = λ key.
    sym (no_url key c.args.body.now _ _ (ap (version_to_in 2) (sym c.new-reader.ensures) ∙ c.in-Some.ensures) c.in_default-read_text.ensures)

pub returns-in_default-read_pending : goal.returns-in_default-read_pending
returns-in_default-read_pending c = λ key.
    sym (no_pending key c.args.body.now _ _ (ap (version_to_in 2) (sym c.new-reader.ensures) ∙ c.in-Some.ensures) _ _ c.in-Some-read_text.ensures c.in_default-read_pending.ensures)

pub returns-in_default-2 : goal.returns-in_default-2
returns-in_default-2 c = λ key.
    sym (no_leases key c.args.body.now _ _ (ap (version_to_in 2) (sym c.new-reader.ensures) ∙ c.in-Some.ensures) _ _ c.in-Some-read_text.ensures _ _ c.in-Some-read_pending.ensures (rw c.in_default-2.is at c.in_ok-leases.ensures))

pub returns-in_default-read_hold : goal.returns-in_default-read_hold
returns-in_default-read_hold c = λ key.
    sym (no_hold key c.args.body.now _ _ (ap (version_to_in 2) (sym c.new-reader.ensures) ∙ c.in-Some.ensures) _ _ c.in-Some-read_text.ensures _ _ c.in-Some-read_pending.ensures _ _ (rw c.in-Some-2.is at c.in_ok-leases.ensures) c.in_default-read_hold.ensures)

pub returns-then-not-is_at_end : goal.returns-then-not-is_at_end
returns-then-not-is_at_end c = λ key.
    sym (not_ended key c.args.body.now _ _ (ap (version_to_in 2) (sym c.new-reader.ensures) ∙ c.in-Some.ensures) _ _ c.in-Some-read_text.ensures _ _ c.in-Some-read_pending.ensures
    _ _ (rw c.in-Some-2.is at c.in_ok-leases.ensures) _ _ c.in-Some-read_hold.ensures (sym c.if-not-is_at_end.ensures))

pub returns : goal.returns
unfolding thing_said
returns c = λ key.
    sym (all_read key c.args.body.now _ _ (ap (version_to_in 2) (sym c.new-reader.ensures) ∙ c.in-Some.ensures) _ _ c.in-Some-read_text.ensures _ _ c.in-Some-read_pending.ensures
    _ _ (rw c.in-Some-2.is at c.in_ok-leases.ensures) _ _ c.in-Some-read_hold.ensures (sym c.if-not-is_at_end.ensures))
