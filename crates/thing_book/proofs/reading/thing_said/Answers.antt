use Rattle.std.proofs.Common.{true, false, sym}
use Rattle.std.specs.Option.{option_map}
use Rattle.mud_url.specs.Url.{is_canonical}
use Rattle.thing_book.specs.Said.{thing_said}
use Rattle.thing_book.proofs.Readings.{canonical_none, canonical_some, pending_some, not_url, not_pending, sound_or_not}
use Rattle.thing_book.proofs.reading.thing_said.Goals as goal

pub returns-in_err-url : goal.returns-in_err-url
unfolding thing_said
returns-in_err-url c =
    let url = c.args.said.url.now in
    rw c.from_residual.ensures (sym (not_url (thing_said c.args.mac.0 c.args.said) (canonical_none (is_canonical url) url c.in_err-url.ensures)))

pub returns-in_err-pending : goal.returns-in_err-pending
unfolding thing_said
returns-in_err-pending c = rw c.from_residual-in_err-pending.ensures (sym (not_pending (thing_said c.args.mac.0 c.args.said) c.in_err-pending.ensures))

pub returns-then-is_sound_thing : goal.returns-then-is_sound_thing
unfolding thing_said
returns-then-is_sound_thing c =
    let said = c.args.said in
    sound_or_not c.args.mac c.in_ok-url.url said.url.now c.in_ok-pending.pending (option_map (λ text. text.now) said.pending) said.leases said.held true
    (canonical_some (is_canonical said.url.now) said.url.now c.in_ok-url.url c.in_ok-url.ensures) (pending_some _ c.in_ok-pending.pending c.in_ok-pending.ensures) c.if-is_sound_thing.ensures

pub returns-else-is_sound_thing : goal.returns-else-is_sound_thing
unfolding thing_said
returns-else-is_sound_thing c =
    let said = c.args.said in
    sound_or_not c.args.mac c.in_ok-url.url said.url.now c.in_ok-pending.pending (option_map (λ text. text.now) said.pending) said.leases said.held false
    (canonical_some (is_canonical said.url.now) said.url.now c.in_ok-url.url c.in_ok-url.ensures) (pending_some _ c.in_ok-pending.pending c.in_ok-pending.ensures) c.if-is_sound_thing.ensures
