use Rattle.std.proofs.Common.{ap, ◌∙◌}
use Rattle.std.specs.Prelude.{max}
use Rattle.mud_desk.specs.DeskState.{session_of}
use Rattle.console.specs.Replies.{reply}
use Rattle.console.specs.Requests.{by_listing}
use Rattle.console.proofs.Standing.{listed, wanted}
use Rattle.console.proofs.listings.answer_listing.Goals as goal

pub returns-in-Ok-clause-reply : goal.returns-in-Ok-clause-reply
returns-in-Ok-clause-reply g c =
    listed c.args.listing c.args.desk.now.state (session_of c.raise.new.desk.state) c.args.given c.later-now.result c.keep.new.self
    (c.later-now.ensures ∙ ap (λ m. max m c.args.given) c.moment.ensures) (c.keep.ensures ∙ c.in-Ok.ensures) c.raise.ensures.raised

pub returns-in-Err-clause-reply : goal.returns-in-Err-clause-reply
returns-in-Err-clause-reply g c =
    let session = session_of c.args.desk.now.state in
    wanted ⊥ session (by_listing session c.args.given c.args.listing) (reply c.want_memory.result c.want_memory.new.body) c.want_memory.ensures.reply
