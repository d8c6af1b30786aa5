use Rattle.std.proofs.Common.{ℕ, Bool, cond, List, ap₂}
use Rattle.sqlite_disk.specs.Events.{Event, replay}
use Rattle.sqlite.specs.Recovery.{Image}
use Rattle.keep_sqlite.specs.Refusals.{refusal_of}
use Rattle.keep_sqlite.proofs.FileKeepers.{if_some_map, just_opened, unconnected}
use Rattle.keep_sqlite.proofs.Opens.{if_err_map}
use Rattle.keep_sqlite.proofs.Reopens.{if_ok_told}
use Rattle.keep_sqlite.proofs.first_opening.connect.Goals as goal

abbrev image : List ℕ → List ℕ → Image
image log db = record { log = log; db = db }

abbrev seen : List ℕ → List ℕ → Bool → List Event → List ℕ
seen log db is_log history = (replay (cond is_log log db) history).seen

pub returns-clause-opened : goal.returns-clause-opened
returns-clause-opened g c =
    if_ok_told (λ failed. refusal_of failed.0) c.open_from.result c.connected.result _ c.connected.ensures.ok c.connected.ensures.err
    (just_opened _ c.open_from.result c.open_from.ensures.fresh c.open_from.ensures.opened c.open_from.ensures.found c.open_from.ensures.sums c.open_from.ensures.guarded)

pub returns-clause-unopened : goal.returns-clause-unopened
returns-clause-unopened g c =
    unconnected _ c.open_from.result c.connected.result c.connected.ensures.ok c.connected.ensures.err c.open_from.ensures.unopened
    (if_err_map c.open_from.result c.open_from.ensures.cause (λ e some. if_some_map e.1 some (λ left (files, log, db, fails). record {
      files = files;
      left = left;
      held = ap₂ image (ap₂ (seen g.S.Start.log g.S.Start.db) log.0 log.1) (ap₂ (seen g.S.Start.log g.S.Start.db) db.0 db.1);
      fails = fails;
    })))
