use Rattle.std.proofs.Common.{◌≡◌, ◌<◌}
use Rattle.http_requests.specs.Runs.{IsLeftBy}
use Rattle.http_requests.proofs.Serves.{Progress}
use Rattle.http_requests.proofs.serve.serve_connection.Given as goal

abbrev pub invariant-requests : goal.invariant-requests
invariant-requests g l =
    let door = g.D.Door in
    let service = g.S.Service in
    record {
      ready : service.ready l.service;
      left : (s : service.State) → service.keeps l.initial.service s → IsLeftBy service.may (service.keeps l.service) s;
      progress : door.tells → (s : service.State) → service.keeps l.initial.service s
          → Progress service.may service.refusal l.from (service.keeps l.service) l.more s (door.view l.initial.door).state (door.view l.door).state l.buffer;
      some : 0 < l.more;
      reads : (door.view l.door).reads ≡ (door.view l.initial.door).reads;
      turns : (door.view l.door).turns ≡ (door.view l.initial.door).turns;
      writes : (door.view l.door).writes ≡ (door.view l.initial.door).writes;
    }

abbrev pub decreases-requests : goal.decreases-requests
decreases-requests g l = l.more
