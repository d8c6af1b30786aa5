use Rattle.std.proofs.Common.{◌≡◌, ◌≤◌}
use Rattle.http_requests.specs.Runs.{IsLeftBy}
use Rattle.http_requests.proofs.Visits.{Rounds}
use Rattle.http_requests.proofs.connections.serve_connections.Given as goal

abbrev pub invariant-loop-i : goal.invariant-loop-i
invariant-loop-i g l =
    let door = g.D.Door in
    let service = g.S.Service in
    record {
      ready : service.ready l.service;
      left : (s : service.State) → service.keeps l.initial.service s → IsLeftBy service.may (service.keeps l.service) s;
      served : door.tells → (s : service.State) → service.keeps l.initial.service s
          → Rounds service.may service.refusal l.from (service.keeps l.service) l.i s (door.view l.initial.door) (door.view l.door);
      reads : (door.view l.initial.door).reads ≤ (door.view l.door).reads;
      writes : (door.view l.initial.door).writes ≤ (door.view l.door).writes;
      turns : (door.view l.door).turns ≡ (door.view l.initial.door).turns;
    }
