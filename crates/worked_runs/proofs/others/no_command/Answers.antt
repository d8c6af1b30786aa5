use Rattle.std.proofs.Common.{List, ℕ, codes, [], ◌∷◌, ◌∙◌, ap}
use Rattle.mud_world.specs.MemoryConnections.{first_state}
use Rattle.mud_world.specs.MemoryDoor.{memory_state}
use Rattle.mud_world.specs.declared.memory_clock.MemoryClock.{MemoryClock}
use Rattle.mud_world.specs.declared.memory_door.MemoryDoor.{MemoryDoor}
use Rattle.mud_world.specs.declared.memory_keeper.MemoryKeeper.{MemoryKeeper}
use Rattle.mud_world.specs.declared.memory_spool.MemorySpool.{MemorySpool}
use Rattle.mud_cli.specs.Runs.{World}
use Rattle.run_words.specs.Words.{command_in}
use Rattle.worked_runs.proofs.Examples.{judge_alone}
use Rattle.worked_runs.proofs.others.no_command.Goals as goal

pub returns : goal.returns
returns c =
    let given = c.given_alone-given.ensures in
    let ran = c.in_ok-ended.ensures in
    let two = ran.unlisted (ap command_in (given.words_are ∙ c.in_ok-words.ensures) ∙ judge_alone) in
    let same = ran.untouched two in
    let door = ap (λ (w : World MemoryDoor MemorySpool MemoryClock). w.door) same.1 in
    record {
      status_is = two;
      door_is = ap memory_state door ∙ ran.door_is.state ∙ ap (λ (pieces : List (List ℕ)). first_state (pieces ∷ [])) (given.pieces_are ∙ c.new.ensures);
      reads = ap (λ (d : MemoryDoor). d.read_count) door ∙ ran.door_is.reads;
      writes = ap (λ (d : MemoryDoor). d.write_count) door ∙ ran.door_is.writes;
      items = ap (λ (k : MemoryKeeper). k.items.rows) same.0 ∙ ran.keeper_is.given ∙ given.items_are;
      faults = ap (λ (k : MemoryKeeper). k.count) same.0 ∙ ran.keeper_is.count;
    }
