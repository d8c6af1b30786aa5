-- What is done of what is heard in a packet: each address is observed, one after the other, at one moment.
use Rattle.std.specs.Prelude.{◌≡◌, ℕ, nat_lt, Bool, List, ◌++◌, length, take, Some, Ok}
use Rattle.mud_base.specs.declared.addr.Addr.{Addr}
use Rattle.mud_world.specs.Causes.{RoseBy}
use Rattle.desk_model.specs.declared.reply.Reply.{Reply}
use Rattle.desk_model.specs.Sessions.{Session, Runs}
use Rattle.run_packets.specs.Snoop.Entries.{Heard, calls_of, heard_lines, NoneOfMemory, failures}

-- these addresses are heard under this name
abbrev pub names_of : List ℕ → List (Addr × ℕ) → Heard
names_of name rows = Some (Ok (record { name = name; rows = rows }))

-- Each address was observed, the lines were added, and it is told whether the keeper failed at one.
pub record Learns (moment : ℕ) (heard : Heard) (before after : Session) (old new : List ℕ) (faults faults_after : ℕ) (failed : Bool) : Type 0 where
  pub replies : List Reply
  pub run : Runs before (calls_of moment heard) replies after
  pub told : NoneOfMemory replies
  pub added : new ≡ old ++ heard_lines heard replies
  pub failed_is : failed ≡ nat_lt 0 (failures replies)
  pub paid : RoseBy (failures replies) faults faults_after

-- Some of the addresses were observed, from the first on.
pub record LearnsFirst (moment : ℕ) (heard : Heard) (before after : Session) (faults faults_after : ℕ) : Type 0 where
  pub replies : List Reply
  pub run : Runs before (take (length replies) (calls_of moment heard)) replies after
  pub told : NoneOfMemory replies
  pub paid : RoseBy (failures replies) faults faults_after
