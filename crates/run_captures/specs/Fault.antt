-- The names and offsets of the faults of a capture, in whichever format.
use Rattle.std.specs.Prelude.{ℕ, Bool, false, List, Option, Result, Ok, Err}
use Rattle.pcap_read.specs.Fault as classic
use Rattle.pcapng_read.specs.Fault as next
use Rattle.run_captures.specs.declared.fault.CaptureFault.{CaptureFault}
use Rattle.run_captures.specs.declared.fault.CaptureFault.TheVariants.{Classic, Next}

abbrev pub name_of : CaptureFault → List ℕ
name_of (Classic fault) = classic.name_of fault
name_of (Next fault) = next.name_of fault

abbrev pub offset_of : CaptureFault → Option ℕ
offset_of (Classic fault) = classic.offset_of fault
offset_of (Next fault) = next.offset_of fault

abbrev pub is_read_fault : CaptureFault → Bool
is_read_fault (Classic fault) = classic.is_read_fault fault
is_read_fault (Next fault) = next.is_read_fault fault

-- whether the octets end within something that begins there
abbrev pub is_cut : CaptureFault → Bool
is_cut (Classic fault) = classic.is_cut fault
is_cut (Next fault) = next.is_cut fault

-- whether the source failed
abbrev pub has_failed : {A : Type 0} → Result A CaptureFault → Bool
has_failed (Ok a) = false
has_failed (Err fault) = is_read_fault fault
