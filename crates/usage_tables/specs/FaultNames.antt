-- The numbers and names of the refusals.
use Rattle.std.specs.Prelude.{ℕ, List, codes}
use Rattle.usage_tables.specs.declared.cache_fault.CacheFault.{CacheFault}
use Rattle.usage_tables.specs.declared.cache_fault.CacheFault.TheVariants.{Memory, File, Older, CacheFull, NoCandidate, Digest, NoSignature, NotApproved, PolicyFull}

-- want of memory has no number of its own
unfoldable pub number_of_cache_fault : CacheFault → ℕ
number_of_cache_fault Memory = 0
number_of_cache_fault (File broken) = 1
number_of_cache_fault Older = 2
number_of_cache_fault CacheFull = 3
number_of_cache_fault NoCandidate = 4
number_of_cache_fault Digest = 5
number_of_cache_fault NoSignature = 6
number_of_cache_fault NotApproved = 7
number_of_cache_fault PolicyFull = 8

unfoldable pub name_of_cache_fault : CacheFault → List ℕ
name_of_cache_fault Memory = codes "Memory"
name_of_cache_fault (File broken) = codes "File"
name_of_cache_fault Older = codes "Older"
name_of_cache_fault CacheFull = codes "CacheFull"
name_of_cache_fault NoCandidate = codes "NoCandidate"
name_of_cache_fault Digest = codes "Digest"
name_of_cache_fault NoSignature = codes "NoSignature"
name_of_cache_fault NotApproved = codes "NotApproved"
name_of_cache_fault PolicyFull = codes "PolicyFull"
