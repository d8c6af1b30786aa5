-- What imports and verdicts are refused, case by case. More steps are worked out beside their definitions.
use Rattle.std.proofs.Common.{◌≡◌, ℕ, true, false, List, length, Some, None, Err, refl}
use Rattle.std.specs.Prelude.{nat_le, nat_lt, bytes_eq}
use Rattle.mud_file.specs.declared.usage_file.UsageFile.{UsageFile}
use Rattle.usage_tables.specs.declared.approval.Approval.{Approval}
use Rattle.usage_tables.specs.declared.approval.OperatorVerdict.{OperatorVerdict}
use Rattle.usage_tables.specs.declared.approval.OperatorVerdict.TheVariants as verdict
use Rattle.usage_tables.specs.declared.cached_file.CachedFile.{CachedFile}
use Rattle.usage_tables.specs.declared.cache_fault.CacheFault.TheVariants.{CacheFull, Digest, NoSignature, PolicyFull}
use Rattle.usage_tables.specs.Held.{HeldFile, digest_of}
use Rattle.usage_tables.specs.Files.{set_file, is_signed, entry_count}
use Rattle.usage_tables.specs.FileCommands.{import_cases, approved_row, approve, ruled, candidate_cases}

-- 128 URLs are held, and not this one
no_room : (held : HeldFile) (file : UsageFile) (files : List CachedFile) → nat_le 128 (length files) ≡ true → import_cases held file files None ≡ Err CacheFull
unfolding import_cases
no_room held file files e = rw e refl

-- the candidate has another digest
other_digest : (url digest : List ℕ) (v : OperatorVerdict) (files : List CachedFile) (row : CachedFile) (candidate : HeldFile) → bytes_eq (digest_of candidate.octets) digest ≡ false
    → candidate_cases url digest v files row (Some candidate) ≡ Err Digest
unfolding candidate_cases
other_digest url digest v files row candidate e = rw e refl

-- a file without a signature can't be verified
unsigned : (url : List ℕ) (files : List CachedFile) (row : CachedFile) (candidate : HeldFile) → is_signed candidate ≡ false → ruled url files row candidate verdict.Verified ≡ Err NoSignature
unfolding ruled
unsigned url files row candidate e = rw e refl

-- the approved files would have 4,097 entries
full : (url : List ℕ) (files : List CachedFile) (row : CachedFile) (candidate : HeldFile) (a : Approval) → nat_lt 4096 (entry_count (set_file (approved_row row candidate a) files)) ≡ true
    → approve url files row candidate a ≡ Err PolicyFull
unfolding approve
full url files row candidate a e = rw e refl
