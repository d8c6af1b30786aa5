-- Steps, items, digests and the end of a file's hours, worked out.
use Rattle.std.proofs.Common.{◌≡◌, ℕ, pos, true, false, List, [], ◌∷◌, Some, None, Err, refl}
use Rattle.std.specs.Prelude.{codes}
use Rattle.sha2.specs.Sha256.{sha256, digest_bytes, hash_after, compress, rounds, schedule, first_words}
use Rattle.hex.specs.Hex.{encode_with}
use Rattle.item_codec.specs.Spelling.{number, string, version, version_of}
use Rattle.item_codec.specs.Records.{optional}
use Rattle.item_codec.specs.declared.word.Word.TheVariants.{Same, Rejected, Revoked}
use Rattle.mud_file.specs.declared.usage_file.UsageFile.{UsageFile}
use Rattle.usage_tables.specs.declared.approval.Approval.TheVariants.{Waived}
use Rattle.usage_tables.specs.declared.approval.OperatorVerdict.TheVariants as verdict
use Rattle.usage_tables.specs.declared.cached_file.CachedFile.{CachedFile}
use Rattle.usage_tables.specs.declared.cache_fault.CacheFault.TheVariants.{NoCandidate, NotApproved}
use Rattle.usage_tables.specs.Held.{HeldFile, held_file, digest_of}
use Rattle.usage_tables.specs.Files.{url_of, file_at, set_file, without_file, with_candidate, with_approved}
use Rattle.usage_tables.specs.FileCommands.{done, left, left_with, candidate_again, ruled, verdict_cases, verdict_step, approved_cases, revoke_step}
use Rattle.usage_tables.specs.FileItems.{held_fields, approved_fields, approval_number, file_item}
use Rattle.usage_tables.specs.Due.{latest}
use Rattle.usage_tables.proofs.Parts.{has_expired}

abbrev old : HeldFile
old = held_file (1 ∷ 2 ∷ 3 ∷ []) 1000

abbrev new : HeldFile
new = held_file (4 ∷ []) 1000

abbrev url : List ℕ
url = codes "https://a/"

-- files of one URL, with an approved file, a candidate, and both
abbrev approved : CachedFile
approved = record { url = url; approved = Some (old, Waived); candidate = None }

abbrev waiting : CachedFile
waiting = record { url = url; approved = None; candidate = Some new }

abbrev both : CachedFile
both = record { url = url; approved = Some (old, Waived); candidate = Some new }

-- ---- Steps

revoked : revoke_step url (approved ∷ []) ≡ done Revoked url []
unfolding revoke_step approved_cases left_with with_approved file_at url_of without_file set_file
revoked = refl

revoked_beside : revoke_step url (both ∷ []) ≡ done Revoked url (waiting ∷ [])
unfolding revoke_step approved_cases left_with with_approved file_at url_of without_file set_file
revoked_beside = refl

not_approved : revoke_step url (waiting ∷ []) ≡ Err NotApproved
unfolding revoke_step approved_cases file_at url_of
not_approved = refl

rejected : ruled url (waiting ∷ []) waiting new verdict.Failed ≡ done Rejected url []
unfolding ruled left_with with_candidate without_file set_file url_of
rejected = refl

rejected_beside : ruled url (both ∷ []) both new verdict.Failed ≡ done Rejected url (approved ∷ [])
unfolding ruled left_with with_candidate without_file set_file url_of
rejected_beside = refl

no_candidate : verdict_step url [] verdict.Waived [] ≡ Err NoCandidate
unfolding verdict_step verdict_cases file_at
no_candidate = refl

fetched_later : candidate_again 1001 url (waiting ∷ []) waiting new ≡ done Same url (record { url = url; approved = None; candidate = Some (held_file (4 ∷ []) 1001) } ∷ [])
unfolding candidate_again with_candidate set_file url_of
fetched_later = refl

fetched_before : candidate_again 999 url (waiting ∷ []) waiting new ≡ left url (waiting ∷ [])
unfolding candidate_again
fetched_before = refl

-- ---- Hours

tie : latest (Some (old, Waived)) (Some new) ≡ Some new
unfolding latest
tie = refl

later : latest (Some (held_file (1 ∷ []) 1001, Waived)) (Some new) ≡ Some (held_file (1 ∷ []) 1001)
unfolding latest
later = refl

abbrev file : UsageFile
file = record { url = url; update = pos 0; hours = 48; supported = true; signature = None; extensions = []; policy = record { outgoing = []; incoming = [] } }

fresh : has_expired 1000000 1172799 file ≡ false
fresh = refl

expired : has_expired 1000000 1172800 file ≡ true
expired = refl

-- ---- Items

item : file_item both ≡ record { kind = 2; key = url; body = 1 ∷ 1 ∷ 0 ∷ 0 ∷ 0 ∷ 0 ∷ 0 ∷ 0 ∷ 3 ∷ 232 ∷ 2 ∷ 0 ∷ 0 ∷ 0 ∷ 3 ∷ 1 ∷ 2 ∷ 3 ∷ 1 ∷ 0 ∷ 0 ∷ 0 ∷ 0 ∷ 0 ∷ 0 ∷ 3 ∷ 232 ∷ 0 ∷ 0 ∷ 0 ∷ 1 ∷ 4 ∷ [] }
unfolding file_item held_fields approved_fields approval_number optional number string version version_of
item = refl

-- ---- Digests (FIPS 180-4)

abc : digest_of (codes "abc") ≡ codes "ba7816bf8f01cfea414140de5dae2223b00361a396177a9cb410ff61f20015ad"
unfolding digest_of encode_with sha256 digest_bytes hash_after compress rounds schedule first_words
abc = refl

nothing : digest_of [] ≡ codes "e3b0c44298fc1c149afbf4c8996fb92427ae41e4649b934ca495991b7852b855"
unfolding digest_of encode_with sha256 digest_bytes hash_after compress rounds schedule first_words
nothing = refl
