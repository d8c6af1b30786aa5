-- A usage file as it is held, and what its octets mean.
use Rattle.std.specs.Prelude.{◌≡◌, ℕ, List, Option, Ok}
use Rattle.std.specs.Result.{result_ok}
use Rattle.sha2.specs.Sha256.{sha256}
use Rattle.hex.specs.Hex.{encode_lower}
use Rattle.mud_file.specs.declared.usage_file.UsageFile.{UsageFile}
use Rattle.mud_file.specs.File.{file_of}

-- its octets, and the moment at which they were fetched
pub record HeldFile : Type 0 where
  pub octets : List ℕ
  pub fetched : ℕ

abbrev pub held_file : List ℕ → ℕ → HeldFile
held_file octets fetched = record { octets = octets; fetched = fetched }

-- the usage file that octets are, where they are one
unfoldable pub usage_in : List ℕ → Option UsageFile
usage_in octets = result_ok (file_of octets)

-- the digest of octets: their SHA-256 (FIPS 180-4) in 64 lower-case hex digits
unfoldable pub digest_of : List ℕ → List ℕ
digest_of octets = encode_lower (sha256 octets)

-- what is kept beside the octets is what they mean
pub record IsRead (octets digest : List ℕ) (file : UsageFile) : Type 0 where
  pub means : file_of octets ≡ Ok file
  pub digested : digest ≡ digest_of octets
