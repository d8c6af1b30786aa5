-- The values of the fields of one name, as the code holds them.
use Rattle.std.specs.Prelude.{◌≡◌, ℕ, not, ◌&&◌, nat_lt, List, [], ◌∷◌, Option, None}
use Rattle.http_requests.specs.declared.fault.FramingFault.{FramingFault}
use Rattle.http_requests.specs.declared.fault.FramingFault.TheVariants.{Length, Long, NoLength}
use Rattle.http_requests.specs.declared.fault.MomentFrom.{MomentFrom}
use Rattle.http_requests.specs.declared.framing.Framing.{Framing}
use Rattle.http_requests.specs.declared.fields.Values.{Values}
use Rattle.http_requests.specs.declared.fields.Values.TheVariants.{Absent, One, Several}
use Rattle.http_requests.specs.Framing.{lengths, are_lengths, length_by, is_silent, may_lack_length, moment_by, reasons, first_reason}

-- the list is none, one value or more, as it is said
abbrev pub AreValues : List (List ℕ) → Values → Type 0
AreValues list Absent = list ≡ []
AreValues list (One value) = list ≡ value.now ∷ []
AreValues list Several = (v : List ℕ) × (w : List ℕ) × (more : List (List ℕ)) × (list ≡ v ∷ w ∷ more)

-- ---- What framing makes of them

-- why the values of `Content-Length` are refused in a request of the method, if they are
abbrev pub length_refusal : List ℕ → List (List ℕ) → Option FramingFault
length_refusal method list = first_reason ((not (are_lengths list), Length) ∷ (nat_lt 524288 (length_by list), Long) ∷ (is_silent list && not (may_lack_length method), NoLength) ∷ [])

-- A head of these fields isn't refused, and says this.
pub record IsFraming (from : MomentFrom) (method : List ℕ) (fields : List (List ℕ × List ℕ)) (framing : Framing) : Type 0 where
  pub taken : first_reason (reasons from method fields) ≡ None
  pub body : framing.body_len ≡ length_by (lengths fields)
  pub moment : framing.moment ≡ moment_by from fields
