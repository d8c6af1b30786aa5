-- The first entry that matches decides (RFC 8519, 3), then the first default entry that matches (RFC 8520, Appendix A),
-- and what none of them matches is dropped.
use Rattle.std.specs.Prelude.{◌≡◌, ◌↔◌, ℕ, ◌+◌, ◌-◌, ◌<◌, Bool, true, false, List, [], ◌∷◌, take, slice_get, Option, Some, None, if◌then◌else◌}
use Rattle.std.specs.List.{list_any}
use Rattle.mud_base.specs.declared.packet.Direction.{Direction}
use Rattle.mud_base.specs.declared.packet.Direction.TheVariants.{From, To}
use Rattle.acl_model.specs.declared.entry.Action.{Action}
use Rattle.acl_model.specs.declared.entry.Action.TheVariants as action
use Rattle.acl_model.specs.declared.entry.Entry.{Entry}
use Rattle.acl_model.specs.declared.entry.Policy.{Policy}
use Rattle.acl_model.specs.declared.ruling.DefaultRule.{DefaultRule}
use Rattle.acl_model.specs.declared.ruling.DefaultRule.TheVariants.{Dns, Ntp}
use Rattle.acl_model.specs.declared.ruling.Why.{Why}
use Rattle.acl_model.specs.declared.ruling.Why.TheVariants.{NoFile, NoMatch}
use Rattle.acl_model.specs.declared.ruling.Ruling.{Ruling}
use Rattle.acl_model.specs.declared.ruling.Ruling.TheVariants.{Accept, AcceptDefault, Drop, DropDefault, DropHeld}
use Rattle.acl_model.specs.Defaults.{default_entry, defaults_of}

-- the entries of a policy for packets with the Thing on this side
unfoldable pub entries_of : Direction → Policy → List Entry
entries_of From policy = policy.outgoing
entries_of To policy = policy.incoming

unfoldable pub ruled_by : ℕ → Action → Ruling
ruled_by n action.Accept = Accept n
ruled_by n action.Drop = Drop n

unfoldable pub default_ruling : (Entry → Bool) → Direction → Why → Ruling
default_ruling matches side why =
    if matches (default_entry Dns side) then AcceptDefault Dns
    else (if matches (default_entry Ntp side) then AcceptDefault Ntp else DropDefault why)

-- the ruling of the policy of an approved file, or of none
unfoldable pub ruling_by : (Entry → Bool) → Direction → Option Policy → Ruling
ruling_by matches side None = default_ruling matches side NoFile
ruling_by matches side (Some policy) = first_ruling matches 1 (entries_of side policy) (default_ruling matches side NoMatch)
  where
    -- the entries are numbered from `n` on; the first that matches rules, else `otherwise`
    first_ruling : (Entry → Bool) → ℕ → List Entry → Ruling → Ruling
    first_ruling matches n [] otherwise = otherwise
    first_ruling matches n (entry ∷ entries) otherwise = if matches entry then ruled_by n entry.action else first_ruling matches (n + 1) entries otherwise

-- ---- The same by indices: what a ruling says of the entries

abbrev pub NoneMatches : (Entry → Bool) → List Entry → Type 0
NoneMatches matches entries = list_any matches entries ≡ false

-- the entry of this number, from 1 on, is the first that matches, and its action is this one
pub record IsFirstMatch (matches : Entry → Bool) (entries : List Entry) (n : ℕ) (act : Action) : Type 0 where
  pub entry : Entry
  pub counted : 0 < n
  pub stands : slice_get entries (n - 1) ≡ Some entry
  pub matched : matches entry ≡ true
  pub acts : entry.action ≡ act
  pub earlier : NoneMatches matches (take (n - 1) entries)

-- this default entry is the first that matches
abbrev pub IsFirstDefault : (Entry → Bool) → Direction → DefaultRule → Type 0
IsFirstDefault matches side Dns = matches (default_entry Dns side) ≡ true
IsFirstDefault matches side Ntp = (matches (default_entry Dns side) ≡ false) × (matches (default_entry Ntp side) ≡ true)

-- the entries of the policy, where there is one
abbrev pub file_entries : Direction → Option Policy → List Entry
file_entries side None = []
file_entries side (Some policy) = entries_of side policy

abbrev pub why_of : Option Policy → Why
why_of None = NoFile
why_of (Some policy) = NoMatch

-- entries never rule that a Thing is held: that is asked before them
abbrev pub IsRuling : (Entry → Bool) → Direction → Option Policy → Ruling → Type 0
IsRuling matches side policy (Accept n) = IsFirstMatch matches (file_entries side policy) n action.Accept
IsRuling matches side policy (Drop n) = IsFirstMatch matches (file_entries side policy) n action.Drop
IsRuling matches side policy (AcceptDefault which) = NoneMatches matches (file_entries side policy) × IsFirstDefault matches side which
IsRuling matches side policy (DropDefault why) = NoneMatches matches (file_entries side policy) × NoneMatches matches (defaults_of side) × (why ≡ why_of policy)
IsRuling matches side policy DropHeld = ⊥

-- the ruling is the one of which this holds
abbrev pub FirstMatchDecides : Type 0
FirstMatchDecides = (matches : Entry → Bool) (side : Direction) (policy : Option Policy) (ruling : Ruling) → (ruling_by matches side policy ≡ ruling) ↔ IsRuling matches side policy ruling
