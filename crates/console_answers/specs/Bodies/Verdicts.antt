-- The body of the answer to a frame: the verdict as a line has it.
use Rattle.std.specs.Prelude.{ℕ, ◌^◌, ◌<◌, List, ◌++◌, codes, Option, Some, None}
use Rattle.acl_model.specs.declared.ruling.Ruling.{Ruling}
use Rattle.acl_model.specs.declared.ruling.Ruling.TheVariants.{Accept, AcceptDefault, Drop, DropDefault, DropHeld}
use Rattle.json.specs.Print.{quoted}
use Rattle.packet_judge.specs.declared.verdict.Verdict.{Verdict}
use Rattle.packet_judge.specs.declared.verdict.Verdict.TheVariants.{Unmanaged, Link, Unreadable, Governed}
use Rattle.desk_model.specs.Texts.Verdicts.{verdict_text}

unfoldable pub verdict_body : Verdict → List ℕ
verdict_body verdict = codes "{\"verdict\":" ++ quoted (verdict_text verdict) ++ codes "}"

-- ---- What the types say

-- the number of an entry has 16 bits
abbrev pub RulingFits : Option Ruling → Type 0
RulingFits None = Unit {0}
RulingFits (Some (Accept n)) = n < 2 ^ 16
RulingFits (Some (AcceptDefault rule)) = Unit {0}
RulingFits (Some (Drop n)) = n < 2 ^ 16
RulingFits (Some (DropDefault why)) = Unit {0}
RulingFits (Some DropHeld) = Unit {0}

abbrev pub VerdictFits : Verdict → Type 0
VerdictFits Unmanaged = Unit {0}
VerdictFits Link = Unit {0}
VerdictFits (Unreadable part) = Unit {0}
VerdictFits (Governed source destination) = RulingFits source × RulingFits destination
