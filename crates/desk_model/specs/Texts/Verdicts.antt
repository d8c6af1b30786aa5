-- The texts of rulings and verdicts.
use Rattle.std.specs.Prelude.{ℕ, List, [], ◌++◌, codes, decimal, Option, Some, None, if◌then◌else◌}
use Rattle.frame_view.specs.declared.views.Part.{Part}
use Rattle.frame_view.specs.declared.views.Part.TheVariants as part
use Rattle.acl_model.specs.declared.ruling.Ruling.{Ruling}
use Rattle.acl_model.specs.declared.ruling.Ruling.TheVariants.{Accept, AcceptDefault, Drop, DropDefault, DropHeld}
use Rattle.acl_model.specs.declared.ruling.DefaultRule.TheVariants.{Dns, Ntp}
use Rattle.acl_model.specs.declared.ruling.Why.TheVariants.{NoFile, NoMatch}
use Rattle.packet_judge.specs.Verdicts.{forwarded}
use Rattle.packet_judge.specs.declared.verdict.Verdict.{Verdict}
use Rattle.packet_judge.specs.declared.verdict.Verdict.TheVariants.{Unmanaged, Link, Unreadable, Governed}

-- the name of a part that can't be read
unfoldable pub part_name : Part → List ℕ
part_name part.Ethernet = codes "ethernet"
part_name part.Tag = codes "tag"
part_name part.Ip = codes "ip"
part_name part.Extension = codes "extension"
part_name part.Transport = codes "transport"

unfoldable pub unreadable_text : Part → List ℕ
unreadable_text part = codes " unreadable " ++ part_name part

-- the number of the entry, or what decided in place of one
unfoldable pub ruling_text : Ruling → List ℕ
ruling_text (Accept n) = codes "accept:" ++ decimal n
ruling_text (AcceptDefault Dns) = codes "default-dns"
ruling_text (AcceptDefault Ntp) = codes "default-ntp"
ruling_text (Drop n) = codes "drop:" ++ decimal n
ruling_text (DropDefault NoFile) = codes "drop:no-file"
ruling_text (DropDefault NoMatch) = codes "drop:no-match"
ruling_text DropHeld = codes "drop:held"

-- the ruling of an endpoint that is a Thing, behind the name of the endpoint
unfoldable pub endpoint_text : List ℕ → Option Ruling → List ℕ
endpoint_text name None = []
endpoint_text name (Some ruling) = name ++ ruling_text ruling

-- the rulings, or what stands in place of them
unfoldable pub reason_text : Verdict → List ℕ
reason_text Unmanaged = codes " unmanaged"
reason_text Link = codes " link"
reason_text (Unreadable part) = unreadable_text part
reason_text (Governed source destination) = endpoint_text (codes " from=") source ++ endpoint_text (codes " to=") destination

unfoldable pub verdict_text : Verdict → List ℕ
verdict_text verdict = passing_text verdict ++ reason_text verdict
  where
    -- whether the packet passes
    passing_text : Verdict → List ℕ
    passing_text verdict = if forwarded verdict then codes "pass" else codes "drop"
