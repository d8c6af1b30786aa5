-- Parts of definitions that lemmas speak of.
use Rattle.std.specs.Prelude.{ℕ, List, [], filter, not, ◌∷◌, take, Bool, map, None, Option, Some, option_to_list, ◌++◌, ◌&&◌, length, false, true}
use Rattle.drop_ledger.specs.Counted.{SortKey, those_of, Kinds, is_first}
use Rattle.base_rows.specs.Sortable.{same_sort_key}
use Rattle.std.specs.List.{list_any}
use Rattle.drop_ledger.specs.declared.rows.DeniedRow.{DeniedRow}
use Rattle.mud_base.specs.declared.packet.Direction.{Direction}
use Rattle.mud_base.specs.declared.packet.Fields.{Fields}
use Rattle.mud_base.specs.declared.addr.Mac.{Mac}
use Rattle.drop_ledger.specs.Ledger.{peer_row}
use Rattle.acl_model.specs.declared.ruling.Ruling.TheVariants.{Accept, AcceptDefault, Drop, DropDefault, DropHeld}
use Rattle.acl_model.specs.declared.ruling.Why.TheVariants.{NoFile, NoMatch}
use Rattle.drop_ledger.specs.declared.seen.Ruled.{Ruled}
use Rattle.acl_model.specs.declared.ruling.Ruling.{Ruling}
use Rattle.drop_ledger.specs.declared.seen.Seen.{Seen}
use Rattle.drop_ledger.specs.Seen.{mac_on, ruled_on, is_governed}
use Rattle.mud_base.specs.declared.packet.Direction.TheVariants.{From, To}
use Rattle.packet_judge.specs.declared.verdict.Verdict.{Verdict}
use Rattle.packet_judge.specs.Verdicts.{forwarded}
use Rattle.drop_ledger.specs.declared.rows.OtherRow.{OtherRow}
use Rattle.packet_judge.specs.declared.verdict.Verdict.TheVariants.{Governed, Link, Unmanaged, Unreadable}

abbrev pub firsts : List SortKey → List SortKey
firsts [] = []
firsts (p ∷ ps) = p ∷ filter (λ q. not (same_sort_key p q)) (firsts ps)

abbrev pub kept_of : ℕ → SortKey → List SortKey → List SortKey
kept_of most t ps = take most (firsts (those_of t ps))

abbrev pub is_kept : ℕ → SortKey → List SortKey → SortKey → Bool
is_kept most t ps p = list_any (same_sort_key p) (kept_of most t ps)

abbrev pub others_of : {D O : Type 0} → Kinds D O → List SortKey → List D → List O
others_of k ps xs = map k.other (filter (λ d. not (is_first k ps d)) xs)

abbrev pub row_with : Mac → Direction → Option Fields → Option DeniedRow
row_with mac side None = None
row_with mac side (Some fields) = Some (peer_row mac side fields)

abbrev pub row_by : Ruling → Ruled → Option DeniedRow
row_by (DropDefault NoMatch) r = row_with r.mac r.side r.fields
row_by (DropDefault NoFile) r = None
row_by (Accept n) r = None
row_by (AcceptDefault which) r = None
row_by (Drop n) r = None
row_by DropHeld r = None

abbrev pub ruled : Seen → Direction → Ruling → Ruled
ruled s side ruling = record { mac = mac_on s side; side = side; ruling = ruling; fields = s.fields }

abbrev pub rulings_in : Seen → List Ruled
rulings_in s = option_to_list (ruled_on s From) ++ option_to_list (ruled_on s To)

abbrev pub passes : Verdict → Bool
passes verdict = is_governed verdict && forwarded verdict

abbrev pub drops : Verdict → Bool
drops verdict = is_governed verdict && not (forwarded verdict)

abbrev pub verdicts : (Verdict → Bool) → List Seen → ℕ
verdicts test all = length (filter (λ s. test s.verdict) all)

abbrev pub other_row : DeniedRow → OtherRow
other_row r = record { mac = r.mac; side = r.side; count = 0 }

abbrev pub is_unmanaged : Verdict → Bool
is_unmanaged Unmanaged = true
is_unmanaged Link = false
is_unmanaged (Unreadable part) = false
is_unmanaged (Governed source destination) = false

abbrev pub is_link : Verdict → Bool
is_link Unmanaged = false
is_link Link = true
is_link (Unreadable part) = false
is_link (Governed source destination) = false

abbrev pub is_unreadable : Verdict → Bool
is_unreadable Unmanaged = false
is_unreadable Link = false
is_unreadable (Unreadable part) = true
is_unreadable (Governed source destination) = false
