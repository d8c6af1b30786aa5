-- The lines of `check`: what a usage file allows, or the rule that it breaks. Each ends with a line feed.
use Rattle.std.specs.Prelude.{ℕ, ◌+◌, List, [], ◌∷◌, ◌++◌, codes, decimal, if◌then◌else◌}
use Rattle.std.specs.Fmt.{signed_decimal}
use Rattle.mud_base.specs.declared.addr.Family.{Family}
use Rattle.mud_base.specs.declared.addr.Family.TheVariants.{V4, V6, Both}
use Rattle.mud_base.specs.declared.packet.Direction.{Direction}
use Rattle.mud_base.specs.declared.packet.Direction.TheVariants.{From, To}
use Rattle.acl_model.specs.Keys.{is_membered}
use Rattle.acl_model.specs.declared.entry.Action.{Action}
use Rattle.acl_model.specs.declared.entry.Action.TheVariants.{Accept, Drop}
use Rattle.acl_model.specs.declared.entry.Entry.{Entry}
use Rattle.usage_walk.specs.Names as rule
use Rattle.usage_walk.specs.declared.fault.Broken.{Broken}
use Rattle.mud_file.specs.declared.usage_file.UsageFile.{UsageFile}
use Rattle.text_values.specs.Faults.{url_part}
use Rattle.text_values.specs.Numbers.{number_text}
use Rattle.text_values.specs.Paths.{path_part}

unfoldable pub side_word : Direction → List ℕ
side_word From = codes "from"
side_word To = codes "to"

unfoldable pub family_word : Family → List ℕ
family_word V4 = codes " v4"
family_word V6 = codes " v6"
family_word Both = codes " both"

unfoldable pub action_word : Action → List ℕ
action_word Accept = codes " accept"
action_word Drop = codes " drop"

-- the side, the entry's number, its IP version, its reach and its action
unfoldable pub entry_line : Direction → ℕ → Entry → List ℕ
entry_line side number entry =
    side_word side ++ number_text number ++ family_word entry.family ++ reach_word entry ++ action_word entry.action ++ codes "\n"
  where
    -- whether an entry has a member selector
    reach_word : Entry → List ℕ
    reach_word entry = if is_membered entry then codes " member" else codes " wide"

-- the lines of entries that are numbered from this number on
abbrev pub entry_lines : Direction → ℕ → List Entry → List ℕ
entry_lines side number [] = []
entry_lines side number (entry ∷ entries) = entry_line side number entry ++ entry_lines side (number + 1) entries

-- the file's own URL, when it was generated, and for how many hours it holds
unfoldable pub head_lines : UsageFile → List ℕ
head_lines file = codes "file " ++ file.url ++ codes "\nupdate " ++ signed_decimal file.update ++ codes "\nhours " ++ decimal file.hours ++ codes "\n"

unfoldable pub file_lines : UsageFile → List ℕ
file_lines file = head_lines file ++ entry_lines From 1 file.policy.outgoing ++ entry_lines To 1 file.policy.incoming

-- ---- What is broken

unfoldable pub broken_line : Broken → List ℕ
broken_line broken = codes "fault " ++ rule.name_of broken.rule ++ path_part broken.path ++ url_part broken.url ++ codes "\n"
