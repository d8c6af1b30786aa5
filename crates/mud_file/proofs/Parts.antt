-- Parts of definitions that lemmas speak of.
use Rattle.std.specs.Prelude.{ℕ, Err, List, None, Ok, Result, [], Option, Some}
use Rattle.usage_walk.specs.Reading.{Reading, under}
use Rattle.mud_url.specs.declared.fault.UrlFault.{UrlFault}
use Rattle.mud_base.specs.Readings.{done, wanted}
use Rattle.usage_match.specs.declared.entry_tests.ListType.{ListType}
use Rattle.mud_file.specs.Entries.{type_named, without_module, action_named}
use Rattle.usage_walk.specs.declared.member.Member.TheVariants as members
use Rattle.acl_model.specs.declared.entry.Action.{Action}
use Rattle.usage_walk.specs.declared.fault.Broken.{Broken}
use Rattle.usage_walk.specs.declared.fault.Rule.TheVariants as rule

abbrev pub most_octets : ℕ
most_octets = 262144

abbrev pub type_in : List ℕ → Option ListType
type_in text = type_named (without_module text)

abbrev pub url_path : List ℕ → List ℕ
url_path path = under path members.MudUrl

abbrev pub action_in : List ℕ → Option Action
action_in text = action_named (without_module text)

abbrev pub url_fault : List ℕ → UrlFault → Broken
url_fault path fault = record { rule = rule.Url; path = path; url = Some fault }

abbrev pub url_read : List ℕ → Result (List ℕ) UrlFault → Reading (List ℕ)
url_read path (Ok url) = done url
url_read path (Err fault) = wanted [] (url_fault path fault) None
