-- Texts of what is wrong with a URL.
use Rattle.std.specs.Prelude.{ℕ, List, [], ◌++◌, codes, Option, Some, None}
use Rattle.mud_url.specs.Fault as url_fault
use Rattle.mud_url.specs.declared.fault.UrlFault.{UrlFault}
use Rattle.text_values.specs.Numbers.{offset_text}

-- a space and the fault, where there is one
unfoldable pub url_part : Option UrlFault → List ℕ
url_part None = []
url_part (Some fault) = codes " " ++ url_fault_text fault
  where
    -- the fault's name, and its offset where it has one
    url_fault_text : UrlFault → List ℕ
    url_fault_text fault = url_fault.name_of fault ++ offset_text (url_fault.offset_of fault)
