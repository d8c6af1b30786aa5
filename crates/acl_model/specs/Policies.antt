-- The policies of the approved files, by their URLs.
use Rattle.std.specs.Prelude.{ℕ, Bool, List, find, bytes_eq, Option, option_map}
use Rattle.acl_model.specs.declared.entry.Policy.{Policy}

pub record UrlPolicy : Type 0 where
  pub url : List ℕ
  pub policy : Policy

abbrev pub url_policy : List ℕ → Policy → UrlPolicy
url_policy url policy = record { url = url; policy = policy }

abbrev pub has_url : List ℕ → UrlPolicy → Bool
has_url url held = bytes_eq held.url url

abbrev pub policy_of : UrlPolicy → Policy
policy_of held = held.policy

-- the policy of a URL, where its file is approved
unfoldable pub policy_in : List UrlPolicy → List ℕ → Option Policy
policy_in policies url = option_map policy_of (find (has_url url) policies)
