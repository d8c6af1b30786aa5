-- The name of the bulb's server is one that may be observed.
use Rattle.std.proofs.Common.{◌≡◌, IsTrue, true, List, ℕ, codes, refl}
use Rattle.mud_url.proofs.OnLiterals.{url_on_literals}
use Rattle.table_model.specs.Binds.{is_name}

is_name_of_server : is_name (codes "test.example.com") ≡ true
unfolding url_on_literals is_name
is_name_of_server = refl

pub may_be_observed : (name : List ℕ) → name ≡ codes "test.example.com" → IsTrue (is_name name)
may_be_observed name same = rw same is_name_of_server
