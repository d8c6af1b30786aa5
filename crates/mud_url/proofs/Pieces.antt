-- Parts of definitions that lemmas speak of.
use Rattle.std.specs.Prelude.{ℕ, List, drop, length, take, ◌++◌, ◌+◌, Bool, codes, ◌==◌, ◌||◌, bytes_eq, ◌∷◌, if◌then◌else◌, [], Err, Ok, Result, false}
use Rattle.mud_url.specs.Url.{authority, path_and_query, before_query}
use Rattle.std.specs.Char.{is_ascii_alphanumeric}
use Rattle.std.specs.List.{list_any}
use Rattle.mud_url.specs.declared.fault.UrlFault.{UrlFault}

abbrev pub without_slash : List ℕ → List ℕ
without_slash text = take (8 + length (authority text)) text ++ drop 1 (path_and_query text)

abbrev pub path_part : List ℕ → List ℕ
path_part url = before_query (path_and_query url)

abbrev pub is_path_octet : ℕ → Bool
is_path_octet c = is_ascii_alphanumeric c || list_any (λ mark. mark == c) (codes "-._~!$&'()*+,;=:@/?")

abbrev pub canonical_port : List ℕ → List ℕ
canonical_port port = if length port == 0 || bytes_eq port (codes "443") then [] else 58 ∷ port

abbrev pub gave : Result (List ℕ) UrlFault → List ℕ → Bool
gave (Ok read) text = bytes_eq read text
gave (Err fault) text = false
