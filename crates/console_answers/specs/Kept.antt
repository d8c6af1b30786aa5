-- What a buffer of 4,096 octets keeps of a text.
use Rattle.std.specs.Prelude.{ℕ, List, take}

unfoldable pub kept : List ℕ → List ℕ
kept text = take 4096 text
