-- A reading step by step: the first part that can't be read ends it.
use Rattle.std.specs.Prelude.{Result, Ok, Err}
use Rattle.frame_view.specs.declared.views.Part.{Part}

infixl 10 ◌>>=◌
abbrev pub ◌>>=◌ : {A B : Type 0} → Result A Part → (A → Result B Part) → Result B Part
(Ok value) >>= next = next value
(Err part) >>= next = Err part
