-- What is promised of a command is promised of the command that the words are.
use Rattle.std.proofs.Common.{◌≡◌, true, false, Some, sym, subst}
use Rattle.std.proofs.lemmas.Bool.{false≢true}
use Rattle.run_words.specs.declared.command.Command.{Command}

pub promised : (P : Command → Type 0) (a b : Command) → Some a ≡ Some b → P a → P b
promised P a b e holds = let same : a ≡ b = cc in subst P same holds

pub promised_of : (P : Command → Type 0) (a b : Command) → a ≡ b → P b → P a
promised_of P a b e holds = subst P (sym e) holds

pub asked : {A : Type 0} → true ≡ false → A
asked e = absurd (false≢true (sym e))
