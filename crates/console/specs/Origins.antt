-- Where commands come from, and what is written of them.
use Rattle.std.specs.Prelude.{◌≡◌, ℕ, List}
use Rattle.desk_model.specs.declared.reply.Outcome.{Outcome}
use Rattle.desk_model.specs.declared.reply.Reply as desk
use Rattle.desk_model.specs.declared.reply.Reply.TheVariants.{Done, Refused, Keeper, Memory}
use Rattle.console_answers.specs.Bodies.Heards.{heard_body, texts_of}
use Rattle.console.specs.Replies.{Reply, unavailable, no_storage, IsOrWanted}
use Rattle.console.specs.Requests.{outcome_body, command_reply}
use Rattle.console.specs.declared.commands.Origin.{Origin}
use Rattle.console.specs.declared.commands.Origin.TheVariants.{Asked, Heard}

-- what is told of a command that was carried out
unfoldable pub said_of : Origin → Outcome → List ℕ
said_of (Asked action) = outcome_body action
said_of (Heard heard texts) = heard_body heard

-- the texts are those of what was heard
abbrev pub HasTexts : Origin → Type 0
HasTexts (Asked action) = Unit {0}
HasTexts (Heard heard texts) = texts ≡ texts_of heard

-- What is written of what a command answered: only of a refusal memory may be wanted.
abbrev pub IsWritten : (Outcome → List ℕ) → desk.Reply → Reply → Type 0
IsWritten said (Done outcome) given = given ≡ command_reply said (Done outcome)
IsWritten said (Refused refusal) given = IsOrWanted (command_reply said (Refused refusal)) given
IsWritten said Keeper given = given ≡ unavailable
IsWritten said Memory given = given ≡ no_storage
