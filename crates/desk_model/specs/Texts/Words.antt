-- What a line says of the reply to a command, behind what names it.
use Rattle.std.specs.Prelude.{ℕ, List, ◌++◌, codes}
use Rattle.item_codec.specs.Word.{text_of}
use Rattle.usage_walk.specs.Names as rule
use Rattle.text_values.specs.Numbers.{number_text}
use Rattle.text_values.specs.Paths.{path_part}
use Rattle.usage_tables.specs.declared.cache_fault.CacheFault.TheVariants.{File}
use Rattle.desk_model.specs.declared.reply.Refusal.{Refusal}
use Rattle.desk_model.specs.declared.reply.Refusal.TheVariants.{Files}
use Rattle.desk_model.specs.declared.reply.Reply.{Reply}
use Rattle.desk_model.specs.declared.reply.Reply.TheVariants.{Done, Refused, Keeper, Memory}
use Rattle.desk_model.specs.Refusals.{number_of_refusal, name_of_refusal}

-- the number and the name of a rule
unfoldable pub rule_text : ℕ → List ℕ → List ℕ
rule_text number name = number_text number ++ codes " " ++ name

-- a file that is refused names the rule of usage files that it breaks, and where; any other refusal names that of its book
unfoldable pub refusal_text : Refusal → List ℕ
refusal_text (Files (File broken)) = rule_text (rule.number_of broken.rule) (rule.name_of broken.rule) ++ path_part broken.path
refusal_text refusal = rule_text (number_of_refusal refusal) (name_of_refusal refusal)

-- what is written behind the name
unfoldable pub reply_text : Reply → List ℕ
reply_text (Done outcome) = codes " " ++ text_of outcome.word
reply_text (Refused refusal) = codes " refused" ++ refusal_text refusal
reply_text Keeper = codes " keeper"
reply_text Memory = codes " memory"
