use Rattle.std.proofs.Common.{ap, ◌∙◌, true}
use Rattle.clap.specs.Words.{App}
use Rattle.clap.specs.Simple.{app_of_fields}
use Rattle.run_words.proofs.parser.bare_program.Goals as goal

abbrev no_name : App → App
no_name a = record a { top = record a.top { no_binary_name = true } }

abbrev no_flag : App → App
no_flag a = record a { top = record a.top { disable_help_flag = true } }

abbrev no_topic : App → App
no_topic a = record a { top = record a.top { disable_help_subcommand = true } }

abbrev needed : App → App
needed a = record a { top = record a.top { subcommand_required = true } }

pub returns : goal.returns
returns c =
    ap app_of_fields c.subcommand_required.ensures
    ∙ ap needed (ap app_of_fields c.disable_help_subcommand.ensures
    ∙ ap no_topic (ap app_of_fields c.disable_help_flag.ensures
    ∙ ap no_flag (ap app_of_fields c.no_binary_name.ensures ∙ ap no_name c.new.ensures.app)))
