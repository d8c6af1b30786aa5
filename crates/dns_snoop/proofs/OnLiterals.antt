-- What unfolds where the definitions are computed on literal octets.
use Rattle.mud_url.proofs.OnLiterals.{url_on_literals}
use Rattle.mud_base.proofs.FieldsOnLiterals.{fields_on_literals}
use Rattle.dns_snoop.specs.Names.{run_at, chain_behind, first_beyond, text_of, behind_run, read_name_of}
use Rattle.dns_snoop.specs.Records.{alias_in, record_at, records_from, is_owned, is_link, gives_row, rows_of}
use Rattle.dns_snoop.specs.Messages.{is_answer, question_of, asked_by, answers_of}

unfoldable pub messages_on_literals : Unit {0}
unfolding url_on_literals fields_on_literals run_at chain_behind first_beyond text_of behind_run read_name_of alias_in record_at records_from is_owned is_link gives_row rows_of is_answer question_of asked_by answers_of
messages_on_literals = tt
