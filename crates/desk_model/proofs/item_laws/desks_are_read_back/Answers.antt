use Rattle.desk_model.proofs.ReadBack.{desk_again}
use Rattle.desk_model.proofs.ReadSound.{desk_alone, empty_sound}
use Rattle.desk_model.proofs.FirstBad.{first_unread}
use Rattle.desk_model.proofs.Keeping.{keeps_read, read_kept, first_bad, first_bad_is_answered}
use Rattle.desk_model.proofs.Order.{ordered-items_of}
use Rattle.desk_model.proofs.item_laws.desks_are_read_back.Goals as goal

pub returns-clause-empty : goal.returns-clause-empty
returns-clause-empty c = empty_sound

pub returns-clause-back : goal.returns-clause-back
returns-clause-back c = desk_again

pub returns-clause-alone : goal.returns-clause-alone
returns-clause-alone c = desk_alone

pub returns-clause-first : goal.returns-clause-first
returns-clause-first c = first_unread

pub returns-clause-kept : goal.returns-clause-kept
returns-clause-kept c = keeps_read

pub returns-clause-read : goal.returns-clause-read
returns-clause-read c = read_kept

pub returns-clause-bad : goal.returns-clause-bad
returns-clause-bad c = first_bad

pub returns-clause-unread : goal.returns-clause-unread
returns-clause-unread c = first_bad_is_answered

pub returns-clause-ordered : goal.returns-clause-ordered
returns-clause-ordered c = ordered-items_of
