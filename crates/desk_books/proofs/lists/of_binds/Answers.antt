use Rattle.desk_books.proofs.Asked.{bind_refused}
use Rattle.desk_books.proofs.lists.of_binds.Goals as goal

pub returns-in-Err : goal.returns-in-Err
returns-in-Err c desk now step lists ok err spoken = bind_refused desk now step c.in-Err.fault (rw c.in-Err.is at err) spoken
