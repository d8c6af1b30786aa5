use Rattle.desk_books.proofs.Asked.{thing_refused}
use Rattle.desk_books.proofs.lists.of_things.Goals as goal

pub returns-in-Err : goal.returns-in-Err
returns-in-Err c desk now step lists ok err spoken = thing_refused desk now step c.in-Err.fault (rw c.in-Err.is at err) spoken
