use Rattle.desk_books.proofs.Asked.{file_refused}
use Rattle.desk_books.proofs.lists.of_files.Goals as goal

pub returns-in-Err : goal.returns-in-Err
returns-in-Err c desk now step lists ok err spoken = file_refused desk now step c.in-Err.fault (rw c.in-Err.is at err) spoken
