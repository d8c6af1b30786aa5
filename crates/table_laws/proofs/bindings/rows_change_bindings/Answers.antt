use Rattle.table_laws.proofs.BookChanges.{thing_book_change, class_book_change, name_book_change}
use Rattle.table_laws.proofs.bindings.rows_change_bindings.Goals as goal

pub returns-clause-things : goal.returns-clause-things
returns-clause-things c = thing_book_change

pub returns-clause-classes : goal.returns-clause-classes
returns-clause-classes c = class_book_change

pub returns-clause-names : goal.returns-clause-names
returns-clause-names c = name_book_change
