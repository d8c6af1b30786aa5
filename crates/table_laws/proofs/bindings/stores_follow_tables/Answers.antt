use Rattle.table_laws.proofs.Stores.{replaced_same, gone_kept, comes_free, tests_alike}
use Rattle.table_laws.proofs.bindings.stores_follow_tables.Goals as goal

pub returns-clause-follows : goal.returns-clause-follows
returns-clause-follows c = replaced_same

pub returns-clause-gone_kept : goal.returns-clause-gone_kept
returns-clause-gone_kept c = gone_kept

pub returns-clause-comes_free : goal.returns-clause-comes_free
returns-clause-comes_free c = comes_free

pub returns-clause-tests : goal.returns-clause-tests
returns-clause-tests c = tests_alike
