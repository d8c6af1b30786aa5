use Rattle.table_model.specs.Bindings.{bindings_of}
use Rattle.table_laws.proofs.TableBindings.{bindings_apart, bound_until_its}
use Rattle.table_laws.proofs.bindings.tables_bind_once.Goals as goal

pub returns-clause-apart : goal.returns-clause-apart
returns-clause-apart c = bindings_apart

pub returns-clause-until : goal.returns-clause-until
returns-clause-until c tables sound b has = bound_until_its b (bindings_of tables) (bindings_apart tables sound) has
