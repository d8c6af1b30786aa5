use Rattle.std.proofs.Common.{refl}
use Rattle.table_model.specs.Tables.{binds_of, with_binds}
use Rattle.table_laws.proofs.binds.binds_are_parts_of_tables.Goals as goal

pub returns-clause-parts : goal.returns-clause-parts
unfolding binds_of
returns-clause-parts c tables sound = record { classes = sound.classes; locals = sound.locals; names = sound.names }

pub returns-clause-whole : goal.returns-clause-whole
unfolding with_binds
returns-clause-whole c tables binds sound new = record { things = sound.things; classes = new.classes; locals = new.locals; names = new.names }

pub returns-clause-same : goal.returns-clause-same
unfolding binds_of with_binds
returns-clause-same c tables = refl

pub returns-clause-others : goal.returns-clause-others
unfolding binds_of with_binds
returns-clause-others c tables binds = refl
