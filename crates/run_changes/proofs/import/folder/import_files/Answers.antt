use Rattle.std.proofs.Common.{refl, inl}
use Rattle.run_changes.proofs.ImportLaws.Folders.{part_of_none}
use Rattle.run_changes.proofs.import.folder.import_files.Goals as goal

pub returns-in-Err-Failed-clause-part : goal.returns-in-Err-Failed-clause-part
returns-in-Err-Failed-clause-part g c = λ d p k which. part_of_none _ _ _ _ refl (inl refl) refl refl

pub returns-in-Err-Memory-clause-part : goal.returns-in-Err-Memory-clause-part
returns-in-Err-Memory-clause-part g c = λ d p k which. part_of_none _ _ _ _ refl (inl refl) refl refl
