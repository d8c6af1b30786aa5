-- The book as contracts see it, and what a refusal says.
use Rattle.std.specs.Prelude.{◌≡◌, ℕ, Err}
use Rattle.table_model.specs.declared.bind_fault.BindFault.{BindFault}
use Rattle.table_model.specs.declared.bind_fault.BindFault.TheVariants.{Memory}
use Rattle.table_model.specs.Binds.{Binds}
use Rattle.std.specs.Prelude.{Result}

-- the three lists, and for how many more classes and names there is room
pub record Book : Type 0 where
  pub binds : Binds
  pub class_room : ℕ
  pub name_room : ℕ

-- a refusal is that of the step, but for want of memory, which may come at any time
abbrev pub IsRefusal : {A : Type 0} → Result A BindFault → BindFault → Type 0
IsRefusal step fault = (fault ≡ Memory → ⊥) → step ≡ Err fault
