use Rattle.std.proofs.Common.{inl, inr, ap, subst, ◌∙◌}
use Rattle.mud_world.specs.Kept.{kept_items}
use Rattle.desk_model.specs.DeskTables.{IsSound}
use Rattle.desk_model.specs.Items.{items_of}
use Rattle.desk_model.specs.Keeping.{KeepsDesk}
use Rattle.mud_desk.specs.Items.Loaded.{loaded_desk}
use Rattle.mud_desk.proofs.Opening.{left_kept, begun_tables, begun_own}
use Rattle.mud_desk.proofs.desk.Desk.open.Goals as goal

pub returns-in-Err-of-clause-left : goal.returns-in-Err-of-clause-left
returns-in-Err-of-clause-left g c = λ told tells.
    left_kept (kept_items g.K.Keeper c.args.keeper) (kept_items g.K.Keeper c.open_items.new.keeper) (loaded_desk c.in-Ok.taken)
    c.in-Ok.ensures.sound (c.in-Ok.ensures.read told tells) (c.in-Ok.ensures.kept tells)

pub returns-in-Err-of-clause-crash : goal.returns-in-Err-of-clause-crash
returns-in-Err-of-clause-crash g c = λ told list left.
    let rested = c.in-Ok.ensures.rests list left in
    inr (left_kept (kept_items g.K.Keeper c.args.keeper) list (loaded_desk c.in-Ok.taken) c.in-Ok.ensures.sound (c.in-Ok.ensures.read told rested.0) (rested.1 ∙ c.in-Ok.ensures.kept rested.0))

pub returns-in-Ok-of-clause-tables : goal.returns-in-Ok-of-clause-tables
returns-in-Ok-of-clause-tables g c = λ told tells.
    subst (KeepsDesk (kept_items g.K.Keeper c.args.keeper)) (begun_tables (loaded_desk c.in-Ok.taken) c.in-Ok-of.state c.in-Ok-of.ensures) (c.in-Ok.ensures.read told tells)

pub returns-in-Ok-of-clause-sound : goal.returns-in-Ok-of-clause-sound
returns-in-Ok-of-clause-sound g c = subst IsSound (begun_tables (loaded_desk c.in-Ok.taken) c.in-Ok-of.state c.in-Ok-of.ensures) c.in-Ok.ensures.sound

pub returns-in-Ok-of-clause-kept : goal.returns-in-Ok-of-clause-kept
returns-in-Ok-of-clause-kept g c =
    let same = ap items_of (begun_tables (loaded_desk c.in-Ok.taken) c.in-Ok-of.state c.in-Ok-of.ensures) in
    record {
      is_open = c.in-Ok.ensures.opened;
      items = λ tells. c.in-Ok.ensures.kept tells ∙ same;
      crash = λ list left. let rested = c.in-Ok.ensures.rests list left in inl (rested.1 ∙ c.in-Ok.ensures.kept rested.0 ∙ same);
    }

pub returns-in-Ok-of-clause-begun : goal.returns-in-Ok-of-clause-begun
returns-in-Ok-of-clause-begun g c = begun_own (loaded_desk c.in-Ok.taken) c.in-Ok-of.state c.in-Ok-of.ensures
