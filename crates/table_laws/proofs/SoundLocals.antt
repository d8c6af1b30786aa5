-- Local networks that are named keep them sound.
use Rattle.std.proofs.Common.{◌≡◌, Bool, true, false, cond, List, [], ◌∷◌, length, Ok, Err, refl}
use Rattle.std.specs.Prelude.{nat_lt}
use Rattle.std.specs.List.{AllByRecursion}
use Rattle.std.proofs.lemmas.Bool.{ltb-false}
use Rattle.mud_base.specs.declared.prefix.Prefix.{Prefix}
use Rattle.base_rows.specs.Sortable.{SortKeysAscend}
use Rattle.base_rows.specs.Addresses.{prefix_sort_key}
use Rattle.base_rows.proofs.AscendLaws.{ascend_to}
use Rattle.base_rows.proofs.SortableLaws.{ascend-set_row}
use Rattle.base_rows.proofs.RowLaws.{all-set_row}
use Rattle.item_codec.specs.declared.word.Word.TheVariants.{Same, Set}
use Rattle.table_model.specs.declared.bind_fault.BindFault.TheVariants.{LocalsFull}
use Rattle.table_model.specs.Limits.{most}
use Rattle.table_model.specs.Binds.{prefixes_in_order, same_prefixes, are_prefixes, IsKeptNetwork, IsSoundLocals}
use Rattle.table_model.specs.BindCommands.{LocalStep, locals_step}
use Rattle.table_model.proofs.Parts.{locals_done}

-- a refusal changes nothing, and else this holds
abbrev pub OfLocals : (List Prefix → Type 0) → LocalStep → Type 0
OfLocals P (Ok after) = P after.locals
OfLocals P (Err fault) = Unit {0}

pub cond_locals : (P : List Prefix → Type 0) (b : Bool) (x y : LocalStep) → (b ≡ true → OfLocals P x) → (b ≡ false → OfLocals P y) → OfLocals P (cond b x y)
cond_locals P true x y f g = f refl
cond_locals P false x y f g = g refl

in_order_ascend : (prefixes : List Prefix) → SortKeysAscend prefix_sort_key (prefixes_in_order prefixes)
unfolding prefixes_in_order
in_order_ascend [] = tt
in_order_ascend (p ∷ ps) = ascend-set_row prefix_sort_key p (prefixes_in_order ps) (in_order_ascend ps)

in_order_each : (P : Prefix → Type 0) (prefixes : List Prefix) → AllByRecursion P prefixes → AllByRecursion P (prefixes_in_order prefixes)
unfolding prefixes_in_order
in_order_each P [] all = tt
in_order_each P (p ∷ ps) all = all-set_row prefix_sort_key P p (prefixes_in_order ps) all.0 (in_order_each P ps all.1)

pub sound-locals_step : (prefixes locals : List Prefix) → AllByRecursion IsKeptNetwork prefixes → IsSoundLocals locals → OfLocals IsSoundLocals (locals_step prefixes locals)
unfolding locals_step are_prefixes
sound-locals_step prefixes locals each sound =
    let ordered : List Prefix = prefixes_in_order prefixes in
    cond_locals IsSoundLocals (nat_lt most.locals (length ordered)) (Err LocalsFull) (cond (same_prefixes ordered locals) (locals_done Same locals) (locals_done Set ordered))
    (λ _. tt)
    (λ few. cond_locals IsSoundLocals (same_prefixes ordered locals) (locals_done Same locals) (locals_done Set ordered)
    (λ _. sound)
    (λ _. record { ascend = ascend_to prefix_sort_key ordered (in_order_ascend prefixes); each = in_order_each IsKeptNetwork prefixes each; few = ltb-false most.locals (length ordered) few }))
