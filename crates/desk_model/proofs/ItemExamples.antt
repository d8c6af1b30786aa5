-- A desk with one Thing, and its items in both versions.
use Rattle.std.proofs.Common.{◌≡◌, ℕ, true, List, [], ◌∷◌, Option, Some, None, Ok, Err, refl, sym, ap, subst, ◌∙◌, inl, inr, lit<, lit≤}
use Rattle.std.specs.Prelude.{option_map}
use Rattle.mud_url.specs.Url.{is_canonical}
use Rattle.mud_url.proofs.OnLiterals.{url_on_literals}
use Rattle.table_model.specs.declared.thing.Thing.{Thing}
use Rattle.table_model.specs.Expiries.{are_ascending, have_expiries}
use Rattle.table_model.specs.Things.{may_wait, is_sound_thing, IsKeptThing}
use Rattle.table_model.specs.Tables.{binds_of}
use Rattle.table_model.specs.ThingItems.{thing_item, thing_items, first_thing_item, item_anew, in_second, may_follow, with_thing_item}
use Rattle.table_model.specs.BindItems.{locals_items, stamp_item, stamp_items, with_stamp_item}
use Rattle.table_model.specs.TakenItems.{no_binds, bind_items, have_none, with_item}
use Rattle.table_model.proofs.ItemLaws.{first_thing_back, stamp_back}
use Rattle.table_model.proofs.Literals.{expiries_compute, bulb_url, bare_bulb}
use Rattle.usage_tables.specs.FileItems.{file_items}
use Rattle.desk_model.specs.DeskTables.{DeskTables}
use Rattle.desk_model.specs.Items.{items_of, KeptDesk, none_kept, desk_of, tables_in}
use Rattle.desk_model.specs.Keeping.{AreVersionsOf, KeepsDesk}
use Rattle.desk_model.proofs.Keeping.{not_both, read_kept}
use Rattle.desk_model.proofs.Taking.{kept_behind, take_thing, take_stamp}
use Rattle.desk_model.proofs.Parts.{desk_in, with_desk_item}

unfoldable kept_compute : Unit {0}
unfolding expiries_compute binds_of thing_items may_follow with_thing_item locals_items stamp_items with_stamp_item no_binds bind_items have_none with_item file_items items_of none_kept desk_of tables_in
kept_compute = tt

canonical : is_canonical bulb_url ≡ true
unfolding url_on_literals
canonical = refl

kept_bulb : IsKeptThing bare_bulb
unfolding expiries_compute may_wait is_sound_thing are_ascending have_expiries
kept_bulb = record { sound = rw canonical refl; fits = record { mac = refl; url = lit< tt; pending = tt; leases = record { few = lit< tt; each = tt } } }

abbrev one_bulb : DeskTables
one_bulb = record { tables = record { things = bare_bulb ∷ []; classes = []; locals = []; names = [] }; files = []; stamp = Some 1000 }

bulb_items : items_of one_bulb ≡ thing_item bare_bulb ∷ stamp_item 1000 ∷ []
unfolding kept_compute
bulb_items = refl

-- version 1 says of a Thing that it isn't held
anew : in_second (first_thing_item bare_bulb) ≡ thing_item bare_bulb
unfolding in_second item_anew
anew = rw (first_thing_back bare_bulb kept_bulb refl) refl

one_thing : with_thing_item [] (first_thing_item bare_bulb) ≡ Some (bare_bulb ∷ [])
unfolding kept_compute
one_thing = rw (first_thing_back bare_bulb kept_bulb refl) refl

first_kind : (first_thing_item bare_bulb).kind ≡ 1
unfolding first_thing_item
first_kind = refl

stamp_kind : (stamp_item 1000).kind ≡ 6
unfolding stamp_item
stamp_kind = refl

one_stamp : with_stamp_item None (stamp_item 1000) ≡ Some 1000
unfolding with_stamp_item
one_stamp = stamp_back 1000 (lit≤ tt)

abbrev kept : List Thing → Option ℕ → KeptDesk
kept things stamp = record { things = things; files = []; binds = no_binds; stamp = stamp }

thing_taken : with_desk_item none_kept (first_thing_item bare_bulb) ≡ Some (kept (bare_bulb ∷ []) None)
unfolding none_kept
thing_taken = take_thing (first_thing_item bare_bulb) first_kind [] ∙ ap (option_map (λ (things : List Thing). kept things None)) one_thing

stamp_taken : (things : List Thing) → with_desk_item (kept things None) (stamp_item 1000) ≡ Some (kept things (Some 1000))
stamp_taken things = take_stamp (stamp_item 1000) stamp_kind things [] no_binds None ∙ ap (option_map (λ (moment : ℕ). kept things (Some moment))) one_stamp

read_first : tables_in (first_thing_item bare_bulb ∷ stamp_item 1000 ∷ []) ≡ Ok one_bulb
unfolding tables_in desk_of no_binds
read_first =
    ap desk_in
    (ap (kept_behind (first_thing_item bare_bulb) (stamp_item 1000 ∷ [])) thing_taken ∙ ap (kept_behind (stamp_item 1000) []) (stamp_taken (bare_bulb ∷ [])))

no_more : with_desk_item (kept [] (Some 1000)) (first_thing_item bare_bulb) ≡ None
unfolding kept_compute first_thing_item
no_more = refl

-- the stamp stands last: a Thing behind it is no record
behind_stamp : tables_in (stamp_item 1000 ∷ first_thing_item bare_bulb ∷ []) ≡ Err (first_thing_item bare_bulb)
unfolding tables_in none_kept
behind_stamp =
    ap desk_in
    (ap (kept_behind (stamp_item 1000) (first_thing_item bare_bulb ∷ [])) (stamp_taken []) ∙ ap (kept_behind (first_thing_item bare_bulb) []) no_more)

-- the item of version 1 stands for that of version 2
in_first_version : AreVersionsOf (first_thing_item bare_bulb ∷ stamp_item 1000 ∷ []) (items_of one_bulb)
in_first_version =
    subst (AreVersionsOf (first_thing_item bare_bulb ∷ stamp_item 1000 ∷ [])) (sym bulb_items)
    (inr (record { thing = bare_bulb; kept = kept_bulb; unheld = refl; first = refl; second = refl }), (inl refl, tt))

-- no desk is kept where a Thing stands behind the stamp
keeps_no_desk : (desk : DeskTables) → KeepsDesk (stamp_item 1000 ∷ first_thing_item bare_bulb ∷ []) desk → ⊥
keeps_no_desk desk keeps = not_both desk (first_thing_item bare_bulb) (sym (read_kept (stamp_item 1000 ∷ first_thing_item bare_bulb ∷ []) desk keeps) ∙ behind_stamp)
