-- What is compiled before anything is held.
use Rattle.std.proofs.Common.{◌≡◌, ℕ, List, [], refl, sym, arith}
use Rattle.std.proofs.lemmas.Option.{none-some}
use Rattle.acl_model.specs.Defaults.{default_policy}
use Rattle.acl_model.specs.FirstMatch.{entries_of}
use Rattle.acl_rows.specs.Rows.{rows_of, all_rows, holders_from, holder_rows, side_rows, entry_rows, numbered, default_held, held_by, slot_policy}
use Rattle.acl_rows.specs.View.{holder_from}
use Rattle.acl_compile.specs.Compiled.{UrlsApart}
use Rattle.acl_compile.specs.Plans.{slot_held}
use Rattle.acl_compile.specs.UrlSlots.{AreSlotsOf, AreGuessed, IsSoundWithSlots}

no_rows : rows_of [] [] ≡ []
unfolding rows_of all_rows holders_from holder_rows side_rows entry_rows numbered default_held entries_of
no_rows = refl

none_held : UrlsApart []
unfolding held_by slot_policy
none_held i j h g is is' same = absurd (none-some h is)

no_url_slots : AreSlotsOf [] []
unfolding slot_held holder_from
no_url_slots url = refl

none_guessed : (guesses : List ℕ) → AreGuessed [] guesses
unfolding held_by slot_policy
none_guessed guesses i held is = absurd (none-some held is)

pub nothing_is_sound : (guesses : List ℕ) → IsSoundWithSlots [] [] [] default_policy [] guesses
nothing_is_sound guesses = record { sound = record { rows_are = sym no_rows; few = omega arith; apart = none_held; defaults_are = refl }; url_slots_are = no_url_slots; guessed = none_guessed guesses }
