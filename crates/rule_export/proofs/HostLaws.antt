-- The network of an address alone, and the networks of rows, one row at a time.
use Rattle.std.proofs.Common.{◌≡◌, ℕ, zero, suc, ◌+◌, ◌-◌, ◌*◌, ◌/◌, ◌<◌, ◌≤◌, Bool, true, false, cond, List, [], ◌∷◌, ◌++◌, length, map, drop, subst, slice_get, get_or, drop-cons, append_assoc, Some, refl, sym, ap, ◌∙◌, arith}
use Rattle.std.specs.List.{filter}
use Rattle.std.specs.Prelude.{flat_map}
use Rattle.std.proofs.lemmas.Option.{same_Some, none-some}
use Rattle.std.proofs.Math.Nat.{div-one}
use Rattle.std.proofs.lemmas.List.{append-nil}
use Rattle.base_rows.specs.Sortable.{RowsAndRoom}
use Rattle.mud_base.specs.Addresses.{addr_bits, masked, prefix_at}
use Rattle.mud_base.specs.declared.addr.Addr.TheVariants.{V4, V6}
use Rattle.mud_base.specs.declared.prefix.Prefix.{Prefix}
use Rattle.acl_model.specs.declared.entry.Entry.{Entry}
use Rattle.acl_rows.specs.declared.row.Row.{Row}
use Rattle.acl_rows.specs.Rows.{numbered}
use Rattle.rule_export.specs.declared.item.RuleNumber.{RuleNumber}
use Rattle.rule_export.specs.declared.item.Resolved.{Resolved}
use Rattle.rule_export.specs.Listed.{covers, items_from}
use Rattle.rule_export.specs.Resolved.{Wanted, is_wanted, host_network, wanted_networks, entry_networks, entry_items}
use Rattle.rule_export.proofs.NetworkLaws.{put-append, put}

whole : (n : ℕ) → n / 1 * 1 ≡ n
whole n = let e : n / 1 ≡ n = div-one n in omega arith

pub host_v4 : (n : ℕ) → prefix_at (V4 n) 32 ≡ Some (record { addr = V4 n; len = addr_bits (V4 n) })
unfolding prefix_at masked addr_bits
host_v4 n = ap (λ k. Some (record { addr = V4 k; len = 32 })) (whole n)

pub host_v6 : (n : ℕ) → prefix_at (V6 n) 128 ≡ Some (record { addr = V6 n; len = addr_bits (V6 n) })
unfolding prefix_at masked addr_bits
host_v6 n = ap (λ k. Some (record { addr = V6 k; len = 128 })) (whole n)

pub ruleset host_rules = (host_v4, host_v6)

module _ (w : Wanted) (n : ℕ) (entry : Entry) where
  first_by : (row : Row) (rows : List Row) (b : Bool) → map host_network (cond b (row ∷ filter (is_wanted w n entry) rows) (filter (is_wanted w n entry) rows)) ≡ map host_network (cond b (row ∷ []) []) ++ map host_network (filter (is_wanted w n entry) rows)
  first_by row rows true = refl
  first_by row rows false = refl

  pub first_wanted : (row : Row) (rows : List Row) → wanted_networks w n entry (row ∷ rows) ≡ wanted_networks w n entry (row ∷ []) ++ wanted_networks w n entry rows
  unfolding wanted_networks
  first_wanted row rows = first_by row rows (is_wanted w n entry row)

  pub next_wanted : (rows : List Row) (i : ℕ) (row : Row) → i < length rows → row ≡ get_or rows i row → (old new : List Prefix) → new ≡ put (wanted_networks w n entry (row ∷ [])) old
      → put (wanted_networks w n entry (drop (i + 1) rows)) new ≡ put (wanted_networks w n entry (drop i rows)) old
  next_wanted rows i row lt is old new now =
      ap (put (wanted_networks w n entry (drop (i + 1) rows))) now
      ∙ sym (put-append (wanted_networks w n entry (row ∷ [])) (wanted_networks w n entry (drop (i + 1) rows)) old)
      ∙ ap (λ ps. put ps old) (sym (first_wanted row (drop (i + 1) rows)))
      ∙ ap (λ rs. put (wanted_networks w n entry rs) old) (sym (drop-cons rows i row lt ∙ (λ j. sym is j ∷ drop (next j) rows)))
    where
      next : suc i ≡ i + 1
      next = omega arith

  pub all_wanted : (xs ys : List Row) → wanted_networks w n entry (xs ++ ys) ≡ wanted_networks w n entry xs ++ wanted_networks w n entry ys
  unfolding wanted_networks
  all_wanted [] ys = refl
  all_wanted (x ∷ xs) ys =
      first_by x (xs ++ ys) (is_wanted w n entry x)
      ∙ ap (λ l. map host_network (cond (is_wanted w n entry x) (x ∷ []) []) ++ l) (all_wanted xs ys)
      ∙ sym (append_assoc (map host_network (cond (is_wanted w n entry x) (x ∷ []) [])) (map host_network (filter (is_wanted w n entry) xs)) (map host_network (filter (is_wanted w n entry) ys)))
      ∙ ap (λ l. l ++ map host_network (filter (is_wanted w n entry) ys)) (sym (first_by x xs (is_wanted w n entry x)))

  pub next_group : (xs rest : List Row) (old new : List Prefix) → new ≡ put (wanted_networks w n entry xs) old → put (wanted_networks w n entry rest) new ≡ put (wanted_networks w n entry (xs ++ rest)) old
  next_group xs rest old new now =
      ap (put (wanted_networks w n entry rest)) now
      ∙ sym (put-append (wanted_networks w n entry xs) (wanted_networks w n entry rest) old)
      ∙ ap (λ ps. put ps old) (sym (all_wanted xs rest))

-- ---- The rows of groups, without their addresses

abbrev pub rows_together : List (RowsAndRoom Row) → List Row
rows_together [] = []
rows_together (g ∷ gs) = g.rows ++ rows_together gs

-- ---- The items of entries, one entry at a time

drop_at : (es : List Entry) (n : ℕ) (e : Entry) → slice_get es n ≡ Some e → drop n es ≡ e ∷ drop (suc n) es
drop_at [] n e is = absurd (none-some e is)
drop_at (x ∷ xs) zero e is = ap (λ y. y ∷ xs) (same_Some x e is)
drop_at (x ∷ xs) (suc n) e is = drop_at xs n e is

rule_by : (w : Wanted) (f : ℕ → RuleNumber) (rows : List Row) (n : ℕ) (e : Entry) (r : RuleNumber) → r ≡ f n → entry_items w (λ _. r) rows (n, e) ≡ entry_items w f rows (n, e)
unfolding entry_items
rule_by w f rows n e r is = ap (λ q. cond (covers e.family w.family) (items_from q 1 (entry_networks w rows n e)) []) is

pub next_entry : (w : Wanted) (f : ℕ → RuleNumber) (rows rows' : List Row) (es : List Entry) (n m : ℕ) (e : Entry) (r : RuleNumber) (old new : List Resolved) → m ≡ n + 1 → slice_get es (m - 1) ≡ Some e → r ≡ f m → rows' ≡ rows → new ≡ old ++ entry_items w (λ _. r) rows' (m, e)
    → new ++ flat_map (entry_items w f rows) (numbered (m + 1) (drop m es)) ≡ old ++ flat_map (entry_items w f rows) (numbered (n + 1) (drop n es))
unfolding numbered
next_entry w f rows rows' es n m e r old new at there is same now =
    let back : m - 1 ≡ n = omega arith in
    let first : drop n es ≡ e ∷ drop (suc n) es = drop_at es n e (subst (λ k. slice_get es k ≡ Some e) back there) in
    let up : suc n ≡ m = omega arith in
    let here : n + 1 ≡ m = sym at in
    ap (λ l. l ++ flat_map (entry_items w f rows) (numbered (m + 1) (drop m es))) (now ∙ ap (λ l. old ++ l) (ap (λ rs. entry_items w (λ _. r) rs (m, e)) same ∙ rule_by w f rows m e r is))
    ∙ append_assoc old (entry_items w f rows (m, e)) (flat_map (entry_items w f rows) (numbered (m + 1) (drop m es)))
    ∙ sym (ap (λ l. old ++ flat_map (entry_items w f rows) (numbered (n + 1) l)) (first ∙ ap (λ k. e ∷ drop k es) up)
    ∙ ap (λ k. old ++ flat_map (entry_items w f rows) (numbered k (e ∷ drop m es))) here)

drop_all : (es : List Entry) (n : ℕ) → length es ≤ n → drop n es ≡ []
drop_all [] zero le = refl
drop_all [] (suc n) le = refl
drop_all (x ∷ xs) zero le = absurd (omega (arith, le))
drop_all (x ∷ xs) (suc n) le = drop_all xs n (omega (arith, le))

pub no_entry : (w : Wanted) (f : ℕ → RuleNumber) (rows : List Row) (es : List Entry) (n : ℕ) (list : List Resolved) → length es ≤ n → list ≡ list ++ flat_map (entry_items w f rows) (numbered (n + 1) (drop n es))
unfolding numbered
no_entry w f rows es n list le = sym (ap (λ l. list ++ flat_map (entry_items w f rows) (numbered (n + 1) l)) (drop_all es n le) ∙ append-nil list)
