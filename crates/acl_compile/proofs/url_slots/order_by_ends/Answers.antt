use Rattle.std.proofs.Common.{◌≡◌, reverse, List, ℕ, ap, ap₂, sym, ◌∙◌}
use Rattle.std.specs.Cmp.Lexicographic.{same_text}
use Rattle.std.specs.Ordering.{nat_cmp}
use Rattle.std.proofs.lemmas.Cmp.{nat_list_cmp_total, tied_itself}
use Rattle.base_rows.specs.Sortable.{sort_key_cmp}
use Rattle.acl_compile.proofs.Leads.{lead_apart, octets_behind}
use Rattle.acl_compile.proofs.url_slots.order_by_ends.Goals as goal

pub returns-then-own_end-other_end : goal.returns-then-own_end-other_end
returns-then-own_end-other_end c =
    c.cmp.ensures ∙ ap₂ nat_cmp c.requires.own c.requires.other
    ∙ lead_apart 8 (reverse c.args.own.now) (reverse c.args.other.now) (octets_behind c.args.own.now c.are_octets.ensures) (octets_behind c.args.other.now c.are_octets-2.ensures)
    (λ same. c.if-own_end-other_end.true (c.requires.own ∙ same ∙ sym c.requires.other))

pub returns-then-eq : goal.returns-then-eq
returns-then-eq c =
    let same : c.args.own.now ≡ c.args.other.now = same_text c.args.own.now c.args.other.now (sym c.if-eq.true ∙ c.eq.ensures) in
    sym (tied_itself nat_list_cmp_total (reverse c.args.own.now)) ∙ ap (λ (z : List ℕ). sort_key_cmp (reverse c.args.own.now) (reverse z)) same
