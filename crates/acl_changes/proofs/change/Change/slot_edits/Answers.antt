use Rattle.std.proofs.Common.{◌≡◌, ◌*◌, List, length, Option, Some, OnOk, sym, ap, subst, ◌∙◌, arith}
use Rattle.std.proofs.lemmas.Result.{on_ok_weaker}
use Rattle.acl_model.specs.Policies.{UrlPolicy}
use Rattle.acl_rows.specs.declared.row.Owner.TheVariants.{Url}
use Rattle.acl_rows.specs.declared.row.Row.{Row}
use Rattle.acl_rows.specs.Rows.{Holder, held_by}
use Rattle.acl_changes.specs.Touched.{holder_touches, with_edits}
use Rattle.base_rows.specs.declared.edit.Edit.{Edit}
use Rattle.acl_changes.specs.Change.{more_edits, slot_touches}
use Rattle.acl_changes.specs.Steps.{least_steps, HolderFits}
use Rattle.acl_changes.proofs.Loops.{slot_holds, least_steps-none}
use Rattle.acl_changes.proofs.change.Change.slot_edits.Goals as goal

pub holder_edits-requires : goal.holder_edits-requires
holder_edits-requires g c =
    ap (held_by c.args.self.now.slots) c.of_held-holding.ensures.owner
    ∙ slot_holds c.args.self.now.slots c.args.n c.in-Some.held (c.requires.stands ∙ ap Some c.in-Some.is)
    ∙ ap Some (sym c.of_held-holding.ensures.held)

pub returns-in-None-clause-ok : goal.returns-in-None-clause-ok
unfolding slot_touches more_edits with_edits
returns-in-None-clause-ok g c = sym (ap (λ (s : Option UrlPolicy). more_edits c.args.self.now (slot_touches c.args.binding.now.key c.args.binding.now.addr c.args.n s) c.args.edits.now.rows) c.in-None.is)

pub returns-in-Some-clause-ok : goal.returns-in-Some-clause-ok
unfolding slot_touches
returns-in-Some-clause-ok g c =
    let same : c.of_held-holding.result ≡ (Url c.args.n, c.in-Some.held) = (λ i. (c.of_held-holding.ensures.owner i, c.of_held-holding.ensures.held i)) in
    let touched =
    ap (λ (h : Holder). more_edits c.args.self.now (holder_touches c.args.binding.now.key c.args.binding.now.addr h) c.args.edits.now.rows) same
    ∙ sym (ap (λ (s : Option UrlPolicy). more_edits c.args.self.now (slot_touches c.args.binding.now.key c.args.binding.now.addr c.args.n s) c.args.edits.now.rows) c.in-Some.is) in
    subst (λ (rows : List (Edit Row)). OnOk c.holder_edits.result (c.holder_edits.new.edits.rows ≡ rows)) touched c.holder_edits.ensures.ok

pub returns-in-Some-clause-most : goal.returns-in-Some-clause-most
unfolding slot_touches
returns-in-Some-clause-most g c = λ b k u few rows fit.
    let same : c.of_held-holding.result ≡ (Url c.args.n, c.in-Some.held) = (λ i. (c.of_held-holding.ensures.owner i, c.of_held-holding.ensures.held i)) in
    let holds = slot_holds c.args.self.now.slots c.args.n c.in-Some.held (c.requires.stands ∙ ap Some c.in-Some.is) in
    let own : HolderFits c.of_held-holding.result b k u = subst (λ (h : Holder). HolderFits h b k u) (sym same) (fit (Url c.args.n) c.in-Some.held holds) in
    let count =
    ap (λ (s : Option UrlPolicy). length (slot_touches c.args.binding.now.key c.args.binding.now.addr c.args.n s) * u) c.in-Some.is
    ∙ sym (ap (λ (h : Holder). length (holder_touches c.args.binding.now.key c.args.binding.now.addr h) * u) same) in
    omega (arith, c.holder_edits.ensures.most b k u few rows own, count)

pub returns-in-None-clause-read : goal.returns-in-None-clause-read
unfolding slot_touches
returns-in-None-clause-read g c =
    let none = ap (λ (s : Option UrlPolicy). least_steps c.args.self.now.rows (slot_touches c.args.binding.now.key c.args.binding.now.addr c.args.n s)) c.in-None.is ∙ least_steps-none c.args.self.now.rows in
    omega (arith, none)

pub returns-in-Some-clause-read : goal.returns-in-Some-clause-read
unfolding slot_touches
returns-in-Some-clause-read g c =
    let same : c.of_held-holding.result ≡ (Url c.args.n, c.in-Some.held) = (λ i. (c.of_held-holding.ensures.owner i, c.of_held-holding.ensures.held i)) in
    let count =
    ap (λ (s : Option UrlPolicy). least_steps c.args.self.now.rows (slot_touches c.args.binding.now.key c.args.binding.now.addr c.args.n s)) c.in-Some.is
    ∙ sym (ap (λ (h : Holder). least_steps c.args.self.now.rows (holder_touches c.args.binding.now.key c.args.binding.now.addr h)) same) in
    on_ok_weaker c.holder_edits.result (λ read. omega (arith, read, count)) c.holder_edits.ensures.read
