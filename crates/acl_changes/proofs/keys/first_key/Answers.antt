use Rattle.std.proofs.Common.{◌≡◌, ℕ, ◌+◌, ◌-◌, List, length, drop, ap, sym, ◌∙◌, arith, length-drop}
use Rattle.std.specs.Option.{option_map}
use Rattle.std.specs.List.{filter_map}
use Rattle.std.proofs.lemmas.List.{take_all, drop_all}
use Rattle.acl_model.specs.declared.entry.Selector.{Selector}
use Rattle.acl_model.specs.declared.binding.MemberKey.{MemberKey}
use Rattle.acl_model.specs.Keys.{key_of}
use Rattle.acl_rows.specs.Rows.{member_keys}
use Rattle.acl_changes.specs.EntryKeys.{key_parts}
use Rattle.acl_changes.specs.Fresh.{first_of, rest_of}
use Rattle.acl_changes.proofs.LeastExpiries.{rest_cons}
use Rattle.acl_changes.proofs.FreshLaws.{first_some, behind_some, no_key}
use Rattle.acl_changes.proofs.keys.first_key.Goals as goal

pub returns-in-Some-clause-key : goal.returns-in-Some-clause-key
unfolding member_keys
returns-in-Some-clause-key c =
    let i : ℕ = c.loop-selector.selector-index in
    let all : List Selector = c.as_slice-selectors.result.now in
    let more : List MemberKey = filter_map (key_of c.args.url.now) (drop (i + 1) all) in
    let rest = c.loop-selector.invariant.keys ∙ rest_cons c.args.url.now all i c.selector-item.result c.loop-selector-test.true c.selector-item.is in
    first_some (c.in-Some.key.kind, c.in-Some.key.text.now) (key_of c.args.url.now c.selector-item.result) more c.in-Some.ensures
    ∙ ap (λ (ks : List MemberKey). option_map key_parts (first_of ks)) (sym rest ∙ ap (filter_map (key_of c.args.url.now)) c.as_slice-selectors.ensures)

pub returns-in-Some-clause-behind : goal.returns-in-Some-clause-behind
unfolding member_keys
returns-in-Some-clause-behind c =
    let i : ℕ = c.loop-selector.selector-index in
    let all : List Selector = c.as_slice-selectors.result.now in
    let more : List MemberKey = filter_map (key_of c.args.url.now) (drop (i + 1) all) in
    let rest = c.loop-selector.invariant.keys ∙ rest_cons c.args.url.now all i c.selector-item.result c.loop-selector-test.true c.selector-item.is in
    ap (filter_map (key_of c.args.url.now)) (take_all (length all - (c.loop-selector.next + 1)) (drop (c.loop-selector.next + 1) all) (omega (arith, length-drop (c.loop-selector.next + 1) all)))
    ∙ ap (λ (n : ℕ). filter_map (key_of c.args.url.now) (drop (n + 1) all)) c.loop-selector.invariant.next
    ∙ behind_some (c.in-Some.key.kind, c.in-Some.key.text.now) (key_of c.args.url.now c.selector-item.result) more c.in-Some.ensures
    ∙ ap (λ (ks : List MemberKey). rest_of ks) (sym rest ∙ ap (filter_map (key_of c.args.url.now)) c.as_slice-selectors.ensures)

pub loop-selector-preserved : goal.loop-selector-preserved
loop-selector-preserved c =
    let i : ℕ = c.loop-selector.selector-index in
    let all : List Selector = c.as_slice-selectors.result.now in
    let more : List MemberKey = filter_map (key_of c.args.url.now) (drop (i + 1) all) in
    record {
      keys =
          c.loop-selector.invariant.keys
          ∙ rest_cons c.args.url.now all i c.selector-item.result c.loop-selector-test.true c.selector-item.is
          ∙ no_key (key_of c.args.url.now c.selector-item.result) more c.in_default.ensures;
      next = omega (arith, c.loop-selector.invariant.next);
    }

pub returns-clause-key : goal.returns-clause-key
unfolding member_keys first_of
returns-clause-key c =
    ap (λ (ks : List MemberKey). option_map key_parts (first_of ks))
    (sym (c.loop-selector.invariant.keys ∙ ap (filter_map (key_of c.args.url.now)) (drop_all c.loop-selector.selector-index c.as_slice-selectors.result.now c.loop-selector-test.false))
    ∙ ap (filter_map (key_of c.args.url.now)) c.as_slice-selectors.ensures)
