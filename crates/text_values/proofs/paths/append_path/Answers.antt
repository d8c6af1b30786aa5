use Rattle.std.proofs.Common.{◌≡◌, ℕ, ◌+◌, ◌<◌, List, ◌++◌, length, take, drop, get_or, flat_map, sym, ap, ◌∙◌}
use Rattle.std.proofs.lemmas.Grind.{flat_map-append}
use Rattle.std.proofs.lemmas.List.{drop_more, take-append-drop}
use Rattle.text_values.specs.Paths.{shown}
use Rattle.text_values.proofs.Parts.{always_on_err, part_behind, path_text}
use Rattle.text_values.proofs.paths.append_path.Goals as goal

-- a path, from an octet on
path_from : (path : List ℕ) (i : ℕ) → i < length path
    → flat_map shown path ≡ flat_map shown (take i path) ++ (shown (get_or path i 0) ++ flat_map shown (drop (i + 1) path))
path_from path i within =
    ap (flat_map shown) (sym (take-append-drop i path))
    ∙ flat_map-append shown (take i path) (drop i path)
    ∙ ap (λ (octets : List ℕ). flat_map shown (take i path) ++ flat_map shown octets) (drop_more path i 0 within)

pub returns-in_err-append_shown-clause-part : goal.returns-in_err-append_shown-clause-part
returns-in_err-append_shown-clause-part c =
    let path = c.args.path.now in
    let i = c.path.octet-index in
    always_on_err c.from_residual.result
    (part_behind (path_text path) (flat_map shown (take i path)) (shown (get_or path i 0)) (flat_map shown (drop (i + 1) path)) c.args.line.now c.path.line c.append_shown.new.line
    (path_from path i c.path-test.true) c.path.invariant c.in_err-append_shown.ensures.part)
