-- The parts of a body are the body.
use Rattle.std.proofs.Common.{◌≡◌, ℕ, List, ◌∷◌, [], ◌++◌, sym, ap, ◌∙◌, append_assoc}
use Rattle.std.specs.Prelude.{codes}
use Rattle.json.specs.Print.{escape, quoted}
use Rattle.console_answers.specs.Kept.{kept}
use Rattle.console_answers.proofs.KeptLemmas.{kept_behind}

-- a string whose quotes are written with what stands around it
joined_text : (s text : List ℕ) → kept (kept (kept (s ++ codes "{\"verdict\":\"") ++ escape text) ++ codes "\"}") ≡ kept (s ++ (codes "{\"verdict\":" ++ quoted text ++ codes "}"))
joined_text s text =
    ap (λ x. kept (x ++ codes "\"}")) (kept_behind s (codes "{\"verdict\":\"") (escape text))
    ∙ kept_behind s (codes "{\"verdict\":\"" ++ escape text) (codes "\"}")
    ∙ ap (λ x. kept (s ++ (codes "{\"verdict\":\"" ++ x))) (sym (append_assoc (escape text) (34 ∷ []) (125 ∷ [])))

pub joined_verdict : (s text t u v : List ℕ) → t ≡ kept (s ++ codes "{\"verdict\":\"") → u ≡ kept (t ++ escape text) → v ≡ kept (u ++ codes "\"}") → v ≡ kept (s ++ (codes "{\"verdict\":" ++ quoted text ++ codes "}"))
joined_verdict s text t u v first second third =
    third ∙ ap (λ x. kept (x ++ codes "\"}")) second ∙ ap (λ x. kept (kept (x ++ escape text) ++ codes "\"}")) first ∙ joined_text s text
