use Rattle.std.proofs.Common.{◌≡◌, ap, ◌∙◌, refl, subst, true}
use Rattle.clap.specs.Words.{fault_of, is_simple_and_free}
use Rattle.clap.specs.Kinds.{HasKind}
use Rattle.run_words.specs.Parser.{program}
use Rattle.run_words.specs.Words.{words_of}
use Rattle.run_words.proofs.Passing.{refused_by_kind}
use Rattle.run_words.proofs.parser.is_refused.Goals as goal

is_simple : is_simple_and_free program ≡ true
is_simple = refl

pub returns : goal.returns
returns c =
    let words = words_of c.args.words.now in
    let error = c.in-Err.error in
    let kinds = c.in-Err.ensures.kinds (ap is_simple_and_free c.in-Ok.ensures ∙ is_simple) in
    let has : HasKind (fault_of program words) error = subst (λ app. HasKind (fault_of app words) error) c.in-Ok.ensures kinds in
    λ _. refused_by_kind words error has (λ memory. c.in_default-kind.not-OutOfMemory (c.kind.ensures ∙ memory))
