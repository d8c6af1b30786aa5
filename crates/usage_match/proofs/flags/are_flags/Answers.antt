use Rattle.std.proofs.Common.{lit<, rules, tests}
use Rattle.std.proofs.lemmas.Iterator.Search.{all_from_yields_List}
use Rattle.std.proofs.lemmas.Iterator.Splits.{YieldsList-from_str_split}
use Rattle.usage_match.specs.Flags.{is_piece, pieces}
use Rattle.usage_match.proofs.flags.are_flags.Goals as goal

pub returns : goal.returns
unfolding pieces
returns c =
    all_from_yields_List is_piece _ _ _ c.all.ensures.ran
    (YieldsList-from_str_split 32 c.args.text.now (lit< tt) c.split.ensures.text c.split.ensures.has_more c.split.ensures.pattern)
    (λ x b q k. search (rules, tests))
