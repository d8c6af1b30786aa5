use Rattle.std.proofs.Common.{ap, ◌∙◌, bytes_eq, lit<, rules, tests}
use Rattle.std.specs.Str.Iter.{split_text, split_has_more, split_pattern}
use Rattle.std.proofs.lemmas.Iterator.Consumers.{count_from_yields_List, YieldsList-from_filter}
use Rattle.std.proofs.lemmas.Iterator.Splits.{YieldsList-from_str_split}
use Rattle.acl_model.specs.TcpFlags.{word_of}
use Rattle.usage_match.specs.Flags.{times, pieces}
use Rattle.usage_match.proofs.flags.times.Goals as goal

pub returns : goal.returns
unfolding times pieces
returns c =
    let source = c.filter.ensures.source in
    count_from_yields_List c.filter.result _ c.count.ensures.ran
    (YieldsList-from_filter _ (λ piece. bytes_eq piece (word_of c.args.flag))
    (YieldsList-from_str_split 32 c.args.text.now (lit< tt) (ap split_text source ∙ c.split.ensures.text) (ap split_has_more source ∙ c.split.ensures.has_more) (ap split_pattern source ∙ c.split.ensures.pattern))
    c.filter.ensures.closure (λ x b q k. search (rules, tests)))
