use Rattle.std.proofs.Common.{List, ap, ◌∙◌}
use Rattle.std.specs.declared.alloc.Global.{Global}
use Rattle.std.specs.declared.string.String.{String}
use Rattle.mud_cli.specs.Runs.{world}
use Rattle.run_words.specs.Words.{command_in, words_of}
use Rattle.worked_runs.proofs.ended.run.Goals as goal

pub returns : goal.returns
returns c =
    let run = c.mud_main-status in
    record {
      kept = c.new-keeper.result;
      before = world c.in_ok-door.door c.new-spool.result c.in_ok-clock.clock;
      clock_after = run.new.clock;
      keeper_is = c.new-keeper.ensures;
      door_is = c.in_ok-door.ensures;
      spool_is = c.new-spool.ensures;
      clock_is = c.in_ok-clock.ensures;
      unlisted = λ none. (run.ensures.words).1 (ap (λ (words : List (String Global)). command_in (words_of words)) c.deref.ensures.value ∙ none);
      untouched = run.ensures.untouched;
      does = λ command named. run.ensures.does command (ap (λ (words : List (String Global)). command_in (words_of words)) c.deref.ensures.value ∙ named);
    }
