-- Parts of definitions that lemmas speak of.
use Rattle.std.specs.Prelude.{ℕ, List, Option, codes, ◌∷◌, [], None, bytes_eq, option_and_then, option_map, ◌&&◌, if◌then◌else◌}
use Rattle.run_words.specs.declared.command.Message.TheVariants.{Dhcp, Lldp}
use Rattle.run_words.specs.declared.command.Message.{Message}
use Rattle.run_words.specs.Words.{meaning_in, count_in, is_path, kind_in, over_path}
use Rattle.run_words.specs.declared.command.Command.{Command}
use Rattle.run_words.specs.declared.command.Command.TheVariants.{Hear, Check, Frames, Judge, Tally, Snoop, Import, Replay, Serve, Report, Export, Drill}
use Rattle.mud_base.specs.Reading.{mac_in}

abbrev pub message_in : List ℕ → Option Message
message_in = meaning_in ((codes "dhcp", Dhcp) ∷ (codes "lldp", Lldp) ∷ [])

abbrev pub one_word : List ℕ → Option Command
one_word = meaning_in ((codes "check", Check) ∷ (codes "frames", Frames) ∷ [])

abbrev pub two_words : List ℕ → List ℕ → Option Command
two_words first second =
    if bytes_eq first (codes "hear") then option_map Hear (message_in second)
    else (if bytes_eq first (codes "judge") then over_path Judge second
    else (if bytes_eq first (codes "snoop") then over_path Snoop second
    else (if bytes_eq first (codes "tally") then over_path Tally second
    else (if bytes_eq first (codes "replay") then over_path Replay second
    else (if bytes_eq first (codes "drill") then option_map Drill (count_in 100000 second)
    else None)))))

abbrev pub four_words : List ℕ → List ℕ → List ℕ → List ℕ → Option Command
four_words first second third fourth =
    if bytes_eq first (codes "serve") && is_path second
    then option_and_then (λ port. option_map (Serve port) (count_in 1000000 fourth)) (count_in 65535 third)
    else None

abbrev pub three_words : List ℕ → List ℕ → List ℕ → Option Command
three_words first second third =
    if bytes_eq first (codes "import") && is_path second then over_path Import third
    else (if bytes_eq first (codes "report") && is_path second then option_map Report (kind_in third)
    else (if bytes_eq first (codes "export") && is_path second then option_map Export (mac_in third)
    else None))
